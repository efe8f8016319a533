-- What no command changes of a token: its id, its name and its size.
use Rattle.std.proofs.Common.{◌≡◌, ℕ, ◌≤◌, Bool, true, ◌&&◌, nat_le, length, List, [], ◌∷◌, Some, None, refl, ℤ, pos, negsuc, subst, sym, arith}
use Rattle.std.specs.Prelude.{Option}
use Rattle.std.specs.List.{list_all}
use Rattle.std.proofs.lemmas.Bool.Decides.{nat_tests}
use Rattle.names.specs.declared.kinds.PropClass.{PropClass}
use Rattle.names.specs.declared.kinds.PropClass.TheVariants.{Public, Own as OwnClass, Secret as SecretClass}
use Rattle.names.specs.declared.token_id.TokenId.{TokenId}
use Rattle.tokens.specs.declared.token.Token.{Token as Made}
use Rattle.tokens.specs.Tokens.{placed, with_light, with_prop, owned_by, on_layer, shown_if, with_sight}
use Rattle.command_json.specs.Limits.{IsCommand, IsNumber, IsWithin}
use Rattle.command_json.specs.declared.command.Command.{Command}
use Rattle.command_json.specs.declared.command.Command.TheVariants.{Macro, Move, Make, Token, Setprop, Light, Remove, Own, Layer, Visible, Sight, Place, Secret}
use Rattle.world.specs.Scene.{Scene, with_token}
use Rattle.world.proofs.TokenRules.{all_put, all_without, all_changed}
use Rattle.command_rules.specs.Places.{coordinate, cell_at}
use Rattle.command_effects.specs.Making.{new_token, players_token, with_new}
use Rattle.command_effects.specs.GmEffects.{gm_scene_by}
use Rattle.macro_eval.specs.declared.intent.Intent.{Intent}
use Rattle.command_effects.specs.MacroEffects.{with_intent, with_intents}
use Rattle.command_effects.specs.Effects.{own_token, after_steps, scene_by, cell_after}
use Rattle.campaign_writing.specs.Written.{is_written_token, are_written_tokens}

-- the same name and size
abbrev pub KeepsForm : (Made → Made) → Type 0
KeepsForm f = (t : Made) → ((f t).name ≡ t.name) × ((f t).size ≡ t.size)

prop_keeps : (class : PropClass) (name value : List ℕ) → KeepsForm (with_prop class name value)
prop_keeps Public name value t = (refl, refl)
prop_keeps OwnClass name value t = (refl, refl)
prop_keeps SecretClass name value t = (refl, refl)

test : Made → Bool
test t = is_written_token t.name t.size

changed_is : (f : Made → Made) → KeepsForm f → (id : TokenId) (s : Scene) → list_all test s.tokens ≡ true → list_all test (with_token id f s).tokens ≡ true
unfolding test
changed_is f same id s all = all_changed test f (λ t h. subst (λ n. is_written_token (f t).name n ≡ true) (sym (same t).1) (subst (λ n. is_written_token n t.size ≡ true) (sym (same t).0) h)) id s.tokens all

made_is : (t : Made) (s : Scene) → test t ≡ true → list_all test s.tokens ≡ true → list_all test (with_new t s).tokens ≡ true
made_is t s h all = all_put test t s.tokens h all

steps_are : (steps : ℕ) (id : TokenId) (path : List (ℤ × ℤ)) (o : Option Made) (s : Scene) → list_all test s.tokens ≡ true → list_all test (after_steps steps id path o s).tokens ≡ true
steps_are steps id path None s all = all
steps_are steps id path (Some t) s all = changed_is (placed t.map (cell_after steps t.cell path)) (λ u. (refl, refl)) id s all

intents_are : (intents : List Intent) (s : Scene) → list_all test s.tokens ≡ true → list_all test (with_intents intents s).tokens ≡ true
intents_are [] s all = all
intents_are (i ∷ intents) s all = intents_are intents (with_intent i s) (changed_is (with_prop i.class i.name i.value) (prop_keeps i.class i.name i.value) i.id s all)

written : (n size : ℕ) → IsWithin 1 40 n → 1 ≤ size → size ≤ 4 → (nat_le 1 n && (nat_le n 40 && (nat_le 1 size && nat_le size 4))) ≡ true
written n size is low high = grind (arith, nat_tests, is.at_least, is.at_most)

sized : (z : ℤ) → IsNumber 1 4 z → (1 ≤ coordinate z) × (coordinate z ≤ 4)
sized (pos n) is = (is.at_least, is.at_most)
sized (negsuc n) is = absurd is

pub written_after : (steps : ℕ) (intents : List Intent) (seat : ℕ) (s : Scene) (c : Command) → IsCommand c → are_written_tokens s.tokens ≡ true → are_written_tokens (scene_by steps intents seat s (Some c)).tokens ≡ true
unfolding scene_by gm_scene_by test
written_after steps intents seat s (Macro name args to) is all = intents_are intents s all
written_after steps intents seat s (Move token path) is all = steps_are steps token path (own_token s seat token) s all
written_after steps intents seat s (Setprop token class name value) is all = changed_is (with_prop class name value) (prop_keeps class name value) token s all
written_after steps intents seat s (Light token light) is all = changed_is (with_light light) (λ u. (refl, refl)) token s all
written_after steps intents seat s (Make tag map place name) is all = made_is (players_token seat tag map place name) s (written (length name) 1 is.0 (omega arith) (omega arith)) all
written_after steps intents seat s (Remove token) is all = all_without test token s.tokens all
written_after steps intents seat s (Token tag map place name size layer) is all = made_is (new_token seat tag map place name (coordinate size) layer 0) s (written (length name) (coordinate size) is.0 (sized size is.1).0 (sized size is.1).1) all
written_after steps intents seat s (Own token owner on) is all = changed_is (owned_by owner on) (λ u. (refl, refl)) token s all
written_after steps intents seat s (Layer token layer) is all = changed_is (on_layer layer) (λ u. (refl, refl)) token s all
written_after steps intents seat s (Visible token on) is all = changed_is (shown_if on) (λ u. (refl, refl)) token s all
written_after steps intents seat s (Sight token sight) is all = changed_is (with_sight sight) (λ u. (refl, refl)) token s all
written_after steps intents seat s (Place token map cell) is all = changed_is (placed map (cell_at cell)) (λ u. (refl, refl)) token s all
written_after steps intents seat s (Secret token name value) is all = changed_is (with_prop SecretClass name value) (prop_keeps SecretClass name value) token s all
written_after steps intents seat s c is all = all
