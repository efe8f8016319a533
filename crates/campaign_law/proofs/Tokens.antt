-- Whom the tokens are of that a command leaves.
use Rattle.std.proofs.Common.{◌≡◌, ℕ, Bool, true, List, [], ◌∷◌, Some, None, refl, ℤ, subst, sym}
use Rattle.std.specs.Prelude.{Option}
use Rattle.std.specs.List.{list_all}
use Rattle.names.specs.declared.kinds.PropClass.TheVariants.{Secret as SecretClass}
use Rattle.names.specs.declared.token_id.TokenId.{TokenId}
use Rattle.tokens.specs.declared.token.Token.{Token as Made}
use Rattle.tokens.specs.Tokens.{placed, with_light, with_prop, owned_by, on_layer, shown_if, with_sight}
use Rattle.command_json.specs.declared.command.Command.{Command}
use Rattle.command_json.specs.declared.command.Command.TheVariants.{Macro, Move, Make, Token, Setprop, Light, Remove, Own, Layer, Visible, Sight, Place, Secret}
use Rattle.world.specs.Scene.{Scene, with_token}
use Rattle.world.proofs.TokenRules.{all_put, all_without, all_changed}
use Rattle.world.proofs.Makers.{with_prop_keeps_id}
use Rattle.command_rules.specs.Places.{coordinate, cell_at}
use Rattle.command_effects.specs.Making.{new_token, players_token, with_new}
use Rattle.command_effects.specs.Tags.{tag_made}
use Rattle.command_effects.specs.GmEffects.{gm_scene_by}
use Rattle.macro_eval.specs.declared.intent.Intent.{Intent}
use Rattle.command_effects.specs.MacroEffects.{with_intent, with_intents}
use Rattle.command_effects.specs.Effects.{own_token, after_steps, scene_by, cell_after}

-- a test of ids that all tokens pass, and the id that the command makes
module _ (test : TokenId → Bool) where
  abbrev pub AllPass : Scene → Type 0
  AllPass s = list_all (λ t. test t.id) s.tokens ≡ true

  made_passes : (t : Made) (s : Scene) → test t.id ≡ true → AllPass s → AllPass (with_new t s)
  made_passes t s h all = all_put (λ u. test u.id) t s.tokens h all

  changed_passes : (f : Made → Made) → ((t : Made) → (f t).id ≡ t.id) → (id : TokenId) (s : Scene) → AllPass s → AllPass (with_token id f s)
  changed_passes f same id s all = all_changed (λ u. test u.id) f (λ t h. subst (λ (i : TokenId). test i ≡ true) (sym (same t)) h) id s.tokens all

  steps_pass : (steps : ℕ) (id : TokenId) (path : List (ℤ × ℤ)) (o : Option Made) (s : Scene) → AllPass s → AllPass (after_steps steps id path o s)
  steps_pass steps id path None s all = all
  steps_pass steps id path (Some t) s all = changed_passes (placed t.map (cell_after steps t.cell path)) (λ u. refl) id s all

  intents_pass : (intents : List Intent) (s : Scene) → AllPass s → AllPass (with_intents intents s)
  intents_pass [] s all = all
  intents_pass (i ∷ intents) s all = intents_pass intents (with_intent i s) (changed_passes (with_prop i.class i.name i.value) (with_prop_keeps_id i.class i.name i.value) i.id s all)

  pub all_pass_after : (steps : ℕ) (intents : List Intent) (seat : ℕ) (s : Scene) (c : Command) → ((tag : List ℕ) → tag_made c ≡ Some tag → test (record { maker = seat; tag = tag }) ≡ true) → AllPass s → AllPass (scene_by steps intents seat s (Some c))
  unfolding scene_by gm_scene_by
  all_pass_after steps intents seat s (Macro name args to) made all = intents_pass intents s all
  all_pass_after steps intents seat s (Move token path) made all = steps_pass steps token path (own_token s seat token) s all
  all_pass_after steps intents seat s (Setprop token class name value) made all = changed_passes (with_prop class name value) (with_prop_keeps_id class name value) token s all
  all_pass_after steps intents seat s (Light token light) made all = changed_passes (with_light light) (λ u. refl) token s all
  all_pass_after steps intents seat s (Make tag map place name) made all = made_passes (players_token seat tag map place name) s (made tag refl) all
  all_pass_after steps intents seat s (Remove token) made all = all_without (λ u. test u.id) token s.tokens all
  all_pass_after steps intents seat s (Token tag map place name size layer) made all = made_passes (new_token seat tag map place name (coordinate size) layer 0) s (made tag refl) all
  all_pass_after steps intents seat s (Own token owner on) made all = changed_passes (owned_by owner on) (λ u. refl) token s all
  all_pass_after steps intents seat s (Layer token layer) made all = changed_passes (on_layer layer) (λ u. refl) token s all
  all_pass_after steps intents seat s (Visible token on) made all = changed_passes (shown_if on) (λ u. refl) token s all
  all_pass_after steps intents seat s (Sight token sight) made all = changed_passes (with_sight sight) (λ u. refl) token s all
  all_pass_after steps intents seat s (Place token map cell) made all = changed_passes (placed map (cell_at cell)) (λ u. refl) token s all
  all_pass_after steps intents seat s (Secret token name value) made all = changed_passes (with_prop SecretClass name value) (with_prop_keeps_id SecretClass name value) token s all
  all_pass_after steps intents seat s c made all = all
