-- What a player's command that breaks no rule may rely on.
use Rattle.std.proofs.Common.{◌≡◌, ◌≢◌, ◌≤◌, ℕ, Bool, true, false, cond, ◌&&◌, ◌||◌, not, eqb, List, [], ◌∷◌, Some, None, refl, ◌∙◌, ap, arith, ℤ}
use Rattle.std.specs.Prelude.{Option, option_map, is_some, nat_le}
use Rattle.std.specs.List.{find, list_any}
use Rattle.std.specs.Str.{bytes_eq}
use Rattle.std.proofs.lemmas.Bool.{and_from}
use Rattle.std.proofs.lemmas.Bool.Decides.{nat_tests}
use Rattle.std.proofs.lemmas.Map.Text.{is_eq-slice_cmp}
use Rattle.names.specs.declared.kinds.PropClass.{PropClass}
use Rattle.names.specs.declared.kinds.PropClass.TheVariants.{Public, Own as OwnClass, Secret as SecretClass}
use Rattle.names.specs.declared.token_id.TokenId.{TokenId}
use Rattle.cells.specs.Cells.{has}
use Rattle.seats.specs.Book.{tag_used, tags_spent}
use Rattle.maps.specs.Maps.{Grid, has_name, in_order as maps_in_order}
use Rattle.tokens.specs.declared.token.Token.{Token}
use Rattle.tokens.specs.Tokens.{has_token, in_order}
use Rattle.tokens.specs.Properties.{is_full_for}
use Rattle.tokens.specs.Owners.{with_owner}
use Rattle.type_table.specs.Types.{type_of}
use Rattle.command_json.specs.declared.command.Command.TheVariants.{Setprop, Light, Make, Init, Uninit}
use Rattle.world.specs.Scene.{Scene}
use Rattle.world.specs.Rules.{is_known, is_player, are_players, belongs, fits, fits_on}
use Rattle.world.proofs.TokenRules.{players_with}
use Rattle.player_view.specs.View.{is_gm, has_map}
use Rattle.player_view.specs.Asked.{Mine, Known, asked_of, mine_of, known_of}
use Rattle.command_rules.specs.declared.refusal.Refusal.{Refusal}
use Rattle.command_rules.specs.declared.refusal.Refusal.TheVariants.{OffMap, TagUsed, TagsSpent, NotExposed, PlayersOnly, UnknownLight}
use Rattle.command_rules.specs.Places.{fits_at, cell_at}
use Rattle.command_rules.specs.Rules.{setprop_rule, type_rule, light_rule, cell_rule, make_on, init_rule, uninit_rule, rule_of}
use Rattle.command_effects.specs.Effects.{own_token}
use Rattle.command_effects.specs.Allowed.{IsAllowed, MaySet, MayStand}
use Rattle.command_rules.proofs.OneMap.{one_map}
use Rattle.command_effects.proofs.Moves.{one_token, fits_there}
use Rattle.command_effects.proofs.GmAllowed.{has_room}

-- ---- properties

pub may_set_by : (s : Scene) (seat : ℕ) (id : TokenId) (class : PropClass) (name : List ℕ) → in_order s.tokens ≡ true → class ≢ SecretClass → (o : Option Token) → own_token s seat id ≡ o → setprop_rule seat class name (option_map mine_of o) ≡ None → MaySet s id class name
may_set_by s seat id class name ordered plain None found h = cc
may_set_by s seat id Public name ordered plain (Some t) found h = record { token = t; found = one_token s seat id t ordered found; room = has_room (is_full_for name t.public) h }
may_set_by s seat id OwnClass name ordered plain (Some t) found h = record { token = t; found = one_token s seat id t ordered found; room = has_room (is_full_for name t.own) h }
may_set_by s seat id SecretClass name ordered plain (Some t) found h = absurd (plain refl)

pub may_set : (s : Scene) (seat : ℕ) (id : TokenId) (class : PropClass) (name value : List ℕ) → in_order s.tokens ≡ true → IsAllowed s seat (Setprop id class name value) → MaySet s id class name
unfolding asked_of rule_of
may_set s seat id class name value ordered allowed = may_set_by s seat id class name ordered allowed.form.0 (own_token s seat id) refl allowed.rule

-- ---- lights

known_light : (name : List ℕ) (lights : List (List ℕ × ℤ)) → is_some (type_of name lights) ≡ list_any (λ light. bytes_eq name light.0) lights
known_light name [] = refl
known_light name (l ∷ ls) = ap (λ b. is_some (cond b (Some l.1) (type_of name ls))) (is_eq-slice_cmp name l.0) ∙ by (bytes_eq name l.0) (known_light name ls)
  where
    by : (b : Bool) → is_some (type_of name ls) ≡ list_any (λ light. bytes_eq name light.0) ls → is_some (cond b (Some l.1) (type_of name ls)) ≡ (b || list_any (λ light. bytes_eq name light.0) ls)
    by true rest = refl
    by false rest = rest

light_known : (lights : List (List ℕ × ℤ)) (light : Option (List ℕ)) → type_rule (λ name. list_any (λ light. bytes_eq name light.0) lights) light ≡ None → is_known lights light ≡ true
light_known lights None h = refl
light_known lights (Some name) h = known_light name lights ∙ by (list_any (λ light. bytes_eq name light.0) lights) h
  where
    by : (b : Bool) → cond b None (Some UnknownLight) ≡ None → b ≡ true
    by true h = refl
    by false h = cc

may_light_by : (seats : ℕ) (s : Scene) (seat : ℕ) (id : TokenId) (light : Option (List ℕ)) → in_order s.tokens ≡ true → (o : Option Token) → own_token s seat id ≡ o → light_rule (asked_of seats s seat) seat light (option_map mine_of o) ≡ None → (has_token id s.tokens ≡ true) × (is_known s.lights light ≡ true)
unfolding asked_of
may_light_by seats s seat id light ordered None found h = cc
may_light_by seats s seat id light ordered (Some t) found h = (ap is_some (one_token s seat id t ordered found), light_known s.lights light h)

pub may_light : (s : Scene) (seat : ℕ) (id : TokenId) (light : Option (List ℕ)) → in_order s.tokens ≡ true → IsAllowed s seat (Light id light) → (has_token id s.tokens ≡ true) × (is_known s.lights light ≡ true)
unfolding asked_of rule_of
may_light s seat id light ordered allowed = may_light_by allowed.seats s seat id light ordered (own_token s seat id) refl allowed.rule

-- ---- the fight

-- a rule that is broken without a token
there_by : (rule : Option Mine → Option Refusal) (s : Scene) (seat : ℕ) (id : TokenId) → in_order s.tokens ≡ true → (rule None ≡ None → ⊥) → (o : Option Token) → own_token s seat id ≡ o → rule (option_map mine_of o) ≡ None → has_token id s.tokens ≡ true
there_by rule s seat id ordered broken None found h = absurd (broken h)
there_by rule s seat id ordered broken (Some t) found h = ap is_some (one_token s seat id t ordered found)

pub may_init : (s : Scene) (seat : ℕ) (id : TokenId) (value : ℤ) → in_order s.tokens ≡ true → IsAllowed s seat (Init id value) → has_token id s.tokens ≡ true
unfolding asked_of rule_of
may_init s seat id value ordered allowed = there_by (init_rule seat) s seat id ordered (λ no. cc) (own_token s seat id) refl allowed.rule

pub may_uninit : (s : Scene) (seat : ℕ) (id : TokenId) → in_order s.tokens ≡ true → IsAllowed s seat (Uninit id) → has_token id s.tokens ≡ true
unfolding asked_of rule_of
may_uninit s seat id ordered allowed =
    let asked = asked_of allowed.seats s seat in
    there_by (uninit_rule seat (asked.listed id)) s seat id ordered (λ no. cc) (own_token s seat id) refl allowed.rule

-- ---- making

fits_of : (seat : ℕ) (tags : List (List ℕ)) (tag : List ℕ) (place : ℤ × ℤ) (m : Known) → cell_rule seat tags tag place m ≡ None → fits_at m.size 1 place ≡ true
fits_of seat tags tag place m h = by (fits_at m.size 1 place) h
  where
    by : (b : Bool) → cond (not b) (Some OffMap) (cond (tag_used tags tag) (Some TagUsed) (cond (tags_spent seat tags) (Some TagsSpent) (cond (not (has m.exposed (cell_at place).x (cell_at place).y)) (Some NotExposed) None))) ≡ None → b ≡ true
    by true h = refl
    by false h = cc

stands_on : (s : Scene) (seat : ℕ) (tags : List (List ℕ)) (tag name : List ℕ) (place : ℤ × ℤ) → maps_in_order s.maps ≡ true → (o : Option Grid) → find (λ m. has_map seat m && has_name name m) s.maps ≡ o → make_on seat tags tag place (option_map (known_of s seat) o) ≡ None → MayStand s name 1 place
stands_on s seat tags tag name place ordered None found h = cc
stands_on s seat tags tag name place ordered (Some m) found h = record {
  size = m.walls.extent;
  there = ap (option_map (λ (n : Grid). n.walls.extent)) (one_map s seat name m ordered found);
  fits = fits_of seat tags tag place (known_of s seat m) h;
}

pub may_make : (s : Scene) (seat : ℕ) (tag map : List ℕ) (place : ℤ × ℤ) (name : List ℕ) → maps_in_order s.maps ≡ true → IsAllowed s seat (Make tag map place name) → MayStand s map 1 place
unfolding asked_of rule_of
may_make s seat tag map place name ordered allowed = by (is_gm seat) allowed.rule
  where
    by : (b : Bool) → cond b (Some PlayersOnly) (make_on seat allowed.tags tag place (option_map (known_of s seat) (find (λ m. has_map seat m && has_name map m) s.maps))) ≡ None → MayStand s map 1 place
    by true h = cc
    by false h = stands_on s seat allowed.tags tag map place ordered (find (λ m. has_map seat m && has_name map m) s.maps) refl h

-- only players make by this command
pub makes_as_player : (s : Scene) (seat : ℕ) (tag map : List ℕ) (place : ℤ × ℤ) (name : List ℕ) → seat ≤ s.fog.players → IsAllowed s seat (Make tag map place name) → is_player s.fog.players seat ≡ true
unfolding asked_of rule_of
makes_as_player s seat tag map place name low allowed = by (is_gm seat) refl allowed.rule
  where
    playing : (players seat : ℕ) → eqb seat 0 ≡ false → seat ≤ players → is_player players seat ≡ true
    playing players seat e h = and_from _ _ (least seat e) (most seat players h)
      where
        least : (n : ℕ) → eqb n 0 ≡ false → nat_le 1 n ≡ true
        least n h = grind (arith, nat_tests)

        most : (n players : ℕ) → n ≤ players → nat_le n players ≡ true
        most n players h = grind (arith, nat_tests)

    by : (b : Bool) → is_gm seat ≡ b → cond b (Some PlayersOnly) (make_on seat allowed.tags tag place ((asked_of allowed.seats s seat).known map)) ≡ None → is_player s.fog.players seat ≡ true
    by true e h = cc
    by false e h = playing s.fog.players seat e low

-- ---- what is made belongs to the scene

no_owners : (players : ℕ) → are_players players 0 ≡ true
unfolding are_players
no_owners players = refl

pub new_belongs : (s : Scene) (t : Token) (place : ℤ × ℤ) → MayStand s t.map t.size place → t.cell ≡ cell_at place → t.sight ≡ None → t.light ≡ None → are_players s.fog.players t.owners ≡ true → belongs s t ≡ true
new_belongs s t place stands at sight light owners =
    and_from _ _ (ap (λ o. fits_on o t.cell t.size) stands.there ∙ ap (λ c. fits stands.size c t.size) at ∙ fits_there stands.size t.size place stands.fits)
    (and_from _ _ (ap (is_known s.sights) sight) (and_from _ _ (ap (is_known s.lights) light) owners))

pub players_token_belongs : (s : Scene) (t : Token) (seat : ℕ) (place : ℤ × ℤ) → MayStand s t.map t.size place → is_player s.fog.players seat ≡ true → t.cell ≡ cell_at place → t.sight ≡ None → t.light ≡ None → t.owners ≡ with_owner 0 seat true → belongs s t ≡ true
players_token_belongs s t seat place stands player at sight light owners = new_belongs s t place stands at sight light (ap (are_players s.fog.players) owners ∙ players_with s.fog.players 0 seat true player (no_owners s.fog.players))

pub gm_token_belongs : (s : Scene) (t : Token) (place : ℤ × ℤ) → MayStand s t.map t.size place → t.cell ≡ cell_at place → t.sight ≡ None → t.light ≡ None → t.owners ≡ 0 → belongs s t ≡ true
gm_token_belongs s t place stands at sight light owners = new_belongs s t place stands at sight light (ap (are_players s.fog.players) owners ∙ no_owners s.fog.players)
