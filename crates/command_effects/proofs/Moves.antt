-- What a move that breaks no rule may rely on.
use Rattle.std.proofs.Common.{◌≡◌, ℕ, ◌+◌, ◌≤◌, zero, suc, Bool, true, false, cond, ◌&&◌, not, List, [], ◌∷◌, drop, length, Some, None, refl, sym, ◌∙◌, ap, subst, arith, ℤ}
use Rattle.std.specs.Prelude.{Option, option_map, is_some, IfSome, nat_le}
use Rattle.std.specs.List.{find, list_all}
use Rattle.std.proofs.lemmas.Bool.{and_parts, and_from}
use Rattle.std.proofs.lemmas.Bool.Decides.{nat_tests}
use Rattle.names.specs.TokenId.{id_cmp, id_eq}
use Rattle.names.specs.declared.token_id.TokenId.{TokenId}
use Rattle.cells.specs.Cells.{Extent}
use Rattle.cells.specs.declared.cell.Cell.{Cell}
use Rattle.maps.specs.Maps.{Grid, has_name, in_order as maps_in_order}
use Rattle.tokens.specs.declared.token.Token.{Token}
use Rattle.tokens.specs.Tokens.{has_id, token_of, has_token, in_order}
use Rattle.tokens.proofs.OrderLemmas.{apart as ids_apart}
use Rattle.command_json.specs.declared.command.Command.TheVariants.{Move}
use Rattle.world.specs.Scene.{Scene}
use Rattle.world.specs.Rules.{size_of, fits, fits_on, belongs, IsScene}
use Rattle.player_view.specs.View.{acts_on, has_map}
use Rattle.player_view.specs.Asked.{Known, asked_of, mine_of, known_of}
use Rattle.command_rules.specs.declared.refusal.Refusal.TheVariants.{OffMap, BadPath}
use Rattle.command_rules.specs.Places.{coordinate, fits_at, cell_at, are_king_steps}
use Rattle.command_rules.specs.Rules.{move_rule, path_rule, rule_of}
use Rattle.command_effects.specs.Effects.{own_token, cell_after}
use Rattle.command_effects.specs.Allowed.{IsAllowed, MayMove}
use Rattle.command_rules.proofs.Unique.{found_of_all, find_one}
use Rattle.command_rules.proofs.OneMap.{one_map}
use Rattle.command_rules.proofs.PlaceLemmas.{column, row}

-- ---- the one token

pub one_token : (s : Scene) (seat : ℕ) (id : TokenId) (t : Token) → in_order s.tokens ≡ true → own_token s seat id ≡ Some t → token_of id s.tokens ≡ Some t
one_token s seat id t ordered found =
    find_one id_cmp (λ (u : Token). u.id) id_eq ids_apart (λ u. has_id id u && acts_on s seat u) id (λ u h. (and_parts (has_id id u) (acts_on s seat u) h).0) s.tokens t ordered found

-- ---- the rule of a move

fits_of : (t : Token) (path : List (ℤ × ℤ)) (m : Known) → path_rule (mine_of t) path (Some m) ≡ None → list_all (fits_at m.size t.size) path ≡ true
fits_of t path m h = by (list_all (fits_at m.size t.size) path) (are_king_steps t.cell path) h
  where
    by : (b c : Bool) → cond (not b) (Some OffMap) (cond (not c) (Some BadPath) None) ≡ None → b ≡ true
    by true c h = refl
    by false c h = cc

square_of : (s : Scene) (t : Token) (size : Extent) → belongs s t ≡ true → size_of t.map s.maps ≡ Some size → fits size t.cell t.size ≡ true
square_of s t size h there = sym (ap (λ o. fits_on o t.cell t.size) there) ∙ (and_parts (fits_on (size_of t.map s.maps) t.cell t.size) _ h).0

on_map : (s : Scene) (seat : ℕ) (id : TokenId) (path : List (ℤ × ℤ)) (t : Token) → IsScene s → maps_in_order s.maps ≡ true → own_token s seat id ≡ Some t → (o : Option Grid) → find (λ m. has_map seat m && has_name t.map m) s.maps ≡ o → path_rule (mine_of t) path (option_map (known_of s seat) o) ≡ None → MayMove s seat id path
on_map s seat id path t is ordered found None there h = cc
on_map s seat id path t is ordered found (Some m) there h =
    let size : size_of t.map s.maps ≡ Some m.walls.extent = ap (option_map (λ (n : Grid). n.walls.extent)) (one_map s seat t.map m ordered there) in
    record {
      token = t;
      size = m.walls.extent;
      found = found;
      there = size;
      stands = square_of s t m.walls.extent (found_of_all (λ u. has_id id u && acts_on s seat u) (belongs s) s.tokens t is.tokens found) size;
      fits = fits_of t path (known_of s seat m) h;
    }

moving : (seats : ℕ) (s : Scene) (seat : ℕ) (id : TokenId) (path : List (ℤ × ℤ)) → IsScene s → maps_in_order s.maps ≡ true → (o : Option Token) → own_token s seat id ≡ o → move_rule (asked_of seats s seat) seat path (option_map mine_of o) ≡ None → MayMove s seat id path
unfolding asked_of
moving seats s seat id path is ordered None found h = cc
moving seats s seat id path is ordered (Some t) found h = on_map s seat id path t is ordered found (find (λ m. has_map seat m && has_name t.map m) s.maps) refl h

pub may_move : (s : Scene) (seat : ℕ) (id : TokenId) (path : List (ℤ × ℤ)) → IsScene s → maps_in_order s.maps ≡ true → IsAllowed s seat (Move id path) → MayMove s seat id path
unfolding asked_of rule_of
may_move s seat id path is ordered allowed = moving allowed.seats s seat id path is ordered (own_token s seat id) refl allowed.rule

-- ---- where the token goes

pub fits_there : (size : Extent) (side : ℕ) (place : ℤ × ℤ) → fits_at size side place ≡ true → fits size (cell_at place) side ≡ true
fits_there size side place h = and_from _ _ (within (coordinate place.0) side size.w (column size side place h).1) (within (coordinate place.1) side size.h (row size side place h).1)
  where
    within : (n side most : ℕ) → n + side ≤ most → nat_le (n + side) most ≡ true
    within n side most h = grind (arith, nat_tests)

pub fits_after : (size : Extent) (side steps : ℕ) (from : Cell) (path : List (ℤ × ℤ)) → fits size from side ≡ true → list_all (fits_at size side) path ≡ true → fits size (cell_after steps from path) side ≡ true
fits_after size side zero from path h all = h
fits_after size side (suc steps) from [] h all = h
fits_after size side (suc steps) from (place ∷ path) h all =
    let parts = and_parts (fits_at size side place) (list_all (fits_at size side) path) all in
    fits_after size side steps (cell_at place) path (fits_there size side place parts.0) parts.1

pub no_more : (steps : ℕ) (from : Cell) (path : List (ℤ × ℤ)) (i : ℕ) → length path ≤ i → cell_after steps from (drop i path) ≡ from
no_more zero from path i h = refl
no_more (suc steps) from [] zero h = refl
no_more (suc steps) from [] (suc i) h = refl
no_more (suc steps) from (place ∷ path) zero h = absurd (omega arith)
no_more (suc steps) from (place ∷ path) (suc i) h = no_more (suc steps) from path i (omega arith)

-- the condition of placing the token
pub may_place : (s : Scene) (seat : ℕ) (id : TokenId) (t : Token) (size : Extent) (cell : Cell) → in_order s.tokens ≡ true → own_token s seat id ≡ Some t → size_of t.map s.maps ≡ Some size → fits size cell t.size ≡ true
    → (has_token id s.tokens ≡ true) × IfSome (token_of id s.tokens) (λ u. fits_on (size_of t.map s.maps) cell u.size ≡ true)
may_place s seat id t size cell ordered found there h =
    let one : token_of id s.tokens ≡ Some t = one_token s seat id t ordered found in (
      ap is_some one,
      subst (λ o. IfSome o (λ u. fits_on (size_of t.map s.maps) cell u.size ≡ true)) (sym one) (ap (λ o. fits_on o cell t.size) there ∙ h),
    )

-- the same of the token that was found, in an equal scene, for a cell that the path leads to
pub placing : (s : Scene) (seat : ℕ) (id : TokenId) (path : List (ℤ × ℤ)) (t : Token) (steps : ℕ) (cell : Cell) (after : Scene) → MayMove s seat id path → in_order s.tokens ≡ true → own_token s seat id ≡ Some t → after ≡ s → cell ≡ cell_after steps t.cell path
    → (has_token id after.tokens ≡ true) × IfSome (token_of id after.tokens) (λ u. fits_on (size_of t.map after.maps) cell u.size ≡ true)
placing s seat id path t steps cell after may ordered found same at =
    let one : may.token ≡ t = some_same (sym may.found ∙ found) in
    subst (λ (x : Scene). (has_token id x.tokens ≡ true) × IfSome (token_of id x.tokens) (λ u. fits_on (size_of t.map x.maps) cell u.size ≡ true)) (sym same)
    (may_place s seat id t may.size cell ordered found
    (ap (λ (u : Token). size_of u.map s.maps) (sym one) ∙ may.there)
    (ap (λ c. fits may.size c t.size) at ∙ subst (λ (u : Token). fits may.size (cell_after steps u.cell path) u.size ≡ true) one (fits_after may.size may.token.size steps may.token.cell path may.stands may.fits)))
  where
    some_same : {a b : Token} → Some a ≡ Some b → a ≡ b
    some_same e = cc
