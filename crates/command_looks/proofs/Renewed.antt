-- The field of one token is found anew.
use Rattle.std.proofs.Common.{◌≡◌, ℕ, zero, suc, ◌+◌, ◌≤◌, Bool, true, false, cond, ◌&&◌, List, [], ◌∷◌, take, Some, None, refl, sym, ◌∙◌, ap, arith}
use Rattle.std.specs.Prelude.{Option, option_and_then, option_map, slice_get}
use Rattle.names.specs.declared.token_id.TokenId.{TokenId}
use Rattle.names.specs.TokenId.{id_eq}
use Rattle.names.proofs.SameIds.{id_eq-Decides}
use Rattle.cells.specs.Cells.{Cells}
use Rattle.tokens.specs.declared.token.Token.{Token}
use Rattle.maps.specs.Maps.{Grid, map_of}
use Rattle.topology.specs.Sight.{field_of}
use Rattle.tokens.specs.Tokens.{eye_of, has_id, in_order, token_of}
use Rattle.vision.specs.Fields.{field_at}
use Rattle.world.specs.Scene.{Scene}
use Rattle.player_view.specs.Fields.{needs_field}
use Rattle.command_looks.specs.declared.touching.Touched.TheVariants.{One}
use Rattle.command_looks.specs.Fields.{AreKept, IsKeptBut, field_due, field_for}
use Rattle.command_looks.specs.Touched.{looks_for}
use Rattle.command_looks.proofs.Steps.{itself, looks_next, next_is, spent, looks_within, token_itself}

-- none of the first so many tokens has the id, nor has the next
none_then : (id : TokenId) (tokens : List Token) (i : ℕ) (t : Token) → slice_get tokens i ≡ Some t → id_eq t.id id ≡ false → token_of id (take i tokens) ≡ None → token_of id (take (suc i) tokens) ≡ None
none_then id [] i t there other none = cc
none_then id (x ∷ tokens) zero t there other none = ap (λ (z : Token). cond (has_id id z) (Some z) None) (first there) ∙ ap (λ b. cond b (Some t) None) other
  where
    first : Some x ≡ Some t → x ≡ t
    first e = cc
none_then id (x ∷ tokens) (suc i) t there other none = by (has_id id x) (none_then id tokens i t there other) none
  where
    by : (b : Bool) → (token_of id (take i tokens) ≡ None → token_of id (take (suc i) tokens) ≡ None) → cond b (Some x) (token_of id (take i tokens)) ≡ None → cond b (Some x) (token_of id (take (suc i) tokens)) ≡ None
    by true rest held = held
    by false rest held = rest held

pub none_next : (id : TokenId) (tokens : List Token) (i : ℕ) (t : Token) → slice_get tokens i ≡ Some t → id_eq t.id id ≡ false → token_of id (take i tokens) ≡ None → token_of id (take (i + 1) tokens) ≡ None
none_next id tokens i t there other none = ap (λ n. token_of id (take n tokens)) (next_is i) ∙ none_then id tokens i t there other none

-- all other fields are kept, and this one is due
pub kept_anew : (s : Scene) (id : TokenId) (old new : List (TokenId × Cells)) (field : Option Cells) → IsKeptBut id s old
    → ((other : TokenId) → field_at other new ≡ cond (id_eq id other) field (field_at other old)) → field ≡ field_for s id → AreKept s new
kept_anew s id old new field kept told due = record { each = λ other. told other ∙ by other (id_eq id other) refl }
  where
    by : (other : TokenId) (b : Bool) → id_eq id other ≡ b → cond b field (field_at other old) ≡ field_for s other
    by other true e = due ∙ ap (field_for s) ((id_eq-Decides id other).0 e)
    by other false e = kept other e

-- the field that is due to the token at a place
pub due_at : (s : Scene) (i : ℕ) (t : Token) (field : Option Cells) → in_order s.tokens ≡ true → slice_get s.tokens i ≡ Some t → field ≡ field_due s.maps t → field ≡ field_for s t.id
unfolding field_for
due_at s i t field ordered there due = due ∙ ap (option_and_then (field_due s.maps)) (sym (token_itself s.tokens i t ordered there))

pub bare_due : (s : Scene) (t : Token) → needs_field t ≡ false → None ≡ field_due s.maps t
bare_due s t bare = λ i. cond (sym bare i) (option_map (λ (m : Grid). field_of m.walls (eye_of t)) (map_of t.map s.maps)) None

pub absent_due : (s : Scene) (id : TokenId) → token_of id s.tokens ≡ None → None ≡ field_for s id
unfolding field_for
absent_due s id none = ap (option_and_then (field_due s.maps)) (sym none)

-- a token with a sight or a light takes a look
pub one_needed : (tokens : List Token) (i : ℕ) (t : Token) → slice_get tokens i ≡ Some t → needs_field t ≡ true → 1 ≤ looks_for tokens (One t.id)
one_needed tokens i t there needed =
    let test : (id_eq t.id t.id && needs_field t) ≡ true = ap (λ b. b && needs_field t) (itself t.id) ∙ needed in
    let spends : spent (id_eq t.id t.id && needs_field t) ≡ 1 = ap spent test in
    omega (arith, looks_next tokens (One t.id) i t there, spends, looks_within tokens (One t.id) (i + 1))
