-- What a wall that comes leaves of the kept fields.
use Rattle.std.proofs.Common.{◌≡◌, ℕ, ◌+◌, ◌≤◌, ℤ, pos, Bool, true, false, cond, List, Some, None, refl, sym, ◌∙◌, ap, subst}
use Rattle.std.specs.Prelude.{Option, option_and_then, option_map, slice_get, is_some, unwrap_or, IfSome, IsSomeAnd}
use Rattle.std.proofs.lemmas.Slice.Eq.{bytes_eq-Decides}
use Rattle.names.specs.declared.token_id.TokenId.{TokenId}
use Rattle.names.specs.declared.kinds.WallKind.TheVariants.{Vbl}
use Rattle.lattice.specs.Coordinates.{Coordinates}
use Rattle.cells.specs.Cells.{Cells}
use Rattle.topology.specs.declared.wall.Wall.{Wall}
use Rattle.topology.specs.WallLists.{with_wall}
use Rattle.topology.specs.Sight.{field_of}
use Rattle.sight_sweep.specs.Shadows.{IsFieldWith, IsWithinReach}
use Rattle.sight_sweep.proofs.FieldLemmas.{field_within}
use Rattle.maps.specs.Maps.{Grid, map_of, changed, walled}
use Rattle.maps.proofs.Laws.{map_of-changed}
use Rattle.tokens.specs.declared.token.Token.{Token}
use Rattle.tokens.specs.Tokens.{eye_of, in_order, token_of}
use Rattle.vision.specs.Fields.{field_at}
use Rattle.player_view.specs.Fields.{needs_field}
use Rattle.player_view.specs.Sight.{is_on}
use Rattle.world.specs.Scene.{Scene}
use Rattle.world.specs.Rules.{IsScene}
use Rattle.command_rules.specs.Places.{coordinate}
use Rattle.command_rules.proofs.PlaceLemmas.{point_column, point_row}
use Rattle.command_looks.specs.declared.touching.Touched.{Touched}
use Rattle.command_looks.specs.declared.touching.Touched.TheVariants.{Nobody, One, AllOn, Behind, Everybody}
use Rattle.command_looks.specs.Fields.{AreBehind, IsBehind, field_due, field_for}
use Rattle.command_looks.specs.Touched.{is_point, wall_before}
use Rattle.command_looks.proofs.Steps.{due_there, token_itself}

-- ---- ends of walls

pub column : (p : ℤ × ℤ) → is_point p ≡ true → (pos (coordinate p.0) ≡ p.0) × (coordinate p.0 + 0 ≤ 192)
column p h = point_column (record { w = 96; h = 96 }) p h

pub row : (p : ℤ × ℤ) → is_point p ≡ true → (pos (coordinate p.1) ≡ p.1) × (coordinate p.1 + 0 ≤ 192)
row p h = point_row (record { w = 96; h = 96 }) p h

-- ---- fields

-- the field is within reach, and what the wall leaves of it is due
abbrev IsLeft : Coordinates → Wall → Option Cells → Cells → Type 0
IsLeft eye wall due old = IsWithinReach eye old × ((new : Cells) → IsFieldWith eye wall old new → Some new ≡ due)

by_map : (eye : Coordinates) (wall : Wall) (o : Option Grid) (kept due : Option Cells) → kept ≡ option_map (λ m. field_of m.walls eye) o
    → due ≡ option_map (λ m. field_of m.walls eye) (option_map (walled Vbl (with_wall wall)) o) → is_some due ≡ true → IsSomeAnd kept (IsLeft eye wall due)
by_map eye wall None kept due is due_is there = let no : false ≡ true = ap is_some (sym due_is) ∙ there in cc
by_map eye wall (Some m) kept due is due_is there =
    subst (λ o. IsSomeAnd o (IsLeft eye wall due)) (sym is) (field_within m.walls eye, λ new with. ap Some (with m.walls refl) ∙ sym due_is)

on_map : (s : Scene) (fields : List (TokenId × Cells)) (name : List ℕ) (wall : Wall) (i : ℕ) (t : Token) → IsBehind name wall s fields → in_order s.tokens ≡ true
    → slice_get s.tokens i ≡ Some t → needs_field t ≡ true → is_some (field_due s.maps t) ≡ true → is_on name t ≡ true
    → IsSomeAnd (field_at t.id fields) (IsLeft (eye_of t) wall (field_due s.maps t))
unfolding field_for
on_map s fields name wall i t behind ordered e needed there on =
    by_map (eye_of t) wall (map_of t.map behind.before.maps) (field_at t.id fields) (field_due s.maps t) kept_is due_is there
  where
    kept_is : field_at t.id fields ≡ option_map (λ m. field_of m.walls (eye_of t)) (map_of t.map behind.before.maps)
    kept_is =
        behind.kept.each t.id
        ∙ ap (λ ts. option_and_then (field_due behind.before.maps) (token_of t.id ts)) (sym (ap (λ (x : Scene). x.tokens) behind.added))
        ∙ ap (option_and_then (field_due behind.before.maps)) (token_itself s.tokens i t ordered e)
        ∙ ap (λ b. cond b (option_map (λ (m : Grid). field_of m.walls (eye_of t)) (map_of t.map behind.before.maps)) None) needed

    due_is : field_due s.maps t ≡ option_map (λ m. field_of m.walls (eye_of t)) (option_map (walled Vbl (with_wall wall)) (map_of t.map behind.before.maps))
    due_is =
        ap (λ b. cond b (option_map (λ (m : Grid). field_of m.walls (eye_of t)) (map_of t.map s.maps)) None) needed
        ∙ ap (λ (x : Scene). option_map (λ (m : Grid). field_of m.walls (eye_of t)) (map_of t.map x.maps)) behind.added
        ∙ ap (λ n. option_map (λ (m : Grid). field_of m.walls (eye_of t)) (map_of t.map (changed n (walled Vbl (with_wall wall)) behind.before.maps))) ((bytes_eq-Decides name t.map).0 on)
        ∙ ap (option_map (λ (m : Grid). field_of m.walls (eye_of t))) (map_of-changed (walled Vbl (with_wall wall)) (λ m. refl) t.map behind.before.maps)

-- what the wall before a token leaves of its kept field is due
pub left_behind : (s : Scene) (fields : List (TokenId × Cells)) (touched : Touched) (i : ℕ) (t : Token) (wall : Wall) → IsScene s → AreBehind touched s fields
    → in_order s.tokens ≡ true → slice_get s.tokens i ≡ Some t → needs_field t ≡ true → wall_before touched t ≡ Some wall
    → IsSomeAnd (field_at t.id fields) (IsLeft (eye_of t) wall (field_due s.maps t))
left_behind s fields Nobody i t wall is behind ordered e needed h = cc
left_behind s fields (One id) i t wall is behind ordered e needed h = cc
left_behind s fields (AllOn name) i t wall is behind ordered e needed h = cc
left_behind s fields Everybody i t wall is behind ordered e needed h = cc
left_behind s fields (Behind name it) i t wall is behind ordered e needed h = by (is_on name t) refl h
  where
    by : (b : Bool) → is_on name t ≡ b → cond b (Some it) None ≡ Some wall → IsSomeAnd (field_at t.id fields) (IsLeft (eye_of t) wall (field_due s.maps t))
    by false on h = cc
    by true on h =
        subst (λ (x : Wall). IsSomeAnd (field_at t.id fields) (IsLeft (eye_of t) x (field_due s.maps t))) (ap (λ o. unwrap_or o it) h)
        (on_map s fields name it i t behind ordered e needed (due_there s i t is e needed) on)

pub within_behind : (kept due : Option Cells) (eye : Coordinates) (wall : Wall) → IsSomeAnd kept (IsLeft eye wall due) → IsSomeAnd kept (IsWithinReach eye)
within_behind None due eye wall h = absurd h
within_behind (Some old) due eye wall h = h.0

pub due_behind : (kept due : Option Cells) (eye : Coordinates) (wall : Wall) (new : Cells) → IsSomeAnd kept (IsLeft eye wall due)
    → IfSome kept (λ old. IsFieldWith eye wall old new) → Some new ≡ due
due_behind None due eye wall new h with = absurd h
due_behind (Some old) due eye wall new h with = h.1 new with
