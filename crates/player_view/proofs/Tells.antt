-- The tests hold exactly where the relations do.
use Rattle.std.proofs.Common.{◌≡◌, ◌≢◌, ℕ, zero, suc, ◌+◌, ◌<◌, ◌≤◌, ◌⊎◌, inl, inr, Bool, true, false, not, ◌&&◌, List, Some, None, refl, ◌∙◌, ap, subst, arith}
use Rattle.std.specs.Prelude.{Option}
use Rattle.std.specs.Bool.{Decides}
use Rattle.std.specs.List.{list_any, range_with_len}
use Rattle.std.proofs.lemmas.Bool.{false≢true, cases_lt}
use Rattle.std.proofs.lemmas.Bool.Decides.{Decides-and, Decides-or, Decides-like, Decides-at, Decides-ltb}
use Rattle.std.proofs.lemmas.Slice.Eq.{bytes_eq-Decides}
use Rattle.names.specs.declared.kinds.Layer.{Layer}
use Rattle.names.specs.declared.kinds.Layer.TheVariants.{Token as TokenLayer, Hidden, Object, Background}
use Rattle.cells.specs.Cells.{Cells, has}
use Rattle.cells.proofs.SetLaws.{has-cells_where}
use Rattle.maps.specs.Maps.{Grid, map_of}
use Rattle.sight_types.specs.declared.Sight.{Sight}
use Rattle.tokens.specs.declared.token.Token.{Token}
use Rattle.tokens.specs.Owners.{has_owner}
use Rattle.tokens.specs.Tokens.{eye_of}
use Rattle.vision.specs.Seen.{IsSeen}
use Rattle.vision.proofs.SeenLemmas.{Decides-any, sees_test_tells}
use Rattle.world.specs.Scene.{Scene}
use Rattle.player_view.specs.Sight.{is_hidden, is_shown_map, map_shown, named_type, lamps_on, sees_with, sees, owns, shows_cell, visible_test, visible}
use Rattle.player_view.specs.Shown.{exposed, is_in, touches, is_uncovered, is_uncovered_on, is_shown}
use Rattle.player_view.specs.Relations.{IsShownMap, Sees, Owns, IsVisible, Touches, TouchesSet, IsUncovered, IsInOpen, IsShown}
use Rattle.player_view.specs.Laws.{TestsTell}

pub itself_tells : (b : Bool) → Decides b (b ≡ true)
itself_tells b = (λ e. e, λ e. e)

not_hidden_tells : (layer : Layer) → Decides (not (is_hidden layer)) (layer ≢ Hidden)
not_hidden_tells TokenLayer = (λ _ e. cc, λ _. refl)
not_hidden_tells Hidden = (λ e. absurd (false≢true e), λ n. absurd (n refl))
not_hidden_tells Object = (λ _ e. cc, λ _. refl)
not_hidden_tells Background = (λ _ e. cc, λ _. refl)

pub map_tells : (s : Scene) (name : List ℕ) → Decides (map_shown s name) (IsShownMap s name)
map_tells s name = here (map_of name s.maps) refl
  where
    here : (o : Option Grid) → map_of name s.maps ≡ o → Decides (is_shown_map o) (IsShownMap s name)
    here None e = (λ h. absurd (false≢true h), λ k. (let there = k.there in cc))
    here (Some m) e = (
      λ h. record { map = m; there = e; shown = h },
      λ k. (let there = k.there in let same : m ≡ k.map = cc in ap (λ (g : Grid). g.shown) same ∙ k.shown),
    )

pub owns_tells : (s : Scene) (p : ℕ) (t : Token) → Decides (owns s p t) (Owns s p t)
owns_tells s p t =
    Decides-like _ (λ h. record { owner = h.0; layer = h.1.0; map = h.1.1 }) (λ h. (h.owner, (h.layer, h.map)))
    (Decides-and _ _ (itself_tells (has_owner t.owners p)) (Decides-and _ _ (not_hidden_tells t.layer) (map_tells s t.map)))

never : (b : Bool) → (b && false) ≡ true → ⊥
never true e = false≢true e
never false e = false≢true e

pub sees_tells : (s : Scene) (m : Grid) (t : Token) (x y : ℕ) → Decides (sees s m t x y) (Sees s m t x y)
sees_tells s m t x y = here (named_type s.sights t.sight) refl
  where
    here : (o : Option Sight) → named_type s.sights t.sight ≡ o → Decides (m.shown && sees_with s m t o x y) (Sees s m t x y)
    here None e = (λ h. absurd (never m.shown h), λ k. (let there = k.has_sight in cc))
    here (Some sight) e =
        Decides-like _ (λ h. record { shown = h.0; sight = sight; has_sight = e; sees = h.1 })
        (λ k. (
          k.shown,
          (let there = k.has_sight in
              let same : k.sight ≡ sight = cc in
              subst (λ z. IsSeen m.mode m.walls (lamps_on s m.name) z (eye_of t) x y) same k.sees),
        ))
        (Decides-and _ _ (itself_tells m.shown) (sees_test_tells m.mode m.walls (lamps_on s m.name) sight (eye_of t) x y))

pub visible_tells : (s : Scene) (p : ℕ) (m : Grid) (x y : ℕ) → Decides (visible_test s p m x y) (IsVisible s p m x y)
visible_tells s p m x y =
    Decides-any (shows_cell s p m x y) (λ t. (m.name ≡ t.map) × Owns s p t × Sees s m t x y)
    (λ t.
    Decides-like _ (λ h. (h.0, h.1.0, h.1.1)) (λ h. (h.0, (h.1, h.2)))
    (Decides-and _ _ (bytes_eq-Decides m.name t.map) (Decides-and _ _ (owns_tells s p t) (sees_tells s m t x y))))
    s.tokens

-- P holds of one of n numbers from a on
pub record SomeFrom (a n : ℕ) (P : ℕ → Type 0) : Type 0 where
  pub at : ℕ
  pub low : a ≤ at
  pub high : at < a + n
  pub holds : P at

pub from_tells : (p : ℕ → Bool) (P : ℕ → Type 0) → ((k : ℕ) → Decides (p k) (P k)) → (a n : ℕ)
    → Decides (list_any p (range_with_len a n)) (SomeFrom a n P)
from_tells p P each a zero = (λ e. absurd (false≢true e), λ r. absurd (omega (arith, r.low, r.high)))
from_tells p P each a (suc n) = Decides-like _ from to (Decides-or _ _ (each a) (from_tells p P each (a + 1) n))
  where
    from : P a ⊎ SomeFrom (a + 1) n P → SomeFrom a (suc n) P
    from (inl h) = record { at = a; low = omega arith; high = omega arith; holds = h }
    from (inr r) = record { at = r.at; low = omega (arith, r.low); high = omega (arith, r.high); holds = r.holds }

    split : (k : ℕ) → a ≤ k → k < a + suc n → P k → P a ⊎ SomeFrom (a + 1) n P
    split k low high h =
        elim (cases_lt a k) [
          | inl lt ↦ inr (record { at = k; low = omega arith; high = omega arith; holds = h })
          | inr ge ↦ (let e : k ≡ a = omega arith in inl (subst P e h))
        ]

    to : SomeFrom a (suc n) P → P a ⊎ SomeFrom (a + 1) n P
    to r = split r.at r.low r.high r.holds

-- the cell is on the map of the set, and in it
abbrev pub IsIn : Cells → ℕ → ℕ → Type 0
IsIn cells x y = (x < cells.extent.w) × ((y < cells.extent.h) × (has cells x y ≡ true))

pub touches_tells : (t : Token) (cells : Cells) (P : ℕ → ℕ → Type 0)
    → ((x y : ℕ) → x < cells.extent.w → y < cells.extent.h → Decides (has cells x y) (P x y))
    → Decides (touches t cells) (Touches cells.extent P t)
touches_tells t cells P each =
    Decides-like _ from to
    (from_tells (λ x. list_any (λ y. is_in cells x y) (range_with_len t.cell.y t.size)) (λ x. SomeFrom t.cell.y t.size (IsIn cells x))
    (λ x. from_tells (λ y. is_in cells x y) (IsIn cells x) (λ y. in_tells x y) t.cell.y t.size) t.cell.x t.size)
  where
    in_tells : (x y : ℕ) → Decides (is_in cells x y) (IsIn cells x y)
    in_tells x y =
        Decides-and _ _ (Decides-ltb x cells.extent.w)
        (Decides-and _ _ (Decides-ltb y cells.extent.h) (itself_tells (has cells x y)))

    from : SomeFrom t.cell.x t.size (λ x. SomeFrom t.cell.y t.size (IsIn cells x)) → Touches cells.extent P t
    from r = record {
      x = r.at;
      y = r.holds.at;
      covers = record { left = r.low; right = r.high; above = r.holds.low; under = r.holds.high };
      column = r.holds.holds.0;
      row = r.holds.holds.1.0;
      holds = (each r.at r.holds.at r.holds.holds.0 r.holds.holds.1.0).0 r.holds.holds.1.1;
    }

    to : Touches cells.extent P t → SomeFrom t.cell.x t.size (λ x. SomeFrom t.cell.y t.size (IsIn cells x))
    to k = record {
      at = k.x;
      low = k.covers.left;
      high = k.covers.right;
      holds = record {
        at = k.y;
        low = k.covers.above;
        high = k.covers.under;
        holds = (k.column, (k.row, (each k.x k.y k.column k.row).1 k.holds));
      };
    }

set_tells : (t : Token) (cells : Cells) → Decides (touches t cells) (TouchesSet cells t)
set_tells t cells = touches_tells t cells (λ x y. has cells x y ≡ true) (λ x y _ _. itself_tells (has cells x y))

pub has_visible_tells : (s : Scene) (p : ℕ) (m : Grid) (x y : ℕ) → x < m.walls.extent.w → y < m.walls.extent.h
    → Decides (has (visible s p m) x y) (IsVisible s p m x y)
unfolding visible
has_visible_tells s p m x y hx hy =
    Decides-at _ _ (has-cells_where m.walls.extent (visible_test s p m) x y hx hy) (visible_tells s p m x y)

seen_tells : (s : Scene) (p : ℕ) (t : Token) (m : Grid) → Decides (touches t (visible s p m)) (Touches m.walls.extent (IsVisible s p m) t)
unfolding visible
seen_tells s p t m = touches_tells t (visible s p m) (IsVisible s p m) (has_visible_tells s p m)

uncovered_tells : (layer : Layer) (s : Scene) (p : ℕ) (t : Token) (m : Grid)
    → Decides (is_uncovered layer s p t m) (IsUncovered layer s p m t)
uncovered_tells TokenLayer s p t m = seen_tells s p t m
uncovered_tells Hidden s p t m = (λ e. false≢true e, λ h. absurd h)
uncovered_tells Object s p t m = set_tells t (exposed s p m)
uncovered_tells Background s p t m = set_tells t (exposed s p m)

open_tells : (s : Scene) (p : ℕ) (t : Token) → Decides (is_uncovered_on s p t (map_of t.map s.maps)) (IsInOpen s p t)
open_tells s p t = here (map_of t.map s.maps) refl
  where
    here : (o : Option Grid) → map_of t.map s.maps ≡ o → Decides (is_uncovered_on s p t o) (IsInOpen s p t)
    here None e = (λ h. absurd (false≢true h), λ k. (let there = k.there in cc))
    here (Some m) e =
        Decides-like _ (λ h. record { map = m; there = e; shown = h.0; visible = h.1.0; uncovered = h.1.1 })
        (λ k.
        (let there = k.there in
        let same : k.map ≡ m = cc in (
          subst (λ (g : Grid). g.shown ≡ true) same k.shown,
          (k.visible, subst (λ (g : Grid). IsUncovered t.layer s p g t) same k.uncovered),
        )))
        (Decides-and _ _ (itself_tells m.shown) (Decides-and _ _ (itself_tells t.visible) (uncovered_tells t.layer s p t m)))

pub shown_tells : (s : Scene) (p : ℕ) (t : Token) → Decides (is_shown s p t) (IsShown s p t)
unfolding is_shown
shown_tells s p t = Decides-or _ _ (owns_tells s p t) (open_tells s p t)

pub tests_tell : TestsTell
tests_tell = record { owns = owns_tells; sees = sees_tells; visible = visible_tells; shown = shown_tells }
