-- What is seen, set by set of the fog.
use Rattle.std.proofs.Common.{◌≡◌, ℕ, suc, Bool, true, false, cond, List, [], ◌∷◌, map, length, Some, None, refl, sym, ◌∙◌, ap, subst}
use Rattle.std.specs.Prelude.{Option, option_map, slice_get}
use Rattle.std.specs.List.{AllByRecursion, AllZip}
use Rattle.std.proofs.lemmas.List.{length-map}
use Rattle.std.proofs.lemmas.Option.{slice_get-map}
use Rattle.cells.specs.Cells.{Cells}
use Rattle.fog_book.specs.declared.exposure.Exposure.{Exposure}
use Rattle.fog_book.specs.Exposures.{with_found, with_seen, with_each_seen, HaveOneSize}
use Rattle.maps.specs.Maps.{Grid, map_of}
use Rattle.player_view.specs.Sight.{visible}
use Rattle.world.specs.Scene.{Scene}
use Rattle.world.specs.Rules.{IsSized, IsScene}
use Rattle.command_effects.specs.Settle.{found_for, is_asked, with_sight, settled_set, settled, OthersAreSettled}
use Rattle.player_view.specs.Seen.{AreSeen, seen_on, seen_for}

-- it is of the set's size
one_size : (players : Option ℕ) (s : Scene) (set : Exposure) → IsSized s.maps set → HaveOneSize set (found_for players s set)
unfolding visible
one_size players s set sized = asked (is_asked players set.seat)
  where
    by : (o : Option Grid) → option_map (λ (m : Grid). m.walls.extent) o ≡ Some set.cells.extent → (seen_on s set o).extent ≡ set.cells.extent
    by None none = cc
    by (Some m) there = cc

    asked : (b : Bool) → HaveOneSize set (cond b (Some (seen_for s set)) None)
    asked true = by (map_of set.map s.maps) sized
    asked false = tt

pub one_size_each : (players : Option ℕ) (s : Scene) (sets : List Exposure) → AllByRecursion (IsSized s.maps) sets → AllZip HaveOneSize sets (map (found_for players s) sets)
one_size_each players s [] all = tt
one_size_each players s (set ∷ sets) all = (one_size players s set all.0, one_size_each players s sets all.1)

-- with what is seen, set by set, the scene is settled
settled_one : (players : Option ℕ) (s : Scene) (set : Exposure) → (is_asked players set.seat ≡ false → settled_set s set ≡ set) → IsSized s.maps set
    → with_found set (found_for players s set) ≡ settled_set s set
settled_one players s set others sized = asked (is_asked players set.seat) refl
  where
    by : (o : Option Grid) → option_map (λ (m : Grid). m.walls.extent) o ≡ Some set.cells.extent → with_seen set (seen_on s set o) ≡ with_sight s set o
    by None none = cc
    by (Some m) there = refl

    asked : (b : Bool) → is_asked players set.seat ≡ b → with_found set (cond b (Some (seen_for s set)) None) ≡ settled_set s set
    asked true e = by (map_of set.map s.maps) sized
    asked false e = sym (others e)

settled_each : (players : Option ℕ) (s : Scene) (sets : List Exposure) → ((place : ℕ) (set : Exposure) → slice_get sets place ≡ Some set → is_asked players set.seat ≡ false → settled_set s set ≡ set)
    → AllByRecursion (IsSized s.maps) sets → with_each_seen sets (map (found_for players s) sets) ≡ map (settled_set s) sets
settled_each players s [] others all = refl
settled_each players s (set ∷ sets) others all =
    λ i. settled_one players s set (others 0 set refl) all.0 i ∷ settled_each players s sets (λ place. others (suc place)) all.1 i

pub is_settled : (players : Option ℕ) (s after : Scene) (seen : List (Option Cells)) → OthersAreSettled players s → IsScene s → seen ≡ map (found_for players s) s.fog.sets
    → after ≡ record s { fog = record s.fog { sets = with_each_seen s.fog.sets seen } } → after ≡ settled s
unfolding settled
is_settled players s after seen others is same e =
    e ∙ ap (λ (found : List (Option Cells)). record s { fog = record s.fog { sets = with_each_seen s.fog.sets found } }) same
    ∙ ap (λ (sets : List Exposure). record s { fog = record s.fog { sets = sets } }) (settled_each players s s.fog.sets others is.fog.each)

-- ---- what is seen stays when it is exposed

seen_settled : (s : Scene) (set : Exposure) → seen_for (settled s) (settled_set s set) ≡ seen_for s set
unfolding visible settled
seen_settled s set = by (map_of set.map s.maps) refl
  where
    by : (o : Option Grid) → map_of set.map s.maps ≡ o → seen_on (settled s) (with_sight s set o) (map_of (with_sight s set o).map s.maps) ≡ seen_on s set o
    by None e = ap (seen_on (settled s) set) e
    by (Some m) e = ap (seen_on (settled s) (with_sight s set (Some m))) e

found_is : (players : Option ℕ) (s : Scene) (set : Exposure) (cells : Cells) → found_for players s set ≡ Some cells → seen_for s set ≡ cells
found_is players s set cells is = by (is_asked players set.seat) is
  where
    by : (b : Bool) → cond b (Some (seen_for s set)) None ≡ Some cells → seen_for s set ≡ cells
    by true e = cc
    by false e = cc

seen_at : (players : Option ℕ) (s : Scene) (o : Option Exposure) (set : Exposure) (cells : Cells) → option_map (settled_set s) o ≡ Some set → option_map (found_for players s) o ≡ Some (Some cells)
    → cells ≡ seen_for (settled s) set
seen_at players s None set cells there is = cc
seen_at players s (Some before) set cells there is =
    let same : settled_set s before ≡ set = cc in
    let found : found_for players s before ≡ Some cells = cc in
    sym (found_is players s before cells found) ∙ sym (seen_settled s before) ∙ ap (seen_for (settled s)) same

sets_settled : (s : Scene) → (settled s).fog.sets ≡ map (settled_set s) s.fog.sets
unfolding settled
sets_settled s = refl

pub are_seen : (players : Option ℕ) (s after : Scene) (seen : List (Option Cells)) → seen ≡ map (found_for players s) s.fog.sets → after ≡ settled s → AreSeen after seen
are_seen players s after seen same is = subst (λ (z : Scene). AreSeen z seen) (sym is) (record { each = each })
  where
    each : (place : ℕ) (set : Exposure) (cells : Cells) → slice_get (settled s).fog.sets place ≡ Some set → slice_get seen place ≡ Some (Some cells) → cells ≡ seen_for (settled s) set
    each place set cells there found = seen_at players s (slice_get s.fog.sets place) set cells
        (sym (slice_get-map (settled_set s) s.fog.sets place) ∙ ap (λ (sets : List Exposure). slice_get sets place) (sym (sets_settled s)) ∙ there)
        (sym (slice_get-map (found_for players s) s.fog.sets place) ∙ ap (λ (all : List (Option Cells)). slice_get all place) (sym same) ∙ found)

pub seen_count : (players : Option ℕ) (s after : Scene) (seen : List (Option Cells)) → seen ≡ map (found_for players s) s.fog.sets → after ≡ settled s → length seen ≡ length after.fog.sets
unfolding settled
seen_count players s after seen same is = ap length same ∙ length-map s.fog.sets (found_for players s) ∙ sym (length-map s.fog.sets (settled_set s)) ∙ ap (λ (z : Scene). length z.fog.sets) (sym is)
