-- The world of a drill without walls and tokens.
use Rattle.std.proofs.Common.{◌≡◌, ℕ, zero, suc, ◌+◌, List, [], ◌∷◌, map, true, refl, sym, subst, ap, ◌∙◌, arith}
use Rattle.std.specs.Prelude.{All, codes}
use Rattle.std.specs.List.{range_with_len}
use Rattle.std.proofs.lemmas.List.Elements.{All-nil, All-cons}
use Rattle.seats.specs.Book.{Book}
use Rattle.seats.specs.declared.seat_state.SeatState.TheVariants.{Free}
use Rattle.cells.specs.Cells.{Extent}
use Rattle.names.specs.declared.kinds.Mode.TheVariants.{Night}
use Rattle.fog_book.specs.Exposures.{Fog, with_map as with_fog_of_map}
use Rattle.maps.specs.Maps.{Grid, changed, new_map, shown_if, with_map, with_mode}
use Rattle.world.specs.Scene.{with_grid, with_new_map}
use Rattle.world.specs.World.{World, IsOpening, opened}
use Rattle.drill.specs.Campaign.{book_at, drill_fog, drill_lights, drill_sights, map_with, whole_size, world_with}

pub map_set : (w added night shown : World) (name : List ℕ) (size : Extent) → w.scene.maps ≡ [] → w.scene.fog ≡ record { players = 4; sets = [] } → name ≡ codes "drill" → size ≡ whole_size
    → added ≡ record w { scene = with_new_map name size w.scene } → night ≡ record added { scene = with_grid name (with_mode Night) added.scene } → shown ≡ record night { scene = with_grid name (shown_if true) night.scene }
    → shown ≡ record w { scene = record w.scene { maps = map_with [] ∷ []; fog = drill_fog } }
map_set w added night shown name size maps fog named sized add mode show =
    let made : List Grid → Fog → List ℕ → Extent → World =
    λ maps fog name size. record w { scene = record w.scene { maps = changed name (shown_if true) (changed name (with_mode Night) (with_map (new_map name size) maps)); fog = with_fog_of_map fog name size } } in
    show
    ∙ ap (λ (w : World). record w { scene = with_grid name (shown_if true) w.scene }) (mode ∙ ap (λ (w : World). record w { scene = with_grid name (with_mode Night) w.scene }) add)
    ∙ (λ i. made (maps i) (fog i) (named i) (sized i))

-- ---- the world with types and the map alone

abbrev IsFree : Book → Type 0
IsFree book = book.state ≡ Free

all_free : (n from : ℕ) → All IsFree (map book_at (range_with_len from n))
unfolding book_at
all_free zero from = All-nil IsFree
all_free (suc n) from = All-cons IsFree (book_at from) (map book_at (range_with_len (from + 1) n)) refl (all_free n (from + 1))

pub opening_books : (books : List Book) → books ≡ map book_at (range_with_len 0 5) → IsOpening books
unfolding book_at
opening_books books is = subst IsOpening (sym is) (record {
  least = omega arith;
  most = omega arith;
  numbered = (refl, (refl, (refl, (refl, (refl, tt)))));
  free = all_free 5 0;
})

pub bare_is : (books : List Book) (w types mapped : World) → books ≡ map book_at (range_with_len 0 5) → w ≡ opened books → types ≡ record w { scene = record w.scene { lights = drill_lights; sights = drill_sights } }
    → mapped ≡ record types { scene = record types.scene { maps = map_with [] ∷ []; fog = drill_fog } } → mapped ≡ world_with [] []
unfolding world_with
bare_is books w types mapped all opens typed made =
    made
    ∙ ap (λ (w : World). record w { scene = record w.scene { maps = map_with [] ∷ []; fog = drill_fog } })
    (typed ∙ ap (λ (w : World). record w { scene = record w.scene { lights = drill_lights; sights = drill_sights } }) (opens ∙ ap opened all))
