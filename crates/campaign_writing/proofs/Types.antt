-- Types of lights and sights that were written are read.
use Rattle.std.proofs.Common.{◌≡◌, ℕ, ◌≤◌, ◌<◌, List, [], ◌∷◌, ◌++◌, length, Some, Ok, refl, ap, arith, true, false, Bool, ◌&&◌, nat_le}
use Rattle.std.specs.Prelude.{codes, not, ℤ, unsigned_abs}
use Rattle.std.specs.List.{AllByRecursion}
use Rattle.std.specs.Cmp.Lexicographic.{nat_list_cmp_total}
use Rattle.std.specs.FinMap.Entries.{is_sorted}
use Rattle.names.specs.Tag.{is_tag, tag_of, tag_cmp}
use Rattle.std.proofs.lemmas.Bool.Decides.{nat_tests}
use Rattle.lights.specs.Radii.{is_dark, is_radius}
use Rattle.sight_types.specs.declared.Sight.{Sight}
use Rattle.type_table.specs.Types.{lacks_room}
use Rattle.serde_json.specs.Data.{Data}
use Rattle.serde_json.specs.Find.{get}
use Rattle.world.specs.Scene.{Scene}
use Rattle.campaign_json.specs.declared.formats.Format.{Format}
use Rattle.campaign_json.specs.declared.formats.Format.TheVariants.{First, Second}
use Rattle.campaign_json.specs.Reading.{under}
use Rattle.campaign_json.specs.Kinds as kinds
use Rattle.campaign_writing.proofs.Writable.{IsLight, IsSight}
use Rattle.campaign_writing.specs.Trees.{whole, integer, named}
use Rattle.campaign_writing.specs.Scenes.{lights_tree, sights_tree, sight_tree}
use Rattle.campaign_scene.specs.Types.{is_radius_in, light, lights, radius, sight, sight_of, sights}
use Rattle.campaign_writing.proofs.Parts.{field_reads, item_reads, members_read, members_reads, signed_reads, whole_reads}
use Rattle.campaign_writing.proofs.Orders.{between, fewer, room_left, lesser_entries, put_last}
use Rattle.maps.proofs.NameLemmas.{and_first, and_second, both}

pub tag_is : (bytes : List ℕ) → is_tag bytes ≡ true → tag_of bytes ≡ Some bytes
unfolding tag_of
tag_is bytes h = rw h

pub has_room : (known : Bool) (n : ℕ) → n < 32 → (not known && nat_le 32 n) ≡ false
has_room true n lt = refl
has_room false n lt = room_left n 32 lt

four : (a b c d : Bool) → (a && b && c && d) ≡ true → (a ≡ true) × ((b ≡ true) × ((c ≡ true) × (d ≡ true)))
four true true true true h = (refl, (refl, (refl, refl)))
four true true true false h = absurd cc
four true true false d h = absurd cc
four true false c d h = absurd cc
four false b c d h = absurd cc

low : (n : ℕ) → nat_le 0 n ≡ true
low n = grind (arith, nat_tests)

-- a radius of a format is one that a light type may have
any_radius : (format : Format) (z : ℤ) → is_radius_in format z ≡ true → is_radius z ≡ true
any_radius First z is = and_first (is_radius z) (not (is_dark z)) is
any_radius Second z is = is

radius_reads : (format : Format) (z : ℤ) → is_radius_in format z ≡ true → radius format (integer z) ≡ Ok z
unfolding radius
radius_reads format z is = rw (signed_reads z (low_of (unsigned_abs z) (and_second (nat_le 1 (unsigned_abs z)) (nat_le (unsigned_abs z) 20) (any_radius format z is))), is) refl
  where
    low_of : (n : ℕ) → nat_le n 20 ≡ true → n ≤ 20
    low_of n h = grind (arith, nat_tests)

module _ (format : Format) (s : Scene) (all : List (List ℕ × ℤ)) (are : AllByRecursion (IsLight format) all) (few : length all ≤ 32) (sorted : is_sorted tag_cmp all ≡ true) where
  light_reads : (done : List (List ℕ × ℤ)) (x : List ℕ × ℤ) (left : List (List ℕ × ℤ)) → done ++ x ∷ left ≡ all
      → light format x.0 (record s { lights = done }) (integer x.1) ≡ Ok (record s { lights = done ++ x ∷ [] })
  unfolding light
  light_reads done x left e =
      let is = between (IsLight format) done x left all e are in
      let room : lacks_room x.0 done ≡ false = has_room _ (length done) (fewer done x left all 32 e few) in
      rw (tag_is x.0 is.0, radius_reads format x.1 is.1, any_radius format x.1 is.1, room)
      (ap (λ types. Ok (record s { lights = types })) (put_last tag_cmp nat_list_cmp_total x done (lesser_entries tag_cmp done x left all e sorted)))

  pub lights_read : (d : Data) → get (codes "lights") d ≡ Some (lights_tree all) → lights format (record s { lights = [] }) d ≡ Ok (record s { lights = all })
  unfolding lights
  lights_read d there =
      rw (field_reads (codes "lights") (kinds.members 32) d (lights_tree all) (named integer all) there (members_reads 32 integer all few))
      (ap (under (codes "lights")) (members_read (λ done. record s { lights = done }) all (light format) integer light_reads))

module _ (s : Scene) (all : List (List ℕ × Sight)) (are : AllByRecursion IsSight all) (few : length all ≤ 32) (sorted : is_sorted tag_cmp all ≡ true) where
  sight_reads : (done : List (List ℕ × Sight)) (x : List ℕ × Sight) (left : List (List ℕ × Sight)) → done ++ x ∷ left ≡ all
      → sight x.0 (record s { sights = done }) (sight_tree x.1) ≡ Ok (record s { sights = done ++ x ∷ [] })
  unfolding sight sight_of
  sight_reads done x left e =
      let is = between IsSight done x left all e are in
      let in_four = four (nat_le x.1.range 40) (nat_le x.1.night 40) (nat_le 1 x.1.mult) (nat_le x.1.mult 4) is.1 in
      let mult : (nat_le 1 x.1.mult && nat_le x.1.mult 4) ≡ true = both _ _ in_four.1.1.0 in_four.1.1.1 in
      let room : lacks_room x.0 done ≡ false = has_room _ (length done) (fewer done x left all 32 e few) in
      rw (
        tag_is x.0 is.0,
        item_reads 0 (kinds.whole 0 40) (sight_tree x.1) (whole x.1.range) x.1.range refl (whole_reads 0 40 x.1.range (omega arith) (both _ _ (low x.1.range) in_four.0)),
        item_reads 1 (kinds.whole 0 40) (sight_tree x.1) (whole x.1.night) x.1.night refl (whole_reads 0 40 x.1.night (omega arith) (both _ _ (low x.1.night) in_four.1.0)),
        item_reads 2 (kinds.whole 1 4) (sight_tree x.1) (whole x.1.mult) x.1.mult refl (whole_reads 1 4 x.1.mult (omega arith) mult),
        is.1,
        room,
      )
      (ap (λ types. Ok (record s { sights = types })) (put_last tag_cmp nat_list_cmp_total x done (lesser_entries tag_cmp done x left all e sorted)))

  pub sights_read : (d : Data) → get (codes "sights") d ≡ Some (sights_tree all) → sights (record s { sights = [] }) d ≡ Ok (record s { sights = all })
  unfolding sights
  sights_read d there =
      rw (field_reads (codes "sights") (kinds.members 32) d (sights_tree all) (named sight_tree all) there (members_reads 32 sight_tree all few))
      (ap (under (codes "sights")) (members_read (λ done. record s { sights = done }) all sight sight_tree sight_reads))
