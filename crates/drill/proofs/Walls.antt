-- A drill's walls, one after the other.
use Rattle.std.proofs.Common.{◌≡◌, ℕ, suc, ◌+◌, ◌*◌, List, [], ◌∷◌, Some, None, true, false, Bool, cond, refl, sym, ap, ◌∙◌, subst, arith}
use Rattle.std.specs.Prelude.{Option, IfSome, codes}
use Rattle.names.specs.declared.kinds.WallKind.TheVariants.{Vbl}
use Rattle.lattice.specs.Coordinates.{Coordinates}
use Rattle.maps.specs.Maps.{has_map, map_of, with_wall_of}
use Rattle.topology.specs.Order.{wall_between}
use Rattle.topology.specs.WallFaults.{IsFaultOf, wall_fault}
use Rattle.topology.specs.WallLists.{has_wall, with_wall}
use Rattle.topology.specs.declared.wall.Wall.{Wall}
use Rattle.topology.specs.declared.walls.WallFault.{WallFault}
use Rattle.topology.specs.declared.walls.WallFault.TheVariants.{OffMap, DegenerateWall, WallThere, WallLimit, Memory}
use Rattle.world.specs.Scene.{with_grid}
use Rattle.world.specs.World.{World}
use Rattle.tokens.specs.declared.token.Token.{Token}
use Rattle.drill.specs.Campaign.{and_wall, map_with, wall_drawn, walls_up_to, world_with}

abbrev drill : List ℕ
drill = codes "drill"

pub has_drill : (w : World) (name : List ℕ) (walls : List Wall) (ts : List Token) → w ≡ world_with walls ts → name ≡ drill → has_map name w.scene.maps ≡ true
unfolding world_with
has_drill w name walls ts is named = ap (λ (w : World). has_map name w.scene.maps) is ∙ ap (λ name. has_map name (map_with walls ∷ [])) named

-- ---- the checks of a new wall

abbrev checked : Bool → Bool → Bool → Bool → Option WallFault
checked off same there full = cond off (Some OffMap) (cond same (Some DegenerateWall) (cond there (Some WallThere) (cond full (Some WallLimit) None)))

is_new : (off same there full : Bool) → checked off same there full ≡ None → there ≡ false
is_new true same there full e = cc
is_new false true there full e = cc
is_new false false true full e = cc
is_new false false false full e = refl

is_there : (off same there full : Bool) → IsFaultOf (checked off same there full) WallThere → there ≡ true
is_there true same there full e = let z : WallThere ≡ OffMap = e in cc
is_there false true there full e = let z : WallThere ≡ DegenerateWall = e in cc
is_there false false true full e = refl
is_there false false false true e = let z : WallThere ≡ WallLimit = e in cc
is_there false false false false e = let z : WallThere ≡ Memory = e in cc

-- ---- one wall more

module _ (walls : List Wall) (w : World) (name : List ℕ) (a b : Coordinates) (is : w ≡ world_with walls []) (named : name ≡ drill) where
  abbrev OfMap : (Option WallFault → Type 0) → List ℕ → World → Type 0
  OfMap holds name w = IfSome (map_of name w.scene.maps) (λ m. holds (wall_fault m.walls Vbl a b))

  of_drill : (holds : Option WallFault → Type 0) → OfMap holds name w → holds (wall_fault (map_with walls).walls Vbl a b)
  unfolding world_with
  of_drill holds h = subst (OfMap holds drill) is (subst (λ name. OfMap holds name w) named h)

  -- a wall that wasn't there
  pub added : (new : World) → OfMap (λ fault. fault ≡ None) name w → new ≡ record w { scene = with_grid name (with_wall_of Vbl a b) w.scene } → new ≡ world_with (and_wall walls (wall_between a b)) []
  unfolding world_with
  added new none e =
      let fresh : has_wall (wall_between a b) walls ≡ false = is_new _ _ _ _ (of_drill (λ fault. fault ≡ None) none) in
      e
      ∙ ap (λ name. record w { scene = with_grid name (with_wall_of Vbl a b) w.scene }) named
      ∙ ap (λ (w : World). record w { scene = with_grid drill (with_wall_of Vbl a b) w.scene }) is
      ∙ ap (λ walls. world_with walls []) (ap (λ there. cond there walls (with_wall (wall_between a b) walls)) (sym fresh))

  -- a wall that was there
  pub skipped : (new : World) (told : WallFault) → told ≡ WallThere → OfMap (λ fault. IsFaultOf fault told) name w → new ≡ w → new ≡ world_with (and_wall walls (wall_between a b)) []
  skipped new told tells there e =
      let fault : IsFaultOf (wall_fault (map_with walls).walls Vbl a b) WallThere = subst (λ told. IsFaultOf (wall_fault (map_with walls).walls Vbl a b) told) tells (of_drill (λ fault. IsFaultOf fault told) there) in
      let old : has_wall (wall_between a b) walls ≡ true = is_there _ _ _ _ fault in
      e ∙ is ∙ ap (λ walls. world_with walls []) (ap (λ there. cond there walls (with_wall (wall_between a b) walls)) (sym old))

-- the walls so far, and the next one
pub one_more : (n k next : ℕ) (wall : Wall) (new : World) → next ≡ 4 * k → wall ≡ wall_drawn n next → new ≡ world_with (and_wall (walls_up_to n k) wall) [] → new ≡ world_with (walls_up_to n (k + 1)) []
unfolding walls_up_to
one_more n k next wall new place drawn e =
    let more : suc k ≡ k + 1 = omega arith in
    e ∙ ap (λ wall. world_with (and_wall (walls_up_to n k) wall) []) (drawn ∙ ap (wall_drawn n) place) ∙ ap (λ k. world_with (walls_up_to n k) []) more

pub no_wall : (n : ℕ) (w : World) → w ≡ world_with [] [] → w ≡ world_with (walls_up_to n 0) []
unfolding walls_up_to
no_wall n w is = is
