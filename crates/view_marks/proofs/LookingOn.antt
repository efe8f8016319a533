-- A command leaves the view of each player whom it shows nothing.
use Rattle.std.proofs.Common.{◌≡◌, ℕ, ◌-◌, Bool, true, false, cond, ◌||◌, List, map, take, Some, None, refl, sym, ◌∙◌, ap, subst, ℤ}
use Rattle.std.specs.Prelude.{◌==◌, All, Option, slice_get}
use Rattle.fog_book.specs.declared.exposure.Exposure.{Exposure}
use Rattle.fog_book.specs.Exposures.{Fog, with_change}
use Rattle.fog_book.specs.Rects.{with_rect}
use Rattle.names.specs.declared.kinds.PropClass.{PropClass}
use Rattle.names.specs.declared.kinds.PropClass.TheVariants.{Public, Own as OwnClass, Secret as SecretClass}
use Rattle.names.specs.declared.token_id.TokenId.{TokenId}
use Rattle.cells.specs.Cells.{Cells}
use Rattle.topology.specs.Order.{wall_between}
use Rattle.topology.specs.WallLists.{with_wall, without_wall}
use Rattle.maps.specs.Maps.{Grid, map_of}
use Rattle.command_json.specs.declared.command.Command.TheVariants.{Move, Setprop, Light, Trail, Wall, Unwall, Own, Layer as PutOnLayer, Visible, Sight, Place, Secret, Expose, Hide}
use Rattle.tokens.specs.declared.token.Token.{Token}
use Rattle.tokens.specs.Tokens.{on_layer, owned_by, placed, shown_if, with_light, with_prop, with_sight}
use Rattle.world.specs.Scene.{Scene}
use Rattle.player_view.specs.Sight.{visible}
use Rattle.player_view.specs.View.{is_gm, view_of}
use Rattle.command_rules.specs.Places.{cell_at, point_at, rect_at}
use Rattle.command_effects.specs.Effects.{after_steps, cell_after, own_token, scene_by}
use Rattle.command_effects.specs.GmEffects.{gm_scene_by}
use Rattle.command_effects.specs.Settle.{settled, settled_set, with_sight as seen_by_set, IsSettled}
use Rattle.command_effects.specs.Way.{after_by, exposed_on, way_by, way_of, way_on, Way}
use Rattle.command_effects.proofs.Ways.{exposed_on_sets, HasOtherSets}
use Rattle.view_marks.specs.Onlookers.{meets_any, LeavesOthersSettled, ShowsOthersNothing}
use Rattle.view_marks.proofs.Bystanders.{is_number, own_at, own_sets, own_settled, settled_at, still_settled, still_shown, KeepsId}
use Rattle.view_marks.proofs.Passing.{own_other, way_kept}
use Rattle.view_marks.proofs.Secrets.{secrets, secrets_settled}
use Rattle.view_marks.proofs.Walls.{trails, trails_settled, walls_settled, walls_shown}
use Rattle.view_marks.proofs.Fogs.{apart, fogs}

neither : (a b : Bool) → (a || b) ≡ false → (a ≡ false) × (b ≡ false)
neither false b h = (refl, h)
neither true b h = let no : true ≡ false = h in cc

prop_keeps : (class : PropClass) (name value : List ℕ) (id : TokenId) → KeepsId id (with_prop class name value)
prop_keeps Public name value id t = refl
prop_keeps OwnClass name value id t = refl
prop_keeps SecretClass name value id t = refl

-- ---- a move

module _ (p : ℕ) (s : Scene) (steps : ℕ) (id : TokenId) (path : List (ℤ × ℤ)) (t : Token) (is : IsSettled s) (none : meets_any s id p ≡ false)
    (then : meets_any (after_steps steps id path (Some t) s) id p ≡ false) where
  abbrev after : Scene
  after = after_steps steps id path (Some t) s

  way_own : (o : Option Grid) → map_of t.map s.maps ≡ o → own_sets p (exposed_on (way_on steps id path t o) after).fog.sets ≡ own_sets p s.fog.sets
  way_own None there = refl
  way_own (Some m) there = by m.trail
    where
      by : (b : Bool) → own_sets p (exposed_on (cond b (Some (record { id = id; name = t.map; map = m; cells = map cell_at (take (steps - 1) path); last = cell_after steps t.cell path })) None) after).fog.sets ≡ own_sets p s.fog.sets
      by true = way_kept p s id t.map m (cell_after steps t.cell path) there is none then (map cell_at (take (steps - 1) path))
      by false = refl

  abbrev way : Option Way
  way = way_on steps id path t (map_of t.map s.maps)

  other : HasOtherSets after (exposed_on way after)
  other = exposed_on_sets way after

  abbrev fog : Fog
  fog = record s.fog { sets = other.sets }

  own : own_sets p fog.sets ≡ own_sets p s.fog.sets
  own = ap (λ (x : Scene). own_sets p x.fog.sets) (sym other.same) ∙ way_own (map_of t.map s.maps) refl

  moved_shown : is_gm p ≡ false → view_of (settled (exposed_on way after)) p ≡ view_of s p
  moved_shown player =
      ap (λ (x : Scene). view_of (settled x) p) other.same ∙ still_shown p s id (placed t.map (cell_after steps t.cell path)) (λ u. refl) none then fog is own player

  moved_settled : (place : ℕ) (set : Exposure) → slice_get (exposed_on way after).fog.sets place ≡ Some set → set.seat ≡ p → settled_set (exposed_on way after) set ≡ set
  moved_settled place set there seat =
      ap (λ (x : Scene). settled_set x set) other.same
      ∙ still_settled p s id (placed t.map (cell_after steps t.cell path)) (λ u. refl) none then fog is own place set
      (ap (λ (x : Scene). slice_get x.fog.sets place) (sym other.same) ∙ there) seat

-- of a token that may be there or not
any_moved_shown : (steps : ℕ) (id : TokenId) (path : List (ℤ × ℤ)) (o : Option Token) (s : Scene) (p : ℕ) → IsSettled s → (meets_any s id p || meets_any (after_steps steps id path o s) id p) ≡ false → is_gm p ≡ false
    → view_of (settled (exposed_on (way_by s steps id path o) (after_steps steps id path o s))) p ≡ view_of s p
any_moved_shown steps id path None s p is none player = ap (λ x. view_of x p) is
any_moved_shown steps id path (Some t) s p is none player = let both = neither _ _ none in moved_shown p s steps id path t is both.0 both.1 player

any_moved_settled : (steps : ℕ) (id : TokenId) (path : List (ℤ × ℤ)) (o : Option Token) (s : Scene) (place : ℕ) (set : Exposure) → IsSettled s
    → slice_get (exposed_on (way_by s steps id path o) (after_steps steps id path o s)).fog.sets place ≡ Some set → (meets_any s id set.seat || meets_any (after_steps steps id path o s) id set.seat) ≡ false
    → settled_set (exposed_on (way_by s steps id path o) (after_steps steps id path o s)) set ≡ set
any_moved_settled steps id path None s place set is there none = settled_at s place set is there
any_moved_settled steps id path (Some t) s place set is there none = let both = neither _ _ none in moved_settled set.seat s steps id path t is both.0 both.1 place set there refl

-- ---- what is shown

pub others_nothing : ShowsOthersNothing
unfolding after_by scene_by gm_scene_by way_of
others_nothing steps intents seat s (Move token path) p is none player = any_moved_shown steps token path (own_token s seat token) s p is none player
others_nothing steps intents seat s (Setprop token class name value) p is none player = (let both = neither _ _ none in still_shown p s token (with_prop class name value) (prop_keeps class name value token) both.0 both.1 s.fog is refl player)
others_nothing steps intents seat s (Light token light) p is none player = (let both = neither _ _ none in still_shown p s token (with_light light) (λ u. refl) both.0 both.1 s.fog is refl player)
others_nothing steps intents seat s (Own token owner on) p is none player = (let both = neither _ _ none in still_shown p s token (owned_by owner on) (λ u. refl) both.0 both.1 s.fog is refl player)
others_nothing steps intents seat s (PutOnLayer token layer) p is none player = (let both = neither _ _ none in still_shown p s token (on_layer layer) (λ u. refl) both.0 both.1 s.fog is refl player)
others_nothing steps intents seat s (Visible token on) p is none player = (let both = neither _ _ none in still_shown p s token (shown_if on) (λ u. refl) both.0 both.1 s.fog is refl player)
others_nothing steps intents seat s (Sight token sight) p is none player = (let both = neither _ _ none in still_shown p s token (with_sight sight) (λ u. refl) both.0 both.1 s.fog is refl player)
others_nothing steps intents seat s (Place token map cell) p is none player = (let both = neither _ _ none in still_shown p s token (placed map (cell_at cell)) (λ u. refl) both.0 both.1 s.fog is refl player)
others_nothing steps intents seat s (Secret token name value) p is none player = secrets s token name value p is player
others_nothing steps intents seat s (Trail map on) p is none player = trails s map on p is
others_nothing steps intents seat s (Wall map kind a b) p is none player = walls_shown kind map (with_wall (wall_between (point_at a) (point_at b))) s p none is
others_nothing steps intents seat s (Unwall map kind a b) p is none player = walls_shown kind map (without_wall (wall_between (point_at a) (point_at b))) s p none is
others_nothing steps intents seat s (Expose place map rect) p is none player = fogs s place map (λ cells. with_rect cells (rect_at rect) true) p is none
others_nothing steps intents seat s (Hide place map rect) p is none player = fogs s place map (λ cells. with_rect cells (rect_at rect) false) p is none
others_nothing steps intents seat s c p is none player = (let no : true ≡ false = none in cc)

-- ---- what is exposed

-- a set of another player than the one to whom something is exposed, or hidden
fog_settled : (s : Scene) (player : ℕ) (name : List ℕ) (change : Cells → Cells) (place : ℕ) (set : Exposure) → IsSettled s → slice_get (with_change s.fog player name change).sets place ≡ Some set → (player == set.seat) ≡ false
    → settled_set (record s { fog = with_change s.fog player name change }) set ≡ set
unfolding visible
fog_settled s player name change place set is there other =
    under (map_of set.map s.maps)
    ∙ own_at (λ x. settled_set s x ≡ x) set.seat (with_change s.fog player name change).sets place set
    (subst (λ (xs : List Exposure). All (λ x. settled_set s x ≡ x) xs) (sym (own_other set.seat player name change (apart player set.seat other) s.fog.sets)) (own_settled s set.seat is)) there (is_number set.seat set.seat refl)
  where
    under : (o : Option Grid) → seen_by_set (record s { fog = with_change s.fog player name change }) set o ≡ seen_by_set s set o
    under None = refl
    under (Some m) = refl

pub others_settled : LeavesOthersSettled
unfolding scene_by gm_scene_by way_of
others_settled steps intents seat s (Move token path) is place set there none = any_moved_settled steps token path (own_token s seat token) s place set is there none
others_settled steps intents seat s (Setprop token class name value) is place set there none = (let both = neither _ _ none in still_settled set.seat s token (with_prop class name value) (prop_keeps class name value token) both.0 both.1 s.fog is refl place set there refl)
others_settled steps intents seat s (Light token light) is place set there none = (let both = neither _ _ none in still_settled set.seat s token (with_light light) (λ u. refl) both.0 both.1 s.fog is refl place set there refl)
others_settled steps intents seat s (Own token owner on) is place set there none = (let both = neither _ _ none in still_settled set.seat s token (owned_by owner on) (λ u. refl) both.0 both.1 s.fog is refl place set there refl)
others_settled steps intents seat s (PutOnLayer token layer) is place set there none = (let both = neither _ _ none in still_settled set.seat s token (on_layer layer) (λ u. refl) both.0 both.1 s.fog is refl place set there refl)
others_settled steps intents seat s (Visible token on) is place set there none = (let both = neither _ _ none in still_settled set.seat s token (shown_if on) (λ u. refl) both.0 both.1 s.fog is refl place set there refl)
others_settled steps intents seat s (Sight token sight) is place set there none = (let both = neither _ _ none in still_settled set.seat s token (with_sight sight) (λ u. refl) both.0 both.1 s.fog is refl place set there refl)
others_settled steps intents seat s (Place token map cell) is place set there none = (let both = neither _ _ none in still_settled set.seat s token (placed map (cell_at cell)) (λ u. refl) both.0 both.1 s.fog is refl place set there refl)
others_settled steps intents seat s (Secret token name value) is place set there none = settled_at _ place set (secrets_settled s token name value is) there
others_settled steps intents seat s (Trail map on) is place set there none = trails_settled s map on set ∙ settled_at s place set is there
others_settled steps intents seat s (Wall map kind a b) is place set there none = walls_settled kind map (with_wall (wall_between (point_at a) (point_at b))) s set none ∙ settled_at s place set is there
others_settled steps intents seat s (Unwall map kind a b) is place set there none = walls_settled kind map (without_wall (wall_between (point_at a) (point_at b))) s set none ∙ settled_at s place set is there
others_settled steps intents seat s (Expose player map rect) is place set there none = fog_settled s player map (λ cells. with_rect cells (rect_at rect) true) place set is there none
others_settled steps intents seat s (Hide player map rect) is place set there none = fog_settled s player map (λ cells. with_rect cells (rect_at rect) false) place set is there none
others_settled steps intents seat s c is place set there none = (let no : true ≡ false = none in cc)
