-- No command takes a map or a type, or changes a map's size.
use Rattle.std.proofs.Common.{◌≡◌, ℕ, Bool, true, false, cond, List, Option, Some, None, refl, sym, ◌∙◌, ap, ℤ}
use Rattle.std.specs.Prelude.{option_map, is_some}
use Rattle.std.specs.Ordering.{eq_by_cmp}
use Rattle.std.specs.Cmp.Lexicographic.{nat_list_cmp_total}
use Rattle.std.specs.FinMap.Entries.{find-put}
use Rattle.std.specs.Str.{bytes_eq}
use Rattle.std.proofs.lemmas.Slice.Eq.{bytes_eq-Decides}
use Rattle.names.specs.Tag.{tag_cmp}
use Rattle.names.specs.declared.token_id.TokenId.{TokenId}
use Rattle.cells.specs.Cells.{Extent}
use Rattle.maps.specs.Maps.{Grid, map_of, new_map, with_mode, shown_if as map_shown_if, trail_if, with_letters, with_wall_of, without_wall_of}
use Rattle.maps.specs.MapFaults.{map_fault}
use Rattle.maps.specs.declared.map_table.MapFault.TheVariants.{MapExists, MapLimit}
use Rattle.topology.specs.WallLists.{with_wall, without_wall}
use Rattle.topology.specs.Order.{wall_between}
use Rattle.tokens.specs.declared.token.Token.{Token as Made}
use Rattle.type_table.specs.Types.{type_of, with_type}
use Rattle.command_json.specs.declared.command.Command.TheVariants.{Move, Map, Mode, Show, Trail, Terrain, Wall, Unwall, Lighttype, Sighttype}
use Rattle.world.specs.Scene.{Scene, with_grid, with_new_map}
use Rattle.world.specs.Rules.{size_of}
use Rattle.world.proofs.FogRules.{size_of-changed, size_of-with_map}
use Rattle.world.proofs.SceneRules.{walls_keep_size}
use Rattle.player_view.specs.Follows.{Follows}
use Rattle.command_rules.specs.Places.{coordinate, rect_at, point_at}
use Rattle.command_effects.specs.GmEffects.{gm_scene_by, sight_by}
use Rattle.command_effects.specs.Effects.{own_token, after_steps, scene_by}
use Rattle.command_effects.specs.Follows.{ScenesFollow}
use Rattle.command_effects.specs.Settle.{settled}
use Rattle.command_effects.specs.Way.{exposed_on, way_of, after_by}
use Rattle.command_effects.specs.Allowed.{IsAllowed}
use Rattle.command_effects.proofs.Ways.{HasOtherSets, exposed_on_sets}
use Rattle.command_json.specs.declared.command.Command.{Command}
use Rattle.macro_eval.specs.declared.intent.Intent.{Intent}
use Rattle.command_effects.proofs.GmCommands.{map_may}

-- ---- parts of a scene

-- other tokens or exposed sets
same_tables : (s t : Scene) → t.maps ≡ s.maps → t.lights ≡ s.lights → t.sights ≡ s.sights → Follows s t
same_tables s t maps lights sights = record {
  sizes = λ name size there. ap (λ ms. size_of name ms) maps ∙ there;
  lights = λ name there. ap (λ ls. is_some (type_of name ls)) lights ∙ there;
  sights = λ name there. ap (λ ls. is_some (type_of name ls)) sights ∙ there;
}

-- one map changed
one_grid : (s : Scene) (name : List ℕ) (f : Grid → Grid) → ((m : Grid) → (f m).name ≡ m.name) → ((m : Grid) → (f m).walls.extent ≡ m.walls.extent) → Follows s (with_grid name f s)
one_grid s name f names sizes = record {
  sizes = λ other size there. size_of-changed f names sizes name other s.maps ∙ there;
  lights = λ other there. there;
  sights = λ other there. there;
}

-- one map more
one_map_more : (s : Scene) (name : List ℕ) (size : Extent) → map_fault s.maps name ≡ None → Follows s (with_new_map name size s)
one_map_more s name size new = record {
  sizes = λ other extent there. size_of-with_map (new_map name size) other s.maps none ∙ by other extent (bytes_eq name other) refl there;
  lights = λ other there. there;
  sights = λ other there. there;
}
  where
    absent : (b c : Bool) → cond b (Some MapExists) (cond c (Some MapLimit) None) ≡ None → b ≡ false
    absent true c e = cc
    absent false c e = refl

    no_size : (o : Option Grid) → is_some o ≡ false → option_map (λ (m : Grid). m.walls.extent) o ≡ None
    no_size None e = refl
    no_size (Some m) e = cc

    none : size_of name s.maps ≡ None
    none = no_size (map_of name s.maps) (absent _ _ new)

    by : (other : List ℕ) (extent : Extent) (b : Bool) → bytes_eq name other ≡ b → size_of other s.maps ≡ Some extent
        → cond b (Some size) (size_of other s.maps) ≡ Some extent
    by other extent true e there =
        let same : name ≡ other = (bytes_eq-Decides name other).0 e in
        let no : size_of other s.maps ≡ None = ap (λ n. size_of n s.maps) (sym same) ∙ none in
        cc
    by other extent false e there = there

-- one type set
still_there : {V : Type 0} (name : List ℕ) (v : V) (other : List ℕ) (types : List (List ℕ × V)) → is_some (type_of other types) ≡ true → is_some (type_of other (with_type name v types)) ≡ true
still_there name v other types there = ap is_some (find-put tag_cmp nat_list_cmp_total other name v types) ∙ by (eq_by_cmp tag_cmp other name)
  where
    by : (b : Bool) → is_some (cond b (Some v) (type_of other types)) ≡ true
    by true = refl
    by false = there

-- ---- all commands

steps_keep : (steps : ℕ) (id : TokenId) (path : List (ℤ × ℤ)) (o : Option Made) (s : Scene) → Follows s (settled (after_steps steps id path o s))
unfolding settled
steps_keep steps id path None s = same_tables s _ refl refl refl
steps_keep steps id path (Some t) s = same_tables s _ refl refl refl

-- settling keeps maps and types
settles : (s t : Scene) → Follows s t → Follows s (settled t)
unfolding settled
settles s t follows = record { sizes = follows.sizes; lights = follows.lights; sights = follows.sights }

follows_settled : (steps : ℕ) (intents : List Intent) (seat : ℕ) (s : Scene) (c : Command) → IsAllowed s seat c → Follows s (settled (scene_by steps intents seat s (Some c)))
unfolding scene_by gm_scene_by settled
follows_settled steps intents seat s (Move token path) allowed = steps_keep steps token path (own_token s seat token) s
follows_settled steps intents seat s (Map name w h) allowed =
    settles s _ (one_map_more s name (record { w = coordinate w; h = coordinate h }) (map_may s seat name w h allowed))
follows_settled steps intents seat s (Mode map mode) allowed = settles s _ (one_grid s map (with_mode mode) (λ m. refl) (λ m. refl))
follows_settled steps intents seat s (Show map on) allowed = settles s _ (one_grid s map (map_shown_if on) (λ m. refl) (λ m. refl))
follows_settled steps intents seat s (Trail map on) allowed = settles s _ (one_grid s map (trail_if on) (λ m. refl) (λ m. refl))
follows_settled steps intents seat s (Terrain map rect kind) allowed = settles s _ (one_grid s map (with_letters (rect_at rect) kind) (λ m. refl) (λ m. refl))
follows_settled steps intents seat s (Wall map kind a b) allowed =
    settles s _ (one_grid s map (with_wall_of kind (point_at a) (point_at b)) (λ m. refl) (walls_keep_size kind (with_wall (wall_between (point_at a) (point_at b)))))
follows_settled steps intents seat s (Unwall map kind a b) allowed =
    settles s _ (one_grid s map (without_wall_of kind (point_at a) (point_at b)) (λ m. refl) (walls_keep_size kind (without_wall (wall_between (point_at a) (point_at b)))))
follows_settled steps intents seat s (Lighttype name radius) allowed =
    record { sizes = λ other size there. there; lights = λ other there. still_there name radius other s.lights there; sights = λ other there. there }
follows_settled steps intents seat s (Sighttype name range night mult) allowed =
    record { sizes = λ other size there. there; lights = λ other there. there; sights = λ other there. still_there name (sight_by range night mult) other s.sights there }
follows_settled steps intents seat s c allowed = same_tables s _ refl refl refl

-- other exposed sets change nothing of it
other_sets : (s t u : Scene) → Follows s (settled t) → HasOtherSets t u → Follows s (settled u)
unfolding settled
other_sets s t u follows other = record {
  sizes = λ name size there. ap (λ (x : Scene). size_of name x.maps) other.same ∙ follows.sizes name size there;
  lights = λ name there. ap (λ (x : Scene). is_some (type_of name x.lights)) other.same ∙ follows.lights name there;
  sights = λ name there. ap (λ (x : Scene). is_some (type_of name x.sights)) other.same ∙ follows.sights name there;
}

pub scenes_follow : ScenesFollow
unfolding after_by
scenes_follow steps intents seat s c allowed =
    other_sets s (scene_by steps intents seat s (Some c)) (exposed_on (way_of steps seat s (Some c)) (scene_by steps intents seat s (Some c)))
    (follows_settled steps intents seat s c allowed) (exposed_on_sets (way_of steps seat s (Some c)) (scene_by steps intents seat s (Some c)))
