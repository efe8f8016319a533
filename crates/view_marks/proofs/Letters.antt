-- A command leaves the letters of each map as they are, or may change one.
use Rattle.std.proofs.Common.{◌∙◌, ◌≡◌, ℕ, Bool, true, false, List, Some, None, refl}
use Rattle.std.specs.Prelude.{Option, ℤ}
use Rattle.names.specs.declared.kinds.Mode.{Mode as OneMode}
use Rattle.names.specs.declared.kinds.WallKind.{WallKind}
use Rattle.names.specs.declared.kinds.WallKind.TheVariants.{Vbl, Mbl}
use Rattle.names.specs.declared.token_id.TokenId.{TokenId}
use Rattle.tokens.specs.declared.token.Token.{Token as OneToken}
use Rattle.topology.specs.declared.wall.Wall.{Wall as OneWall}
use Rattle.topology.specs.Order.{wall_between}
use Rattle.topology.specs.WallLists.{with_wall, without_wall}
use Rattle.maps.specs.Maps.{changed, shown_if, trail_if, walled, with_mode}
use Rattle.command_json.specs.declared.command.Command.TheVariants.{Macro, Move, Setprop, Light, Make, Remove, Mode, Show, Trail, Wall, Unwall, Lighttype, Sighttype, Token, Own, Layer, Visible, Sight, Place, Secret, Expose, Hide, Init, Uninit, Turn, Endfight}
use Rattle.world.specs.Scene.{Scene}
use Rattle.command_rules.specs.Places.{point_at}
use Rattle.command_effects.specs.GmEffects.{gm_scene_by}
use Rattle.command_effects.specs.Effects.{after_steps, own_token, scene_by}
use Rattle.command_effects.specs.Settle.{settled}
use Rattle.command_effects.specs.Way.{way_of, after_by}
use Rattle.command_effects.proofs.Ways.{way_maps}
use Rattle.macro_eval.specs.declared.intent.Intent.{Intent}
use Rattle.player_view.specs.Lettered.{SameLetters}
use Rattle.player_view.specs.View.{letters_in}
use Rattle.player_view.proofs.OlderLetters.{same_but, same_maps}
use Rattle.view_marks.specs.Marks.{LeavesLetters}

stepped : (steps : ℕ) (id : TokenId) (path : List (ℤ × ℤ)) (t : Option OneToken) (s : Scene) → (after_steps steps id path t s).maps ≡ s.maps
stepped steps id path None s = refl
stepped steps id path (Some t) s = refl

moved : (steps : ℕ) (intents : List Intent) (seat : ℕ) (s : Scene) (id : TokenId) (path : List (ℤ × ℤ)) → (after_by steps intents seat s (Some (Move id path))).maps ≡ s.maps
unfolding scene_by after_by
moved steps intents seat s id path =
    way_maps (way_of steps seat s (Some (Move id path))) (after_steps steps id path (own_token s seat id) s) ∙ stepped steps id path (own_token s seat id) s

-- ---- a map that is changed, but for its letters

other_walls : (kind : WallKind) (f : List OneWall → List OneWall) (name : List ℕ) (s : Scene) → SameLetters s.maps (changed name (walled kind f) s.maps)
unfolding letters_in
other_walls Vbl f name s = same_but (walled Vbl f) (λ m. refl) (λ m cells. refl) name s.maps
other_walls Mbl f name s = same_but (walled Mbl f) (λ m. refl) (λ m cells. refl) name s.maps

other_mode : (mode : OneMode) (name : List ℕ) (s : Scene) → SameLetters s.maps (changed name (with_mode mode) s.maps)
unfolding letters_in
other_mode mode name s = same_but (with_mode mode) (λ m. refl) (λ m cells. refl) name s.maps

shown_or_not : (on : Bool) (name : List ℕ) (s : Scene) → SameLetters s.maps (changed name (shown_if on) s.maps)
unfolding letters_in
shown_or_not on name s = same_but (shown_if on) (λ m. refl) (λ m cells. refl) name s.maps

trail_or_not : (on : Bool) (name : List ℕ) (s : Scene) → SameLetters s.maps (changed name (trail_if on) s.maps)
unfolding letters_in
trail_or_not on name s = same_but (trail_if on) (λ m. refl) (λ m cells. refl) name s.maps

-- ---- commands

pub leaves_letters : LeavesLetters
unfolding settled scene_by gm_scene_by way_of after_by
leaves_letters steps intents seat s (Some (Macro name args to)) is = same_maps s.maps s.maps refl
leaves_letters steps intents seat s (Some (Move token path)) is = same_maps s.maps (after_by steps intents seat s (Some (Move token path))).maps (moved steps intents seat s token path)
leaves_letters steps intents seat s (Some (Setprop token class name value)) is = same_maps s.maps s.maps refl
leaves_letters steps intents seat s (Some (Light token light)) is = same_maps s.maps s.maps refl
leaves_letters steps intents seat s (Some (Make tag map cell name)) is = same_maps s.maps s.maps refl
leaves_letters steps intents seat s (Some (Remove token)) is = same_maps s.maps s.maps refl
leaves_letters steps intents seat s (Some (Mode map mode)) is = other_mode mode map s
leaves_letters steps intents seat s (Some (Show map on)) is = shown_or_not on map s
leaves_letters steps intents seat s (Some (Trail map on)) is = trail_or_not on map s
leaves_letters steps intents seat s (Some (Wall map kind a b)) is = other_walls kind (with_wall (wall_between (point_at a) (point_at b))) map s
leaves_letters steps intents seat s (Some (Unwall map kind a b)) is = other_walls kind (without_wall (wall_between (point_at a) (point_at b))) map s
leaves_letters steps intents seat s (Some (Lighttype name radius)) is = same_maps s.maps s.maps refl
leaves_letters steps intents seat s (Some (Sighttype name range night mult)) is = same_maps s.maps s.maps refl
leaves_letters steps intents seat s (Some (Token tag map cell name size layer)) is = same_maps s.maps s.maps refl
leaves_letters steps intents seat s (Some (Own token owner on)) is = same_maps s.maps s.maps refl
leaves_letters steps intents seat s (Some (Layer token layer)) is = same_maps s.maps s.maps refl
leaves_letters steps intents seat s (Some (Visible token on)) is = same_maps s.maps s.maps refl
leaves_letters steps intents seat s (Some (Sight token sight)) is = same_maps s.maps s.maps refl
leaves_letters steps intents seat s (Some (Place token map cell)) is = same_maps s.maps s.maps refl
leaves_letters steps intents seat s (Some (Secret token name value)) is = same_maps s.maps s.maps refl
leaves_letters steps intents seat s (Some (Expose player map rect)) is = same_maps s.maps s.maps refl
leaves_letters steps intents seat s (Some (Hide player map rect)) is = same_maps s.maps s.maps refl
leaves_letters steps intents seat s (Some (Init token value)) is = same_maps s.maps s.maps refl
leaves_letters steps intents seat s (Some (Uninit token)) is = same_maps s.maps s.maps refl
leaves_letters steps intents seat s (Some Turn) is = same_maps s.maps s.maps refl
leaves_letters steps intents seat s (Some Endfight) is = same_maps s.maps s.maps refl
leaves_letters steps intents seat s None is = (let no : false ≡ true = is in cc)
leaves_letters steps intents seat s (Some c) is = (let no : false ≡ true = is in cc)
