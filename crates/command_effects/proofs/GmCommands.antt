-- What each command of the game master that breaks no rule may rely on.
use Rattle.std.proofs.Common.{◌≡◌, ℕ, Bool, true, List, None, ℤ}
use Rattle.std.specs.Prelude.{Option}
use Rattle.names.specs.declared.kinds.Mode.{Mode as ModeKind}
use Rattle.names.specs.declared.kinds.Layer.{Layer as LayerKind}
use Rattle.names.specs.declared.kinds.WallKind.{WallKind}
use Rattle.names.specs.declared.kinds.PropClass.TheVariants.{Secret as SecretClass}
use Rattle.names.specs.declared.token_id.TokenId.{TokenId}
use Rattle.maps.specs.Maps.{has_map}
use Rattle.maps.specs.MapFaults.{map_fault}
use Rattle.lights.specs.Lights.{light_fault}
use Rattle.sight_types.specs.Sights.{sight_fault}
use Rattle.tokens.specs.Tokens.{has_token}
use Rattle.command_json.specs.declared.command.Command.TheVariants.{Map, Mode, Show, Trail, Terrain, Wall, Unwall, Lighttype, Sighttype, Token, Own, Layer, Visible, Sight, Place, Secret, Expose, Hide}
use Rattle.world.specs.Scene.{Scene}
use Rattle.world.specs.Rules.{is_player, is_known}
use Rattle.player_view.specs.Asked.{asked_of}
use Rattle.command_rules.specs.Places.{Numbers, coordinate}
use Rattle.command_rules.specs.GmRules.{gm_rule, of_map_fault, of_light_fault, of_sight_fault}
use Rattle.command_rules.specs.Rules.{rule_of}
use Rattle.command_effects.specs.Allowed.{IsAllowed, MayStand, MayPlace, MaySet, MayFill}
use Rattle.command_effects.proofs.GmAllowed.{no_fault, map_there, token_there, gm_kept, may_fill, may_stand_new, may_place, MayAdd, may_add, MayCut, may_cut, may_own, may_see, may_keep, may_mark}

pub map_may : (s : Scene) (seat : ℕ) (name : List ℕ) (w : ℤ) (h : ℤ) → IsAllowed s seat (Map name w h) → map_fault s.maps name ≡ None
unfolding asked_of rule_of gm_rule
map_may s seat name w h allowed = no_fault of_map_fault (map_fault s.maps name) (gm_kept s seat allowed.tags (Map name w h) allowed.rule).1

pub mode_may : (s : Scene) (seat : ℕ) (map : List ℕ) (mode : ModeKind) → IsAllowed s seat (Mode map mode) → has_map map s.maps ≡ true
unfolding asked_of rule_of gm_rule
mode_may s seat map mode allowed = map_there s map (λ m. None) (gm_kept s seat allowed.tags (Mode map mode) allowed.rule).1

pub show_may : (s : Scene) (seat : ℕ) (map : List ℕ) (on : Bool) → IsAllowed s seat (Show map on) → has_map map s.maps ≡ true
unfolding asked_of rule_of gm_rule
show_may s seat map on allowed = map_there s map (λ m. None) (gm_kept s seat allowed.tags (Show map on) allowed.rule).1

pub trail_may : (s : Scene) (seat : ℕ) (map : List ℕ) (on : Bool) → IsAllowed s seat (Trail map on) → has_map map s.maps ≡ true
unfolding asked_of rule_of gm_rule
trail_may s seat map on allowed = map_there s map (λ m. None) (gm_kept s seat allowed.tags (Trail map on) allowed.rule).1

pub terrain_may : (s : Scene) (seat : ℕ) (map : List ℕ) (rect : Numbers) (kind : ℕ) → IsAllowed s seat (Terrain map rect kind) → MayFill s map rect
unfolding asked_of rule_of gm_rule
terrain_may s seat map rect kind allowed = may_fill s map rect (gm_kept s seat allowed.tags (Terrain map rect kind) allowed.rule).1

pub wall_may : (s : Scene) (seat : ℕ) (map : List ℕ) (kind : WallKind) (a : ℤ × ℤ) (b : ℤ × ℤ) → IsAllowed s seat (Wall map kind a b) → MayAdd s map kind a b
unfolding asked_of rule_of gm_rule
wall_may s seat map kind a b allowed = may_add s map kind a b (gm_kept s seat allowed.tags (Wall map kind a b) allowed.rule).1

pub unwall_may : (s : Scene) (seat : ℕ) (map : List ℕ) (kind : WallKind) (a : ℤ × ℤ) (b : ℤ × ℤ) → IsAllowed s seat (Unwall map kind a b) → MayCut s map kind a b
unfolding asked_of rule_of gm_rule
unwall_may s seat map kind a b allowed = may_cut s map kind a b (gm_kept s seat allowed.tags (Unwall map kind a b) allowed.rule).1

pub lighttype_may : (s : Scene) (seat : ℕ) (name : List ℕ) (radius : ℤ) → IsAllowed s seat (Lighttype name radius) → light_fault s.lights name radius ≡ None
unfolding asked_of rule_of gm_rule
lighttype_may s seat name radius allowed = no_fault of_light_fault (light_fault s.lights name radius) (gm_kept s seat allowed.tags (Lighttype name radius) allowed.rule).1

pub sighttype_may : (s : Scene) (seat : ℕ) (name : List ℕ) (range : ℤ) (night : ℤ) (mult : ℤ) → IsAllowed s seat (Sighttype name range night mult) → sight_fault s.sights name (coordinate range) (coordinate night) (coordinate mult) ≡ None
unfolding asked_of rule_of gm_rule
sighttype_may s seat name range night mult allowed = no_fault of_sight_fault (sight_fault s.sights name (coordinate range) (coordinate night) (coordinate mult)) (gm_kept s seat allowed.tags (Sighttype name range night mult) allowed.rule).1

pub token_may : (s : Scene) (seat : ℕ) (tag : List ℕ) (map : List ℕ) (cell : ℤ × ℤ) (name : List ℕ) (size : ℤ) (layer : LayerKind) → IsAllowed s seat (Token tag map cell name size layer) → MayStand s map (coordinate size) cell
unfolding asked_of rule_of gm_rule
token_may s seat tag map cell name size layer allowed = may_stand_new s allowed.tags tag map (coordinate size) cell (gm_kept s seat allowed.tags (Token tag map cell name size layer) allowed.rule).1

pub own_may : (s : Scene) (seat : ℕ) (token : TokenId) (owner : ℕ) (on : Bool) → IsAllowed s seat (Own token owner on) → (has_token token s.tokens ≡ true) × (is_player s.fog.players owner ≡ true)
unfolding asked_of rule_of gm_rule
own_may s seat token owner on allowed = may_own s token owner (gm_kept s seat allowed.tags (Own token owner on) allowed.rule).1

pub layer_may : (s : Scene) (seat : ℕ) (token : TokenId) (layer : LayerKind) → IsAllowed s seat (Layer token layer) → has_token token s.tokens ≡ true
unfolding asked_of rule_of gm_rule
layer_may s seat token layer allowed = token_there s token (λ t. None) (gm_kept s seat allowed.tags (Layer token layer) allowed.rule).1

pub visible_may : (s : Scene) (seat : ℕ) (token : TokenId) (on : Bool) → IsAllowed s seat (Visible token on) → has_token token s.tokens ≡ true
unfolding asked_of rule_of gm_rule
visible_may s seat token on allowed = token_there s token (λ t. None) (gm_kept s seat allowed.tags (Visible token on) allowed.rule).1

pub sight_may : (s : Scene) (seat : ℕ) (token : TokenId) (sight : Option (List ℕ)) → IsAllowed s seat (Sight token sight) → (has_token token s.tokens ≡ true) × (is_known s.sights sight ≡ true)
unfolding asked_of rule_of gm_rule
sight_may s seat token sight allowed = may_see s token sight (gm_kept s seat allowed.tags (Sight token sight) allowed.rule).1

pub place_may : (s : Scene) (seat : ℕ) (token : TokenId) (map : List ℕ) (cell : ℤ × ℤ) → IsAllowed s seat (Place token map cell) → MayPlace s token map cell
unfolding asked_of rule_of gm_rule
place_may s seat token map cell allowed = may_place s token map cell (gm_kept s seat allowed.tags (Place token map cell) allowed.rule).1

pub secret_may : (s : Scene) (seat : ℕ) (token : TokenId) (name : List ℕ) (value : List ℕ) → IsAllowed s seat (Secret token name value) → MaySet s token SecretClass name
unfolding asked_of rule_of gm_rule
secret_may s seat token name value allowed = may_keep s token name (gm_kept s seat allowed.tags (Secret token name value) allowed.rule).1

pub expose_may : (s : Scene) (seat : ℕ) (player : ℕ) (map : List ℕ) (rect : Numbers) → IsAllowed s seat (Expose player map rect) → MayFill s map rect × (is_player s.fog.players player ≡ true)
unfolding asked_of rule_of gm_rule
expose_may s seat player map rect allowed = may_mark s player map rect (gm_kept s seat allowed.tags (Expose player map rect) allowed.rule).1

pub hide_may : (s : Scene) (seat : ℕ) (player : ℕ) (map : List ℕ) (rect : Numbers) → IsAllowed s seat (Hide player map rect) → MayFill s map rect × (is_player s.fog.players player ≡ true)
unfolding asked_of rule_of gm_rule
hide_may s seat player map rect allowed = may_mark s player map rect (gm_kept s seat allowed.tags (Hide player map rect) allowed.rule).1
