-- The parts of a scene fit together and its tables are in order after each command that breaks no rule.
use lib.Dec.{T}
use Rattle.std.proofs.Common.{◌≡◌, ℕ, ◌≤◌, Bool, true, false, List, [], ◌∷◌, map, length, Some, None, refl, sym, ◌∙◌, ap, subst, ℤ}
use Rattle.std.specs.Prelude.{Option, IfSome, nat_le, if◌then◌else◌}
use Rattle.std.specs.FinMap.Entries.{is_sorted, is_sorted-put}
use Rattle.std.specs.Cmp.Lexicographic.{nat_list_cmp_total}
use Rattle.names.specs.Tag.{tag_cmp}
use Rattle.names.specs.declared.kinds.Layer.{Layer as LayerKind}
use Rattle.names.specs.declared.kinds.PropClass.TheVariants.{Secret as SecretClass}
use Rattle.names.specs.declared.token_id.TokenId.{TokenId}
use Rattle.cells.specs.Cells.{Cells, Extent}
use Rattle.cells.specs.declared.cell.Cell.{Cell}
use Rattle.fog_book.specs.Exposures.{with_each_seen, with_map as with_fog_of_map}
use Rattle.fog_book.specs.Rects.{with_rect}
use Rattle.fog_book.proofs.Adding.{adds_after}
use Rattle.initiative.specs.Fights.{Rounds, no_fight, passed, with_entry, without_entry}
use Rattle.maps.specs.Maps.{Grid, new_map, with_map, has_map, with_mode, shown_if as map_shown_if, trail_if, with_letters, walled}
use Rattle.maps.specs.MapFaults.{map_fault}
use Rattle.maps.specs.declared.map_table.MapFault.{MapFault}
use Rattle.maps.specs.declared.map_table.MapFault.TheVariants.{MapExists, MapLimit}
use Rattle.maps.proofs.Laws.{in_order-changed as grids_in_order}
use Rattle.maps.proofs.MapLemmas.{in_order-with_map}
use Rattle.sight_types.specs.declared.Sight.{Sight as SightType}
use Rattle.type_table.specs.Types.{with_type}
use Rattle.topology.specs.Order.{wall_between}
use Rattle.topology.specs.WallLists.{with_wall, without_wall}
use Rattle.tokens.specs.declared.token.Token.{Token as Made}
use Rattle.tokens.specs.Tokens.{has_token, token_of, placed, with_light, with_prop, owned_by, on_layer, shown_if, with_sight}
use Rattle.tokens.proofs.TokenLemmas.{in_order-put, in_order-changed, in_order-without}
use Rattle.command_json.specs.declared.command.Command.{Command}
use Rattle.command_json.specs.declared.command.Command.TheVariants.{Macro, Move, Setprop, Light, Make, Remove, Map, Mode, Show, Trail, Terrain, Wall, Unwall, Lighttype, Sighttype, Token, Own, Layer, Visible, Sight, Place, Secret, Expose, Hide, Init, Uninit, Turn, Endfight}
use Rattle.world.specs.Scene.{Scene, removed, with_token, with_grid, with_new_map}
use Rattle.world.specs.Rules.{belongs, fits_on, size_of}
use Rattle.world.proofs.Makers.{with_prop_keeps_id}
use Rattle.world.proofs.SceneRules.{IsScene-put, IsScene-without, IsScene-changed, IsScene-placed, IsScene-grid, IsScene-map_added, IsScene-with_light, IsScene-with_sight, IsScene-with_change, IsScene-with_each_seen, keeps-layer, keeps-visible, keeps-prop, keeps-owner, keeps-sight, keeps-light, keeps-rect, walls_keep_size}
use Rattle.command_rules.specs.Places.{Numbers, coordinate, cell_at, rect_at, point_at}
use Rattle.command_effects.specs.Allowed.{IsAllowed, MayMove, MayPlace}
use Rattle.macro_eval.specs.declared.intent.Intent.{Intent}
use Rattle.command_effects.specs.MacroEffects.{with_intent, with_intents}
use Rattle.command_effects.specs.Effects.{own_token, cell_after, after_steps, scene_by}
use Rattle.command_effects.specs.GmEffects.{gm_scene_by, sight_by, with_fog}
use Rattle.command_effects.specs.Making.{new_token, players_token, with_new}
use Rattle.player_view.specs.Tables.{HasTables}
use Rattle.command_effects.specs.Settle.{found_for, settled, OthersAreSettled}
use Rattle.command_effects.specs.Tags.{MakesNew}
use Rattle.command_effects.proofs.Moves.{may_move, placing, fits_there}
use Rattle.command_effects.proofs.Allowed.{may_light, may_make, makes_as_player, players_token_belongs, gm_token_belongs}
use Rattle.command_effects.proofs.GmCommands.{map_may, token_may, own_may, sight_may, place_may}
use Rattle.command_effects.proofs.Settling.{is_settled}

-- ---- tokens

-- one token is changed, which keeps its id and belongs to the scene as before
changed_kept : (s : Scene) (f : Made → Made) → ((t : Made) → (f t).id ≡ t.id) → ((t : Made) → belongs s t ≡ true → belongs s (f t) ≡ true) → (id : TokenId) → HasTables s → HasTables (with_token id f s)
changed_kept s f same keeps id is = record {
  fitting = IsScene-changed s f keeps id is.fitting;
  maps = is.maps;
  tokens = in_order-changed f same id s.tokens ∙ is.tokens;
  lights = is.lights;
  sights = is.sights;
}

made_kept : (s : Scene) (t : Made) → has_token t.id s.tokens ≡ false → belongs s t ≡ true → HasTables s → HasTables (with_new t s)
made_kept s t new fitting is = record {
  fitting = IsScene-put s t fitting is.fitting;
  maps = is.maps;
  tokens = in_order-put t s.tokens new is.tokens;
  lights = is.lights;
  sights = is.sights;
}

removed_kept : (s : Scene) (id : TokenId) → HasTables s → HasTables (removed id s)
removed_kept s id is = let fitting = IsScene-without s id is.fitting in record {
  fitting = record { tokens = fitting.tokens; fog = fitting.fog };
  maps = is.maps;
  tokens = in_order-without id s.tokens is.tokens;
  lights = is.lights;
  sights = is.sights;
}

-- the token of that id, which is there, goes to a cell of a map on which its square is
placed_kept : (s : Scene) (id : TokenId) (map : List ℕ) (cell : Cell) → IfSome (token_of id s.tokens) (λ t. fits_on (size_of map s.maps) cell t.size ≡ true) → HasTables s → HasTables (with_token id (placed map cell) s)
placed_kept s id map cell fitting is = record {
  fitting = IsScene-placed s id map cell is.tokens fitting is.fitting;
  maps = is.maps;
  tokens = in_order-changed (placed map cell) (λ t. refl) id s.tokens ∙ is.tokens;
  lights = is.lights;
  sights = is.sights;
}

steps_kept : (steps seat : ℕ) (s : Scene) (id : TokenId) (path : List (ℤ × ℤ)) → MayMove s seat id path → (o : Option Made) → own_token s seat id ≡ o → HasTables s → HasTables (after_steps steps id path o s)
steps_kept steps seat s id path may None found is = is
steps_kept steps seat s id path may (Some t) found is =
    placed_kept s id t.map (cell_after steps t.cell path) (placing s seat id path t steps (cell_after steps t.cell path) s may is.tokens found refl refl).1 is

place_kept : (s : Scene) (id : TokenId) (map : List ℕ) (place : ℤ × ℤ) → MayPlace s id map place → HasTables s → HasTables (with_token id (placed map (cell_at place)) s)
place_kept s id map place may is =
    placed_kept s id map (cell_at place)
    (subst (λ (o : Option Made). IfSome o (λ t. fits_on (size_of map s.maps) (cell_at place) t.size ≡ true)) (sym may.found)
    (ap (λ size. fits_on size (cell_at place) may.token.size) may.stands.there ∙ fits_there may.stands.size may.token.size place may.stands.fits))
    is

-- ---- maps

-- one map is changed, which keeps its name and its size
grid_kept : (s : Scene) (f : Grid → Grid) → ((m : Grid) → (f m).name ≡ m.name) → ((m : Grid) → (f m).walls.extent ≡ m.walls.extent) → (name : List ℕ) → HasTables s → HasTables (with_grid name f s)
grid_kept s f names sizes name is = record {
  fitting = IsScene-grid s f names sizes name is.fitting;
  maps = grids_in_order f names name s.maps ∙ is.maps;
  tokens = is.tokens;
  lights = is.lights;
  sights = is.sights;
}

no_map : (maps : List Grid) (name : List ℕ) → map_fault maps name ≡ None → has_map name maps ≡ false
no_map maps name none = by (has_map name maps) (if nat_le 8 (length maps) then Some MapLimit else None) none
  where
    by : (b : Bool) (rest : Option MapFault) → (if b then Some MapExists else rest) ≡ None → b ≡ false
    by true rest e = cc
    by false rest e = refl

new_map_kept : (s : Scene) (name : List ℕ) (size : Extent) → map_fault s.maps name ≡ None → HasTables s → HasTables (with_new_map name size s)
new_map_kept s name size none is = record {
  fitting = IsScene-map_added s (with_map (new_map name size) s.maps) (with_fog_of_map s.fog name size) name size refl refl (adds_after name size s.fog s.fog.players s.fog.sets (with_fog_of_map s.fog name size).sets refl refl) none is.fitting;
  maps = in_order-with_map (new_map name size) s.maps (no_map s.maps name none) is.maps;
  tokens = is.tokens;
  lights = is.lights;
  sights = is.sights;
}

-- ---- types

still_sorted : {V : Type 0} (name : List ℕ) (value : V) (types : List (List ℕ × V)) → is_sorted tag_cmp types ≡ true → is_sorted tag_cmp (with_type name value types) ≡ true
still_sorted name value types h = true_of (is_sorted tag_cmp (with_type name value types)) (is_sorted-put tag_cmp nat_list_cmp_total name value types (T_of (is_sorted tag_cmp types) h))
  where
    true_of : (b : Bool) → T b → b ≡ true
    true_of true h = refl
    true_of false h = absurd h

    T_of : (b : Bool) → b ≡ true → T b
    T_of true h = tt
    T_of false h = cc

light_kept : (s : Scene) (name : List ℕ) (radius : ℤ) → HasTables s → HasTables (record s { lights = with_type name radius s.lights })
light_kept s name radius is = record {
  fitting = IsScene-with_light s name radius is.fitting;
  maps = is.maps;
  tokens = is.tokens;
  lights = still_sorted name radius s.lights is.lights;
  sights = is.sights;
}

sight_kept : (s : Scene) (name : List ℕ) (sight : SightType) → HasTables s → HasTables (record s { sights = with_type name sight s.sights })
sight_kept s name sight is = record {
  fitting = IsScene-with_sight s name sight is.fitting;
  maps = is.maps;
  tokens = is.tokens;
  lights = is.lights;
  sights = still_sorted name sight s.sights is.sights;
}

-- ---- what is exposed

rect_kept : (s : Scene) (seat : ℕ) (map : List ℕ) (rect : Numbers) (shown : Bool) → HasTables s → HasTables (with_fog seat map rect shown s)
rect_kept s seat map rect shown is = record {
  fitting = IsScene-with_change s seat map (λ cells. with_rect cells (rect_at rect) shown) (keeps-rect (rect_at rect) shown) is.fitting;
  maps = is.maps;
  tokens = is.tokens;
  lights = is.lights;
  sights = is.sights;
}

pub settled_kept : (s : Scene) → HasTables s → HasTables (settled s)
settled_kept s is =
    let seen : List (Option Cells) = map (found_for None s) s.fog.sets in
    let asked : OthersAreSettled None s = λ place set there none. (let no : true ≡ false = none in cc) in
    let same = is_settled None s (record s { fog = record s.fog { sets = with_each_seen s.fog.sets seen } }) seen asked is.fitting refl refl in
    subst HasTables same (record {
      fitting = IsScene-with_each_seen s seen is.fitting;
      maps = is.maps;
      tokens = is.tokens;
      lights = is.lights;
      sights = is.sights;
    })

-- ---- the fight

fight_kept : (s : Scene) (fight : Rounds) → HasTables s → HasTables (record s { fight = fight })
fight_kept s fight is = record {
  fitting = record { tokens = is.fitting.tokens; fog = is.fitting.fog };
  maps = is.maps;
  tokens = is.tokens;
  lights = is.lights;
  sights = is.sights;
}

-- ---- what macros set

intents_kept : (intents : List Intent) (s : Scene) → HasTables s → HasTables (with_intents intents s)
intents_kept [] s is = is
intents_kept (i ∷ intents) s is =
    intents_kept intents (with_intent i s) (changed_kept s (with_prop i.class i.name i.value) (with_prop_keeps_id i.class i.name i.value) (keeps-prop s i.class i.name i.value) i.id is)

-- ---- all commands

-- what a player makes is its own
made_by_player : (s : Scene) (seat : ℕ) (tag map : List ℕ) (place : ℤ × ℤ) (name : List ℕ) → seat ≤ s.fog.players → IsAllowed s seat (Make tag map place name) → MakesNew s seat (Make tag map place name) → HasTables s → HasTables (with_new (players_token seat tag map place name) s)
made_by_player s seat tag map place name low allowed new is =
    made_kept s (players_token seat tag map place name) (new tag refl)
    (players_token_belongs s (players_token seat tag map place name) seat place (may_make s seat tag map place name is.maps allowed) (makes_as_player s seat tag map place name low allowed) refl refl refl refl)
    is

made_by_gm : (s : Scene) (seat : ℕ) (tag map : List ℕ) (place : ℤ × ℤ) (name : List ℕ) (size : ℤ) (layer : LayerKind) → IsAllowed s seat (Token tag map place name size layer) → MakesNew s seat (Token tag map place name size layer) → HasTables s → HasTables (with_new (new_token seat tag map place name (coordinate size) layer 0) s)
made_by_gm s seat tag map place name size layer allowed new is =
    made_kept s (new_token seat tag map place name (coordinate size) layer 0) (new tag refl)
    (gm_token_belongs s (new_token seat tag map place name (coordinate size) layer 0) place (token_may s seat tag map place name size layer allowed) refl refl refl refl)
    is

pub scene_kept : (steps : ℕ) (intents : List Intent) (seat : ℕ) (s : Scene) (c : Command) → seat ≤ s.fog.players → IsAllowed s seat c → MakesNew s seat c → HasTables s → HasTables (scene_by steps intents seat s (Some c))
unfolding scene_by gm_scene_by
scene_kept steps intents seat s (Macro name args to) low allowed new is = intents_kept intents s is
scene_kept steps intents seat s (Move token path) low allowed new is = steps_kept steps seat s token path (may_move s seat token path is.fitting is.maps allowed) (own_token s seat token) refl is
scene_kept steps intents seat s (Setprop token class name value) low allowed new is = changed_kept s (with_prop class name value) (with_prop_keeps_id class name value) (keeps-prop s class name value) token is
scene_kept steps intents seat s (Light token light) low allowed new is = changed_kept s (with_light light) (λ t. refl) (keeps-light s light (may_light s seat token light is.tokens allowed).1) token is
scene_kept steps intents seat s (Make tag map place name) low allowed new is = made_by_player s seat tag map place name low allowed new is
scene_kept steps intents seat s (Remove token) low allowed new is = removed_kept s token is
scene_kept steps intents seat s (Map name w h) low allowed new is = new_map_kept s name (record { w = coordinate w; h = coordinate h }) (map_may s seat name w h allowed) is
scene_kept steps intents seat s (Mode map mode) low allowed new is = grid_kept s (with_mode mode) (λ m. refl) (λ m. refl) map is
scene_kept steps intents seat s (Show map on) low allowed new is = grid_kept s (map_shown_if on) (λ m. refl) (λ m. refl) map is
scene_kept steps intents seat s (Trail map on) low allowed new is = grid_kept s (trail_if on) (λ m. refl) (λ m. refl) map is
scene_kept steps intents seat s (Terrain map rect kind) low allowed new is = grid_kept s (with_letters (rect_at rect) kind) (λ m. refl) (λ m. refl) map is
scene_kept steps intents seat s (Wall map kind a b) low allowed new is = grid_kept s (walled kind (with_wall (wall_between (point_at a) (point_at b)))) (λ m. refl) (walls_keep_size kind (with_wall (wall_between (point_at a) (point_at b)))) map is
scene_kept steps intents seat s (Unwall map kind a b) low allowed new is = grid_kept s (walled kind (without_wall (wall_between (point_at a) (point_at b)))) (λ m. refl) (walls_keep_size kind (without_wall (wall_between (point_at a) (point_at b)))) map is
scene_kept steps intents seat s (Lighttype name radius) low allowed new is = light_kept s name radius is
scene_kept steps intents seat s (Sighttype name range night mult) low allowed new is = sight_kept s name (sight_by range night mult) is
scene_kept steps intents seat s (Token tag map place name size layer) low allowed new is = made_by_gm s seat tag map place name size layer allowed new is
scene_kept steps intents seat s (Own token owner on) low allowed new is = changed_kept s (owned_by owner on) (λ t. refl) (keeps-owner s owner on (own_may s seat token owner on allowed).1) token is
scene_kept steps intents seat s (Layer token layer) low allowed new is = changed_kept s (on_layer layer) (λ t. refl) (keeps-layer s layer) token is
scene_kept steps intents seat s (Visible token on) low allowed new is = changed_kept s (shown_if on) (λ t. refl) (keeps-visible s on) token is
scene_kept steps intents seat s (Sight token sight) low allowed new is = changed_kept s (with_sight sight) (λ t. refl) (keeps-sight s sight (sight_may s seat token sight allowed).1) token is
scene_kept steps intents seat s (Place token map place) low allowed new is = place_kept s token map place (place_may s seat token map place allowed) is
scene_kept steps intents seat s (Secret token name value) low allowed new is = changed_kept s (with_prop SecretClass name value) (with_prop_keeps_id SecretClass name value) (keeps-prop s SecretClass name value) token is
scene_kept steps intents seat s (Expose player map rect) low allowed new is = rect_kept s player map rect true is
scene_kept steps intents seat s (Hide player map rect) low allowed new is = rect_kept s player map rect false is
scene_kept steps intents seat s (Init token value) low allowed new is = fight_kept s (with_entry token value s.fight) is
scene_kept steps intents seat s (Uninit token) low allowed new is = fight_kept s (without_entry token s.fight) is
scene_kept steps intents seat s Turn low allowed new is = fight_kept s (passed s.fight) is
scene_kept steps intents seat s Endfight low allowed new is = fight_kept s no_fight is
scene_kept steps intents seat s c low allowed new is = is
