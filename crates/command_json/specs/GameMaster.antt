-- The commands that the game master alone may give: for each its fields, in their order.
use Rattle.std.specs.Prelude.{pos, Result, codes}
use Rattle.serde_json.specs.Data.{Data}
use Rattle.serde_json.specs.Find.{as_bool}
use Rattle.json_fields.specs.Kinds.{integer_from, whole_from, text_from, tag_from, id_from, mode_from, layer_from, wall_kind_from, or_null}
use Rattle.json_fields.specs.Objects.{◌>>=◌}
use Rattle.names.specs.declared.kinds.Layer.TheVariants.{Token}
use Rattle.command_json.specs.declared.command.Command.{Command}
use Rattle.command_json.specs.declared.command.Command.TheVariants as C
use Rattle.command_json.specs.declared.command.LineFault.{LineFault}
use Rattle.command_json.specs.declared.verbs.GmVerb.{GmVerb}
use Rattle.command_json.specs.declared.verbs.GmVerb.TheVariants as V
use Rattle.command_json.specs.Verbs.{gm_keys_of}
use Rattle.command_json.specs.Fields.{field, field_else, number_from, least_radius, most_radius, place_from, rect_from, letter_from, only}

unfoldable pub map_in : Data → Result Command LineFault
map_in d = do
  name ← field (codes "name") tag_from d
  w ← field (codes "w") (number_from 1 96) d
  h ← field (codes "h") (number_from 1 96) d
  only (gm_keys_of V.Map) d (C.Map name w h)

unfoldable pub mode_in : Data → Result Command LineFault
mode_in d = do
  map ← field (codes "map") tag_from d
  mode ← field (codes "mode") mode_from d
  only (gm_keys_of V.Mode) d (C.Mode map mode)

unfoldable pub show_in : Data → Result Command LineFault
show_in d = do
  map ← field (codes "map") tag_from d
  on ← field (codes "on") as_bool d
  only (gm_keys_of V.Show) d (C.Show map on)

unfoldable pub trail_in : Data → Result Command LineFault
trail_in d = do
  map ← field (codes "map") tag_from d
  on ← field (codes "on") as_bool d
  only (gm_keys_of V.Trail) d (C.Trail map on)

unfoldable pub terrain_in : Data → Result Command LineFault
terrain_in d = do
  map ← field (codes "map") tag_from d
  rect ← field (codes "rect") rect_from d
  kind ← field (codes "kind") letter_from d
  only (gm_keys_of V.Terrain) d (C.Terrain map rect kind)

unfoldable pub wall_in : Data → Result Command LineFault
wall_in d = do
  map ← field (codes "map") tag_from d
  kind ← field (codes "kind") wall_kind_from d
  a ← field (codes "a") place_from d
  b ← field (codes "b") place_from d
  only (gm_keys_of V.Wall) d (C.Wall map kind a b)

unfoldable pub unwall_in : Data → Result Command LineFault
unwall_in d = do
  map ← field (codes "map") tag_from d
  kind ← field (codes "kind") wall_kind_from d
  a ← field (codes "a") place_from d
  b ← field (codes "b") place_from d
  only (gm_keys_of V.Unwall) d (C.Unwall map kind a b)

unfoldable pub lighttype_in : Data → Result Command LineFault
lighttype_in d = do
  name ← field (codes "name") tag_from d
  radius ← field (codes "radius") (integer_from least_radius most_radius) d
  only (gm_keys_of V.Lighttype) d (C.Lighttype name radius)

unfoldable pub sighttype_in : Data → Result Command LineFault
sighttype_in d = do
  name ← field (codes "name") tag_from d
  range ← field (codes "range") (number_from 0 1000) d
  night ← field (codes "night") (number_from 0 1000) d
  mult ← field (codes "mult") (number_from 0 1000) d
  only (gm_keys_of V.Sighttype) d (C.Sighttype name range night mult)

unfoldable pub token_in : Data → Result Command LineFault
token_in d = do
  tag ← field (codes "tag") tag_from d
  map ← field (codes "map") tag_from d
  cell ← field (codes "cell") place_from d
  name ← field (codes "name") (text_from 1 40) d
  size ← field_else (pos 1) (codes "size") (number_from 1 4) d
  layer ← field_else Token (codes "layer") layer_from d
  only (gm_keys_of V.Token) d (C.Token tag map cell name size layer)

unfoldable pub own_in : Data → Result Command LineFault
own_in d = do
  token ← field (codes "token") id_from d
  seat ← field (codes "seat") (whole_from 0 32) d
  on ← field (codes "on") as_bool d
  only (gm_keys_of V.Own) d (C.Own token seat on)

unfoldable pub layer_in : Data → Result Command LineFault
layer_in d = do
  token ← field (codes "token") id_from d
  layer ← field (codes "layer") layer_from d
  only (gm_keys_of V.Layer) d (C.Layer token layer)

unfoldable pub visible_in : Data → Result Command LineFault
visible_in d = do
  token ← field (codes "token") id_from d
  on ← field (codes "on") as_bool d
  only (gm_keys_of V.Visible) d (C.Visible token on)

unfoldable pub sight_in : Data → Result Command LineFault
sight_in d = do
  token ← field (codes "token") id_from d
  sight ← field (codes "sight") (or_null tag_from) d
  only (gm_keys_of V.Sight) d (C.Sight token sight)

unfoldable pub place_in : Data → Result Command LineFault
place_in d = do
  token ← field (codes "token") id_from d
  map ← field (codes "map") tag_from d
  cell ← field (codes "cell") place_from d
  only (gm_keys_of V.Place) d (C.Place token map cell)

unfoldable pub secret_in : Data → Result Command LineFault
secret_in d = do
  token ← field (codes "token") id_from d
  name ← field (codes "name") tag_from d
  value ← field (codes "value") (text_from 0 200) d
  only (gm_keys_of V.Secret) d (C.Secret token name value)

unfoldable pub expose_in : Data → Result Command LineFault
expose_in d = do
  seat ← field (codes "seat") (whole_from 0 32) d
  map ← field (codes "map") tag_from d
  rect ← field (codes "rect") rect_from d
  only (gm_keys_of V.Expose) d (C.Expose seat map rect)

unfoldable pub hide_in : Data → Result Command LineFault
hide_in d = do
  seat ← field (codes "seat") (whole_from 0 32) d
  map ← field (codes "map") tag_from d
  rect ← field (codes "rect") rect_from d
  only (gm_keys_of V.Hide) d (C.Hide seat map rect)

unfoldable pub turn_in : Data → Result Command LineFault
turn_in d = only (gm_keys_of V.Turn) d C.Turn

unfoldable pub endfight_in : Data → Result Command LineFault
endfight_in d = only (gm_keys_of V.Endfight) d C.Endfight

unfoldable pub dump_in : Data → Result Command LineFault
dump_in d = only (gm_keys_of V.Dump) d C.Dump

-- the fields of the command that the word names
unfoldable pub gm_fields_in : Data → GmVerb → Result Command LineFault
gm_fields_in d V.Map = map_in d
gm_fields_in d V.Mode = mode_in d
gm_fields_in d V.Show = show_in d
gm_fields_in d V.Trail = trail_in d
gm_fields_in d V.Terrain = terrain_in d
gm_fields_in d V.Wall = wall_in d
gm_fields_in d V.Unwall = unwall_in d
gm_fields_in d V.Lighttype = lighttype_in d
gm_fields_in d V.Sighttype = sighttype_in d
gm_fields_in d V.Token = token_in d
gm_fields_in d V.Own = own_in d
gm_fields_in d V.Layer = layer_in d
gm_fields_in d V.Visible = visible_in d
gm_fields_in d V.Sight = sight_in d
gm_fields_in d V.Place = place_in d
gm_fields_in d V.Secret = secret_in d
gm_fields_in d V.Expose = expose_in d
gm_fields_in d V.Hide = hide_in d
gm_fields_in d V.Turn = turn_in d
gm_fields_in d V.Endfight = endfight_in d
gm_fields_in d V.Dump = dump_in d
