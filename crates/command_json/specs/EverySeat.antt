-- The commands that every seat may give: for each its fields, in their order.
use Rattle.std.specs.Prelude.{[], Result, codes}
use Rattle.serde_json.specs.Data.{Data}
use Rattle.json_fields.specs.Kinds.{integer_from, whole_from, text_from, tag_from, id_from, class_from, or_null}
use Rattle.json_fields.specs.Objects.{◌>>=◌}
use Rattle.chat.specs.declared.to.To.TheVariants.{All}
use Rattle.command_json.specs.declared.command.Command.{Command}
use Rattle.command_json.specs.declared.command.Command.TheVariants as C
use Rattle.command_json.specs.declared.command.LineFault.{LineFault}
use Rattle.command_json.specs.declared.verbs.Verb.{Verb}
use Rattle.command_json.specs.declared.verbs.Verb.TheVariants as V
use Rattle.command_json.specs.Verbs.{keys_of}
use Rattle.command_json.specs.Fields.{field, field_else, args_from, least_value, most_value, place_from, path_from, to_from, only}

unfoldable pub hello_in : Data → Result Command LineFault
hello_in d = do
  seat ← field (codes "seat") (whole_from 0 32) d
  key ← field (codes "key") (text_from 1 64) d
  only (keys_of V.Hello) d (C.Hello seat key)

unfoldable pub bye_in : Data → Result Command LineFault
bye_in d = only (keys_of V.Bye) d C.Bye

unfoldable pub look_in : Data → Result Command LineFault
look_in d = only (keys_of V.Look) d C.Look

unfoldable pub say_in : Data → Result Command LineFault
say_in d = do
  text ← field (codes "text") (text_from 1 1000) d
  to ← field_else All (codes "to") to_from d
  only (keys_of V.Say) d (C.Say text to)

unfoldable pub roll_in : Data → Result Command LineFault
roll_in d = do
  dice ← field (codes "dice") (text_from 1 200) d
  to ← field_else All (codes "to") to_from d
  only (keys_of V.Roll) d (C.Roll dice to)

unfoldable pub macro_in : Data → Result Command LineFault
macro_in d = do
  name ← field (codes "name") tag_from d
  args ← field_else [] (codes "args") args_from d
  to ← field_else All (codes "to") to_from d
  only (keys_of V.Macro) d (C.Macro name args to)

unfoldable pub setmacro_in : Data → Result Command LineFault
setmacro_in d = do
  name ← field (codes "name") tag_from d
  text ← field (codes "text") (or_null (text_from 0 2000)) d
  only (keys_of V.Setmacro) d (C.Setmacro name text)

unfoldable pub move_in : Data → Result Command LineFault
move_in d = do
  token ← field (codes "token") id_from d
  path ← field (codes "path") path_from d
  only (keys_of V.Move) d (C.Move token path)

unfoldable pub setprop_in : Data → Result Command LineFault
setprop_in d = do
  token ← field (codes "token") id_from d
  class ← field (codes "class") class_from d
  name ← field (codes "name") tag_from d
  value ← field (codes "value") (text_from 0 200) d
  only (keys_of V.Setprop) d (C.Setprop token class name value)

unfoldable pub light_in : Data → Result Command LineFault
light_in d = do
  token ← field (codes "token") id_from d
  light ← field (codes "light") (or_null tag_from) d
  only (keys_of V.Light) d (C.Light token light)

unfoldable pub make_in : Data → Result Command LineFault
make_in d = do
  tag ← field (codes "tag") tag_from d
  map ← field (codes "map") tag_from d
  cell ← field (codes "cell") place_from d
  name ← field (codes "name") (text_from 1 40) d
  only (keys_of V.Make) d (C.Make tag map cell name)

unfoldable pub remove_in : Data → Result Command LineFault
remove_in d = do
  token ← field (codes "token") id_from d
  only (keys_of V.Remove) d (C.Remove token)

unfoldable pub init_in : Data → Result Command LineFault
init_in d = do
  token ← field (codes "token") id_from d
  value ← field (codes "value") (integer_from least_value most_value) d
  only (keys_of V.Init) d (C.Init token value)

unfoldable pub uninit_in : Data → Result Command LineFault
uninit_in d = do
  token ← field (codes "token") id_from d
  only (keys_of V.Uninit) d (C.Uninit token)

-- the fields of the command that the word names
unfoldable pub fields_in : Data → Verb → Result Command LineFault
fields_in d V.Hello = hello_in d
fields_in d V.Bye = bye_in d
fields_in d V.Look = look_in d
fields_in d V.Say = say_in d
fields_in d V.Roll = roll_in d
fields_in d V.Macro = macro_in d
fields_in d V.Setmacro = setmacro_in d
fields_in d V.Move = move_in d
fields_in d V.Setprop = setprop_in d
fields_in d V.Light = light_in d
fields_in d V.Make = make_in d
fields_in d V.Remove = remove_in d
fields_in d V.Init = init_in d
fields_in d V.Uninit = uninit_in d
