-- The words that name commands.
use Rattle.std.specs.Prelude.{ℕ, List, [], ◌∷◌, codes}
use Rattle.command_json.specs.declared.command.Command.{Command}
use Rattle.command_json.specs.declared.command.Command.TheVariants.{Hello, Bye, Look, Say, Roll, Macro, Setmacro, Move, Setprop, Light, Make, Remove, Map, Mode, Show, Trail, Terrain, Wall, Unwall, Lighttype, Sighttype, Token, Own, Layer, Visible, Sight, Place, Secret, Expose, Hide, Init, Uninit, Turn, Endfight, Dump}
use Rattle.command_json.specs.declared.verbs.Verb.{Verb}
use Rattle.command_json.specs.declared.verbs.Verb.TheVariants as V
use Rattle.command_json.specs.declared.verbs.GmVerb.{GmVerb}
use Rattle.command_json.specs.declared.verbs.GmVerb.TheVariants as G

-- the commands that every seat may give
abbrev pub verbs : List (List ℕ × Verb)
verbs =
    (codes "hello", V.Hello) ∷
    (codes "bye", V.Bye) ∷
    (codes "look", V.Look) ∷
    (codes "say", V.Say) ∷
    (codes "roll", V.Roll) ∷
    (codes "macro", V.Macro) ∷
    (codes "setmacro", V.Setmacro) ∷
    (codes "move", V.Move) ∷
    (codes "setprop", V.Setprop) ∷
    (codes "light", V.Light) ∷
    (codes "make", V.Make) ∷
    (codes "remove", V.Remove) ∷
    (codes "init", V.Init) ∷
    (codes "uninit", V.Uninit) ∷ []

-- the commands that the game master alone may give
abbrev pub gm_verbs : List (List ℕ × GmVerb)
gm_verbs =
    (codes "map", G.Map) ∷
    (codes "mode", G.Mode) ∷
    (codes "show", G.Show) ∷
    (codes "trail", G.Trail) ∷
    (codes "terrain", G.Terrain) ∷
    (codes "wall", G.Wall) ∷
    (codes "unwall", G.Unwall) ∷
    (codes "lighttype", G.Lighttype) ∷
    (codes "sighttype", G.Sighttype) ∷
    (codes "token", G.Token) ∷
    (codes "own", G.Own) ∷
    (codes "layer", G.Layer) ∷
    (codes "visible", G.Visible) ∷
    (codes "sight", G.Sight) ∷
    (codes "place", G.Place) ∷
    (codes "secret", G.Secret) ∷
    (codes "expose", G.Expose) ∷
    (codes "hide", G.Hide) ∷
    (codes "turn", G.Turn) ∷
    (codes "endfight", G.Endfight) ∷
    (codes "dump", G.Dump) ∷ []

-- ---- the name of a command, which the reply to it has where it is accepted

abbrev pub name_of : Command → List ℕ
name_of (Hello named key) = codes "hello"
name_of Bye = codes "bye"
name_of Look = codes "look"
name_of (Say text to) = codes "say"
name_of (Roll dice to) = codes "roll"
name_of (Macro name args to) = codes "macro"
name_of (Setmacro name text) = codes "setmacro"
name_of (Setprop token class name value) = codes "setprop"
name_of (Light token light) = codes "light"
name_of (Make tag map cell name) = codes "make"
name_of (Remove token) = codes "remove"
name_of (Map name w h) = codes "map"
name_of (Mode map mode) = codes "mode"
name_of (Show map on) = codes "show"
name_of (Trail map on) = codes "trail"
name_of (Terrain map rect kind) = codes "terrain"
name_of (Wall map kind a b) = codes "wall"
name_of (Unwall map kind a b) = codes "unwall"
name_of (Lighttype name radius) = codes "lighttype"
name_of (Sighttype name range night mult) = codes "sighttype"
name_of (Token tag map cell name size layer) = codes "token"
name_of (Own token seat on) = codes "own"
name_of (Layer token layer) = codes "layer"
name_of (Visible token on) = codes "visible"
name_of (Sight token sight) = codes "sight"
name_of (Place token map cell) = codes "place"
name_of (Secret token name value) = codes "secret"
name_of (Expose seat map rect) = codes "expose"
name_of (Hide seat map rect) = codes "hide"
name_of (Init token value) = codes "init"
name_of (Uninit token) = codes "uninit"
name_of Turn = codes "turn"
name_of Endfight = codes "endfight"
name_of Dump = codes "dump"
name_of (Move token path) = codes "move"

-- ---- the keys of the fields that each command has, in their order

abbrev pub keys_of : Verb → List (List ℕ)
keys_of V.Hello = codes "seat" ∷ codes "key" ∷ []
keys_of V.Bye = []
keys_of V.Look = []
keys_of V.Say = codes "text" ∷ codes "to" ∷ []
keys_of V.Roll = codes "dice" ∷ codes "to" ∷ []
keys_of V.Macro = codes "name" ∷ codes "args" ∷ codes "to" ∷ []
keys_of V.Setmacro = codes "name" ∷ codes "text" ∷ []
keys_of V.Move = codes "token" ∷ codes "path" ∷ []
keys_of V.Setprop = codes "token" ∷ codes "class" ∷ codes "name" ∷ codes "value" ∷ []
keys_of V.Light = codes "token" ∷ codes "light" ∷ []
keys_of V.Make = codes "tag" ∷ codes "map" ∷ codes "cell" ∷ codes "name" ∷ []
keys_of V.Remove = codes "token" ∷ []
keys_of V.Init = codes "token" ∷ codes "value" ∷ []
keys_of V.Uninit = codes "token" ∷ []

abbrev pub gm_keys_of : GmVerb → List (List ℕ)
gm_keys_of G.Map = codes "name" ∷ codes "w" ∷ codes "h" ∷ []
gm_keys_of G.Mode = codes "map" ∷ codes "mode" ∷ []
gm_keys_of G.Show = codes "map" ∷ codes "on" ∷ []
gm_keys_of G.Trail = codes "map" ∷ codes "on" ∷ []
gm_keys_of G.Terrain = codes "map" ∷ codes "rect" ∷ codes "kind" ∷ []
gm_keys_of G.Wall = codes "map" ∷ codes "kind" ∷ codes "a" ∷ codes "b" ∷ []
gm_keys_of G.Unwall = codes "map" ∷ codes "kind" ∷ codes "a" ∷ codes "b" ∷ []
gm_keys_of G.Lighttype = codes "name" ∷ codes "radius" ∷ []
gm_keys_of G.Sighttype = codes "name" ∷ codes "range" ∷ codes "night" ∷ codes "mult" ∷ []
gm_keys_of G.Token = codes "tag" ∷ codes "map" ∷ codes "cell" ∷ codes "name" ∷ codes "size" ∷ codes "layer" ∷ []
gm_keys_of G.Own = codes "token" ∷ codes "seat" ∷ codes "on" ∷ []
gm_keys_of G.Layer = codes "token" ∷ codes "layer" ∷ []
gm_keys_of G.Visible = codes "token" ∷ codes "on" ∷ []
gm_keys_of G.Sight = codes "token" ∷ codes "sight" ∷ []
gm_keys_of G.Place = codes "token" ∷ codes "map" ∷ codes "cell" ∷ []
gm_keys_of G.Secret = codes "token" ∷ codes "name" ∷ codes "value" ∷ []
gm_keys_of G.Expose = codes "seat" ∷ codes "map" ∷ codes "rect" ∷ []
gm_keys_of G.Hide = codes "seat" ∷ codes "map" ∷ codes "rect" ∷ []
gm_keys_of G.Turn = []
gm_keys_of G.Endfight = []
gm_keys_of G.Dump = []
