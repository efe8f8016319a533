-- The lines that tell a view: each is the compact JSON of a tree.
use Rattle.std.specs.Prelude.{ℕ, ℤ, ◌==◌, ◌&&◌, nat_le, Bool, List, [], ◌∷◌, map, codes, Option, Some, None}
use Rattle.std.specs.List.{filter, flat_map, fold}
use Rattle.std.specs.Char.{encode_utf8}
use Rattle.serde_json.specs.Data.{Data, null, boolean, number, unsigned, string, array, object, Members, no_members, member, put}
use Rattle.serde_json.specs.Find.{of_integer}
use Rattle.serde_json.specs.View.{items_of}
use Rattle.serde_json.specs.Written.{compact_text}
use Rattle.cells.specs.Cells.{Cells, cells_where}
use Rattle.cells.specs.Runs.{runs_of}
use Rattle.cells.specs.declared.cell.Cell.{Cell}
use Rattle.cells.specs.declared.cell.Run.{Run}
use Rattle.names.specs.Words.{mode_word, layer_word}
use Rattle.names.specs.TokenId.{id_text}
use Rattle.names.specs.declared.token_id.TokenId.{TokenId}
use Rattle.names.specs.declared.kinds.Mode.{Mode}
use Rattle.views.specs.declared.view.MapView.{MapView}
use Rattle.views.specs.declared.view.TokenView.{TokenView}
use Rattle.views.specs.declared.view.OwnedPart.{OwnedPart}
use Rattle.views.specs.declared.view.GmPart.{GmPart}
use Rattle.views.specs.declared.view.FightView.{FightView}
use Rattle.views.specs.declared.view.View.{View}
use Rattle.views.specs.declared.change.Change.{Change}
use Rattle.views.specs.declared.change.MapChange.{MapChange}
use Rattle.views.specs.Keys.{Named, Letter}
use Rattle.views.specs.Lettered.{has_letter}

-- ---- values

-- the members with this one, in its place by the bytes of its key
unfoldable pub with_member : List ℕ → Data → Members → Members
with_member = put

abbrev pub whole : ℕ → Data
whole n = number (unsigned n)

abbrev pub list_data : List Data → Data
list_data values = array (items_of values)

abbrev pub wholes_data : List ℕ → Data
wholes_data ns = list_data (map whole ns)

abbrev pub texts_data : List (List ℕ) → Data
texts_data texts = list_data (map string texts)

-- a text, or null
abbrev pub text_or_null : Option (List ℕ) → Data
text_or_null None = null
text_or_null (Some text) = string text

-- a member that is there where the list has items
abbrev pub put_list : List ℕ → List Data → Members → Members
put_list key [] members = members
put_list key (value ∷ values) members = with_member key (list_data (value ∷ values)) members

-- a member that is there where the value is
abbrev pub put_some : {A : Type 0} → List ℕ → (A → Data) → Option A → Members → Members
put_some key data_of None members = members
put_some key data_of (Some value) members = with_member key (data_of value) members

-- ---- types and properties

abbrev pub put_named : {V : Type 0} → (V → Data) → Members → Named V → Members
put_named data_of members named = with_member named.0 (data_of named.1) members

-- an object with each name and its value
abbrev pub named_data : {V : Type 0} → (V → Data) → List (Named V) → Data
named_data data_of types = object (fold (put_named data_of) no_members types)

abbrev pub radius_data : ℤ → Data
radius_data radius = number (of_integer radius)

abbrev pub lights_data : List (Named ℤ) → Data
lights_data = named_data radius_data

abbrev pub sights_data : List (Named (List ℕ)) → Data
sights_data = named_data wholes_data

-- a member that is there where there are types
abbrev pub put_types : {V : Type 0} → List ℕ → (V → Data) → List (Named V) → Members → Members
put_types key data_of [] members = members
put_types key data_of (named ∷ types) members = with_member key (named_data data_of (named ∷ types)) members

abbrev pub prop_data : Named (List ℕ) → Data
prop_data prop = list_data (string prop.0 ∷ string prop.1 ∷ [])

abbrev pub props_data : List (Named (List ℕ)) → Data
props_data props = list_data (map prop_data props)

-- ---- cells

abbrev pub cell_data : Cell → Data
cell_data cell = wholes_data (cell.x ∷ cell.y ∷ [])

abbrev pub run_data : Run → Data
run_data run = wholes_data (run.y ∷ run.x0 ∷ run.x1 ∷ [])

-- the maximal runs of the set
abbrev pub runs_data : Cells → List Data
runs_data cells = map run_data (runs_of cells)

abbrev pub is_of_run : Run → Letter → Bool
is_of_run run letter = (letter.0.y == run.y) && (nat_le run.x0 letter.0.x && nat_le letter.0.x run.x1)

-- the letters of the run's cells, in order, as text
abbrev pub letters_of_run : List Letter → Run → List ℕ
letters_of_run letters run = flat_map (λ letter. encode_utf8 letter.1) (filter (is_of_run run) letters)

abbrev pub terrain_run_data : List Letter → Run → Data
terrain_run_data letters run = list_data (whole run.y ∷ whole run.x0 ∷ string (letters_of_run letters run) ∷ [])

-- the maximal runs of the set, each with its letters
abbrev pub terrain_data : Cells → List Letter → List Data
terrain_data cells letters = map (terrain_run_data letters) (runs_of cells)

-- ---- maps and tokens

abbrev pub mode_data : Mode → Data
mode_data mode = string (mode_word mode)

unfoldable pub map_data : MapView → Data
map_data m = object
    (with_member (codes "w") (whole m.size.w)
    (put_some (codes "shown") boolean m.shown
    (with_member (codes "seen") (list_data (runs_data m.seen))
    (with_member (codes "name") (string m.name)
    (with_member (codes "mode") (mode_data m.mode)
    (with_member (codes "h") (whole m.size.h)
    (with_member (codes "ground") (list_data (terrain_data m.exposed m.letters)) no_members)))))))

abbrev pub put_owned : Option OwnedPart → Members → Members
put_owned None members = members
put_owned (Some part) members =
    with_member (codes "sight") (text_or_null part.sight)
    (with_member (codes "own") (props_data part.own)
    (with_member (codes "light") (text_or_null part.light) members))

abbrev pub put_whole : Option GmPart → Members → Members
put_whole None members = members
put_whole (Some part) members =
    with_member (codes "visible") (boolean part.visible)
    (with_member (codes "secret") (props_data part.secret)
    (with_member (codes "owners") (wholes_data part.owners) members))

-- what everyone sees of a token
abbrev pub token_members : TokenView → Members
token_members t =
    with_member (codes "size") (whole t.size)
    (with_member (codes "props") (props_data t.props)
    (with_member (codes "name") (string t.name)
    (with_member (codes "map") (string t.map)
    (with_member (codes "layer") (string (layer_word t.layer))
    (with_member (codes "id") (string (id_text t.id))
    (with_member (codes "cell") (cell_data t.cell) no_members))))))

unfoldable pub token_data : TokenView → Data
token_data t = object (put_whole t.whole (put_owned t.owned (token_members t)))

abbrev pub maps_data : List MapView → List Data
maps_data maps = map map_data maps

abbrev pub tokens_data : List TokenView → List Data
tokens_data tokens = map token_data tokens

-- ---- the fight

abbrev pub entry_data : TokenId × ℤ → Data
entry_data e = list_data (string (id_text e.0) ∷ number (of_integer e.1) ∷ [])

abbrev pub id_or_null : Option TokenId → Data
id_or_null None = null
id_or_null (Some id) = string (id_text id)

unfoldable pub fight_data : FightView → Data
fight_data f = object
    (with_member (codes "turn") (id_or_null f.turn)
    (with_member (codes "round") (whole f.round)
    (with_member (codes "list") (list_data (map entry_data f.list)) no_members)))

abbrev pub fight_or_null : Option FightView → Data
fight_or_null None = null
fight_or_null (Some f) = fight_data f

-- ---- the full line

unfoldable pub view_data : View → Data
view_data v = object
    (with_member (codes "tokens") (list_data (tokens_data v.tokens))
    (with_member (codes "sights") (sights_data v.sights)
    (with_member (codes "maps") (list_data (maps_data v.maps))
    (with_member (codes "lights") (lights_data v.lights)
    (put_some (codes "fight") fight_data v.fight no_members)))))

abbrev pub full_tree : View → Data
full_tree v = object (member (codes "full") (view_data v) no_members)

unfoldable pub full_line : View → List ℕ
full_line v = compact_text (full_tree v)

-- ---- the change line

-- the cells that have a letter in the change
abbrev pub lettered : MapChange → Cells
lettered c = cells_where c.dark.extent (has_letter c.letters)

unfoldable pub map_change_data : MapChange → Data
map_change_data c = object
    (put_some (codes "shown") boolean c.shown
    (with_member (codes "name") (string c.name)
    (put_some (codes "mode") mode_data c.mode
    (put_list (codes "lit") (runs_data c.lit)
    (put_list (codes "hidden") (runs_data c.hidden)
    (put_list (codes "ground") (terrain_data (lettered c) c.letters)
    (put_list (codes "dark") (runs_data c.dark) no_members)))))))

unfoldable pub change_data : Change → Data
change_data c = object
    (put_list (codes "unmapped") (map string c.unmapped)
    (put_list (codes "tokens") (tokens_data c.tokens)
    (put_types (codes "sights") wholes_data c.sights
    (put_list (codes "maps") (maps_data c.maps)
    (put_types (codes "lights") radius_data c.lights
    (put_list (codes "gone") (map (λ id. string (id_text id)) c.gone)
    (put_some (codes "fight") fight_or_null c.fight
    (put_list (codes "changed") (map map_change_data c.changed) no_members))))))))

abbrev pub change_tree : Change → Data
change_tree c = object (member (codes "change") (change_data c) no_members)

unfoldable pub change_line : Change → List ℕ
change_line c = compact_text (change_tree c)
