-- The tokens of the objects of a line: their members stand in the order of their keys' bytes.
use Rattle.std.proofs.Common.{◌≡◌, ℕ, List, [], ◌∷◌, ◌++◌, refl, decimal}
use Rattle.std.specs.Prelude.{Option, Some, None, map, codes}
use Rattle.json.specs.Token.{Token, begin_object, end_object, key, string, number}
use Rattle.serde_json.specs.Data.{Data, boolean, string as string_data, object, Members}
use Rattle.names.specs.TokenId.{id_text}
use Rattle.names.specs.Words.{mode_word, layer_word}
use Rattle.views.specs.declared.view.MapView.{MapView}
use Rattle.views.specs.declared.view.TokenView.{TokenView}
use Rattle.views.specs.declared.view.OwnedPart.{OwnedPart}
use Rattle.views.specs.declared.view.GmPart.{GmPart}
use Rattle.views.specs.declared.view.FightView.{FightView}
use Rattle.views.specs.declared.view.View.{View}
use Rattle.views.specs.declared.change.Change.{Change}
use Rattle.views.specs.declared.change.MapChange.{MapChange}
use Rattle.views.specs.Keys.{Named}
use Rattle.json_lines.specs.Tokens.{value_tokens}
use Rattle.json_lines.proofs.Behind.{IsBehind, Stand, none, one_more, no_more, whole_object}
use Rattle.view_lines.specs.Lines.{with_member, whole, list_data, wholes_data, text_or_null, put_list, put_some, named_data, radius_data, lights_data, sights_data, put_types, props_data, cell_data, runs_data, terrain_data, mode_data, map_data, put_owned, put_whole, token_members, token_data, maps_data, tokens_data, lettered, map_change_data, change_data, view_data, entry_data, id_or_null, fight_data, fight_or_null}
use Rattle.view_lines.specs.Tokens.{list_tokens, some_tokens, types_tokens}

module _ (name next : List ℕ) (ms : Members) (before : List Token → List Token) (h : IsBehind next name) (s : Stand name ms before) where
  member_more : (d : Data) → Stand next (with_member name d ms) (λ rest. before (key name ∷ (value_tokens d ++ rest)))
  unfolding with_member
  member_more d = one_more name next d ms before h s

  list_more : (ds : List Data) → Stand next (put_list name ds ms) (λ rest. before (list_tokens name ds ++ rest))
  list_more [] = no_more name next ms before h s
  list_more (d ∷ ds) = member_more (list_data (d ∷ ds))

  some_more : {A : Type 0} (f : A → Data) (o : Option A) → Stand next (put_some name f o ms) (λ rest. before (some_tokens name f o ++ rest))
  some_more f None = no_more name next ms before h s
  some_more f (Some x) = member_more (f x)

  types_more : {V : Type 0} (f : V → Data) (types : List (Named V)) → Stand next (put_types name f types ms) (λ rest. before (types_tokens name f types ++ rest))
  types_more f [] = no_more name next ms before h s
  types_more f (t ∷ ts) = member_more (named_data f (t ∷ ts))

-- ---- maps

pub map_tokens : (m : MapView) → value_tokens (map_data m)
    ≡ begin_object ∷ key (codes "ground") ∷ (value_tokens (list_data (terrain_data m.exposed m.letters))
    ++ key (codes "h") ∷ number (decimal m.size.h) ∷ key (codes "mode") ∷ string (mode_word m.mode) ∷ key (codes "name") ∷ string m.name
    ∷ key (codes "seen") ∷ (value_tokens (list_data (runs_data m.seen))
    ++ (some_tokens (codes "shown") boolean m.shown ++ key (codes "w") ∷ number (decimal m.size.w) ∷ end_object ∷ [])))
unfolding map_data
map_tokens m =
    whole_object (codes "x") _ _
    (member_more (codes "w") (codes "x") _ _ refl
    (some_more (codes "shown") (codes "w") _ _ refl
    (member_more (codes "seen") (codes "shown") _ _ refl
    (member_more (codes "name") (codes "seen") _ _ refl
    (member_more (codes "mode") (codes "name") _ _ refl
    (member_more (codes "h") (codes "mode") _ _ refl
    (member_more (codes "ground") (codes "h") _ _ refl (none (codes "ground"))
    (list_data (terrain_data m.exposed m.letters)))
    (whole m.size.h))
    (mode_data m.mode))
    (string_data m.name))
    (list_data (runs_data m.seen)))
    boolean m.shown)
    (whole m.size.w))

-- ---- tokens

parts : (t : TokenView) (owned : Option OwnedPart) (gm : Option GmPart) → value_tokens (object (put_whole gm (put_owned owned (token_members t))))
    ≡ begin_object ∷ key (codes "cell") ∷ (value_tokens (cell_data t.cell)
    ++ key (codes "id") ∷ string (id_text t.id) ∷ key (codes "layer") ∷ string (layer_word t.layer)
    ∷ (some_tokens (codes "light") (λ part. text_or_null part.light) owned
    ++ key (codes "map") ∷ string t.map ∷ key (codes "name") ∷ string t.name
    ∷ (some_tokens (codes "own") (λ part. props_data part.own) owned
    ++ (some_tokens (codes "owners") (λ part. wholes_data part.owners) gm
    ++ key (codes "props") ∷ (value_tokens (props_data t.props)
    ++ (some_tokens (codes "secret") (λ part. props_data part.secret) gm
    ++ (some_tokens (codes "sight") (λ part. text_or_null part.sight) owned
    ++ key (codes "size") ∷ number (decimal t.size)
    ∷ (some_tokens (codes "visible") (λ part. boolean part.visible) gm ++ end_object ∷ []))))))))
unfolding with_member
parts t None None = refl
parts t (Some part) None = refl
parts t None (Some part) = refl
parts t (Some part) (Some other) = refl

pub token_tokens : (t : TokenView) → value_tokens (token_data t)
    ≡ begin_object ∷ key (codes "cell") ∷ (value_tokens (cell_data t.cell)
    ++ key (codes "id") ∷ string (id_text t.id) ∷ key (codes "layer") ∷ string (layer_word t.layer)
    ∷ (some_tokens (codes "light") (λ part. text_or_null part.light) t.owned
    ++ key (codes "map") ∷ string t.map ∷ key (codes "name") ∷ string t.name
    ∷ (some_tokens (codes "own") (λ part. props_data part.own) t.owned
    ++ (some_tokens (codes "owners") (λ part. wholes_data part.owners) t.whole
    ++ key (codes "props") ∷ (value_tokens (props_data t.props)
    ++ (some_tokens (codes "secret") (λ part. props_data part.secret) t.whole
    ++ (some_tokens (codes "sight") (λ part. text_or_null part.sight) t.owned
    ++ key (codes "size") ∷ number (decimal t.size)
    ∷ (some_tokens (codes "visible") (λ part. boolean part.visible) t.whole ++ end_object ∷ []))))))))
unfolding token_data
token_tokens t = parts t t.owned t.whole

pub map_change_tokens : (c : MapChange) → value_tokens (map_change_data c)
    ≡ begin_object ∷ (list_tokens (codes "dark") (runs_data c.dark)
    ++ (list_tokens (codes "ground") (terrain_data (lettered c) c.letters)
    ++ (list_tokens (codes "hidden") (runs_data c.hidden)
    ++ (list_tokens (codes "lit") (runs_data c.lit)
    ++ (some_tokens (codes "mode") mode_data c.mode
    ++ key (codes "name") ∷ string c.name
    ∷ (some_tokens (codes "shown") boolean c.shown ++ end_object ∷ []))))))
unfolding map_change_data
map_change_tokens c =
    whole_object (codes "t") _ _
    (some_more (codes "shown") (codes "t") _ _ refl
    (member_more (codes "name") (codes "shown") _ _ refl
    (some_more (codes "mode") (codes "name") _ _ refl
    (list_more (codes "lit") (codes "mode") _ _ refl
    (list_more (codes "hidden") (codes "lit") _ _ refl
    (list_more (codes "ground") (codes "hidden") _ _ refl
    (list_more (codes "dark") (codes "ground") _ _ refl (none (codes "dark"))
    (runs_data c.dark))
    (terrain_data (lettered c) c.letters))
    (runs_data c.hidden))
    (runs_data c.lit))
    mode_data c.mode)
    (string_data c.name))
    boolean c.shown)

-- ---- fights

pub fight_tokens : (f : FightView) → value_tokens (fight_data f)
    ≡ begin_object ∷ key (codes "list") ∷ (value_tokens (list_data (map entry_data f.list))
    ++ key (codes "round") ∷ number (decimal f.round) ∷ key (codes "turn") ∷ (value_tokens (id_or_null f.turn) ++ end_object ∷ []))
unfolding fight_data
fight_tokens f =
    whole_object (codes "u") _ _
    (member_more (codes "turn") (codes "u") _ _ refl
    (member_more (codes "round") (codes "turn") _ _ refl
    (member_more (codes "list") (codes "round") _ _ refl (none (codes "list"))
    (list_data (map entry_data f.list)))
    (whole f.round))
    (id_or_null f.turn))

-- ---- changes and views

pub change_tokens : (c : Change) → value_tokens (change_data c)
    ≡ begin_object ∷ (list_tokens (codes "changed") (map map_change_data c.changed)
    ++ (some_tokens (codes "fight") fight_or_null c.fight
    ++ (list_tokens (codes "gone") (map (λ id. string_data (id_text id)) c.gone)
    ++ (types_tokens (codes "lights") radius_data c.lights
    ++ (list_tokens (codes "maps") (maps_data c.maps)
    ++ (types_tokens (codes "sights") wholes_data c.sights
    ++ (list_tokens (codes "tokens") (tokens_data c.tokens)
    ++ (list_tokens (codes "unmapped") (map string_data c.unmapped) ++ end_object ∷ []))))))))
unfolding change_data
change_tokens c =
    whole_object (codes "v") _ _
    (list_more (codes "unmapped") (codes "v") _ _ refl
    (list_more (codes "tokens") (codes "unmapped") _ _ refl
    (types_more (codes "sights") (codes "tokens") _ _ refl
    (list_more (codes "maps") (codes "sights") _ _ refl
    (types_more (codes "lights") (codes "maps") _ _ refl
    (list_more (codes "gone") (codes "lights") _ _ refl
    (some_more (codes "fight") (codes "gone") _ _ refl
    (list_more (codes "changed") (codes "fight") _ _ refl (none (codes "changed"))
    (map map_change_data c.changed))
    fight_or_null c.fight)
    (map (λ id. string_data (id_text id)) c.gone))
    radius_data c.lights)
    (maps_data c.maps))
    wholes_data c.sights)
    (tokens_data c.tokens))
    (map string_data c.unmapped))

pub view_tokens : (v : View) → value_tokens (view_data v)
    ≡ begin_object ∷ (some_tokens (codes "fight") fight_data v.fight
    ++ key (codes "lights") ∷ (value_tokens (lights_data v.lights)
    ++ key (codes "maps") ∷ (value_tokens (list_data (maps_data v.maps))
    ++ key (codes "sights") ∷ (value_tokens (sights_data v.sights)
    ++ key (codes "tokens") ∷ (value_tokens (list_data (tokens_data v.tokens)) ++ end_object ∷ [])))))
unfolding view_data
view_tokens v =
    whole_object (codes "u") _ _
    (member_more (codes "tokens") (codes "u") _ _ refl
    (member_more (codes "sights") (codes "tokens") _ _ refl
    (member_more (codes "maps") (codes "sights") _ _ refl
    (member_more (codes "lights") (codes "maps") _ _ refl
    (some_more (codes "fight") (codes "lights") _ _ refl (none (codes "fight"))
    fight_data v.fight)
    (lights_data v.lights))
    (list_data (maps_data v.maps)))
    (sights_data v.sights))
    (list_data (tokens_data v.tokens)))
