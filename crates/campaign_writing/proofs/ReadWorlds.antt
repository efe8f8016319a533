-- A world that was read is one that the campaign text takes.
use Rattle.std.proofs.Common.{◌≡◌, ℕ, ◌+◌, List, [], ◌∷◌, ◌++◌, length, Some, None, Result, Ok, Err, Bool, true, false, cond, ◌&&◌, nat_le, decimal, refl, ap, ◌∙◌, subst, ℤ, pos, negsuc}
use Rattle.std.specs.Prelude.{IfOk, ◌-◌, not, codes, is_ok, is_none}
use Rattle.std.specs.List.{list_all}
use Rattle.std.specs.declared.cmp.Ordering.{Ordering}
use Rattle.std.specs.declared.cmp.Ordering.TheVariants.{Less, Equal, Greater}
use Rattle.std.specs.FinMap.Entries.{by_order, put}
use Rattle.std.proofs.lemmas.Bool.{and_from}
use Rattle.std.proofs.lemmas.List.Folds.{list_all-append}
use Rattle.maps.proofs.NameLemmas.{and_first, and_second}
use Rattle.names.specs.Tag.{tag_cmp, tag_of}
use Rattle.names.specs.declared.kinds.WallKind.{WallKind}
use Rattle.names.specs.declared.kinds.WallKind.TheVariants.{Vbl, Mbl}
use Rattle.names.specs.Words.{wall_word}
use Rattle.cells.specs.Cells.{Extent}
use Rattle.topology.specs.WallFaults.{wall_fault}
use Rattle.maps.specs.Maps.{map_of}
use Rattle.lights.specs.Lights.{light_fault}
use Rattle.sight_types.specs.Sights.{sight_fault}
use Rattle.seats.specs.Book.{Book, drawn_limit, fresh_book, macro_fault, most_tags, tag_used, tags_spent}
use Rattle.type_table.specs.Types.{with_type}
use Rattle.tokens.specs.declared.token.Token.{Token}
use Rattle.macro_grammar.specs.Tree.{Piece}
use Rattle.macro_parse.specs.Answers.{macro_of}
use Rattle.macro_parse.specs.declared.texts.MacroParseFault.{MacroParseFault}
use Rattle.macro_parse.specs.declared.texts.MacroParseFault.TheVariants.{MacroSyntax, DiceLimit, Memory}
use Rattle.serde_json.specs.Data.{Data, Items, no_items, item, Members, no_members, member}
use Rattle.serde_json.specs.Find.{as_str, get}
use Rattle.json_fields.specs.Kinds.{integer_of, within, sized}
use Rattle.json_fields.specs.Objects.{◌>>=◌}
use Rattle.json_fields.specs.Values.{value_of}
use Rattle.world.specs.Scene.{Scene, bare}
use Rattle.world.specs.World.{World}
use Rattle.world.specs.Rules.{is_player, size_of}
use Rattle.world.proofs.TokenRules.{all_put}
use Rattle.campaign_json.specs.declared.faults.Rule.TheVariants.{Json, Missing, Kind, Range, Form, Twice, Cross}
use Rattle.campaign_json.specs.declared.faults.BadCampaign.{BadCampaign}
use Rattle.campaign_json.specs.declared.formats.Format.{Format}
use Rattle.campaign_json.specs.Reading.{needed, asked, under, field, each, each_member, escaped}
use Rattle.campaign_json.specs.Kinds as kinds
use Rattle.campaign_scene.specs.Types as types
use Rattle.campaign_scene.specs.Maps as maps
use Rattle.campaign_scene.specs.Fog as fogs
use Rattle.campaign_scene.specs.Tokens as tokens
use Rattle.campaign_file.specs.Macros as macros
use Rattle.campaign_file.specs.Seats as seats
use Rattle.campaign_file.specs.Campaign.{campaign, campaign_keys, campaign_of, players_in}
use Rattle.campaign_writing.specs.Written.{IsWritten, are_written_keys, are_written_macros, are_written_texts, are_written_tokens, is_written_key, is_written_text, is_written_token}

-- ---- what holds of what is read

go : {A B : Type 0} (P : A → Type 0) (Q : B → Type 0) (r : Result A BadCampaign) (next : A → Result B BadCampaign) → IfOk r P → ((a : A) → P a → IfOk (next a) Q) → IfOk (r >>= next) Q
go P Q (Ok a) next is one = one a is
go P Q (Err breach) next is one = tt

-- whatever is read
pass : {A B : Type 0} (Q : B → Type 0) (r : Result A BadCampaign) (next : A → Result B BadCampaign) → ((a : A) → IfOk (next a) Q) → IfOk (r >>= next) Q
pass Q (Ok a) next one = one a
pass Q (Err breach) next one = tt

under_so : {A : Type 0} (P : A → Type 0) (token : List ℕ) (r : Result A BadCampaign) → IfOk r P → IfOk (under token r) P
under_so P token (Ok a) is = is
under_so P token (Err breach) is = tt

field_so : {A : Type 0} (P : A → Type 0) (key : List ℕ) (kind : Data → Result A BadCampaign) (d : Data) → ((v : Data) → IfOk (kind v) P) → IfOk (field key kind d) P
field_so P key kind d one = under_so P key (needed Missing (get key d) >>= kind) (pass P (needed Missing (get key d)) kind one)

module _ {S : Type 0} (P : S → Type 0) where
  each_so : (read : ℕ → S → Data → Result S BadCampaign) → ((place : ℕ) (s : S) (d : Data) → P s → IfOk (read place s d) P) → (place : ℕ) (s : S) (ds : Items) → P s → IfOk (each read place s ds) P
  each_so read one place s no_items is = is
  each_so read one place s (item d ds) is =
      go P P (under (decimal place) (read place s d)) (λ next. each read (place + 1) next ds) (under_so P (decimal place) (read place s d) (one place s d is)) (λ next so. each_so read one (place + 1) next ds so)

  members_so : (read : List ℕ → S → Data → Result S BadCampaign) → ((key : List ℕ) (s : S) (d : Data) → P s → IfOk (read key s d) P) → (s : S) (ds : Members) → P s → IfOk (each_member read s ds) P
  members_so read one s no_members is = is
  members_so read one s (member key d ds) is =
      go P P (under (escaped key) (read key s d)) (λ next. each_member read next ds) (under_so P (escaped key) (read key s d) (one key s d is)) (λ next so. members_so read one next ds so)

-- ---- kinds of value

abbrev InBounds : ℕ → ℕ → ℕ → Type 0
InBounds least most n = (nat_le least n && nat_le n most) ≡ true

sized_so : (least most : ℕ) (bytes : List ℕ) → IfOk (needed Range (sized least most bytes)) (λ text. InBounds least most (length text))
sized_so least most bytes = by (nat_le least (length bytes) && nat_le (length bytes) most) refl
  where
    by : (b : Bool) → (nat_le least (length bytes) && nat_le (length bytes) most) ≡ b → IfOk (needed Range (cond b (Some bytes) None)) (λ text. InBounds least most (length text))
    by true is = is
    by false is = tt

text_so : (least most : ℕ) (d : Data) → IfOk (kinds.text least most d) (λ text. InBounds least most (length text))
text_so least most d = pass (λ text. InBounds least most (length text)) (needed Kind (as_str d)) (λ bytes. needed Range (sized least most bytes)) (sized_so least most)

within_so : (least most : ℕ) (z : ℤ) → IfOk (needed Range (within least most z)) (InBounds least most)
within_so least most (negsuc n) = tt
within_so least most (pos n) = by (nat_le least n && nat_le n most) refl
  where
    by : (b : Bool) → (nat_le least n && nat_le n most) ≡ b → IfOk (needed Range (cond b (Some n) None)) (InBounds least most)
    by true is = is
    by false is = tt

whole_so : (least most : ℕ) (d : Data) → IfOk (kinds.whole least most d) (InBounds least most)
whole_so least most d = pass (InBounds least most) (needed Kind (integer_of d)) (λ z. needed Range (within least most z)) (within_so least most)

-- ---- types, maps and what is exposed leave the tokens as they are

abbrev Fits : Scene → Type 0
Fits s = are_written_tokens s.tokens ≡ true

light_so : (format : Format) (key : List ℕ) (s : Scene) (d : Data) → Fits s → IfOk (types.light format key s d) Fits
unfolding types.light
light_so format key s d is = pass Fits (needed Form (tag_of key)) _ (λ name. pass Fits (types.radius format d) _ (λ radius. pass Fits (asked Range (is_none (light_fault s.lights name radius))) _ (λ room. is)))

sight_so : (key : List ℕ) (s : Scene) (d : Data) → Fits s → IfOk (types.sight key s d) Fits
unfolding types.sight
sight_so key s d is =
    pass Fits (needed Form (tag_of key)) _ (λ name. pass Fits (types.sight_of d) _ (λ found. pass Fits (asked Range (is_none (sight_fault s.sights name found.range found.night found.mult))) _ (λ room. is)))

lights_so : (format : Format) (s : Scene) (d : Data) → Fits s → IfOk (types.lights format s d) Fits
unfolding types.lights
lights_so format s d is = pass Fits (field (codes "lights") (kinds.members 32) d) _ (λ all. under_so Fits (codes "lights") _ (members_so Fits (types.light format) (light_so format) s all is))

sights_so : (s : Scene) (d : Data) → Fits s → IfOk (types.sights s d) Fits
unfolding types.sights
sights_so s d is = pass Fits (field (codes "sights") (kinds.members 32) d) _ (λ all. under_so Fits (codes "sights") _ (members_so Fits types.sight sight_so s all is))

lettered_so : (name : List ℕ) (y x : ℕ) (s : Scene) (letters : List ℕ) → Fits s → Fits (maps.lettered name y x s letters)
lettered_so name y x s [] is = is
lettered_so name y x s (letter ∷ letters) is = lettered_so name y (x + 1) _ letters is

row_so : (name : List ℕ) (width y : ℕ) (s : Scene) (d : Data) → Fits s → IfOk (maps.row name width y s d) Fits
unfolding maps.row
row_so name width y s d is = pass Fits (maps.row_letters width d) _ (λ letters. lettered_so name y 0 s letters is)

rows_so : (name : List ℕ) (size : Extent) (s : Scene) (d : Data) → Fits s → IfOk (maps.rows name size s d) Fits
unfolding maps.rows
rows_so name size s d is = pass Fits (field (codes "rows") (kinds.list size.h size.h) d) _ (λ all. under_so Fits (codes "rows") _ (each_so Fits (maps.row name size.w) (λ y before row so. row_so name size.w y before row so) 0 s all is))

walled_so : (name : List ℕ) (kind : WallKind) (first second : ℤ × ℤ) (s : Scene) → Fits s → IfOk (maps.walled_at name kind first second s) Fits
unfolding maps.walled_at
walled_so name kind first second s is =
    pass Fits (needed Cross (map_of name s.maps)) _ (λ grid. pass Fits (needed Cross (maps.point_on grid.walls.extent first.0 first.1)) _
    (λ a. pass Fits (needed Cross (maps.point_on grid.walls.extent second.0 second.1)) _ (λ b. pass Fits (maps.unbroken (wall_fault grid.walls kind a b)) _ (λ fits. is))))

wall_so : (name : List ℕ) (kind : WallKind) (s : Scene) (d : Data) → Fits s → IfOk (maps.wall name kind s d) Fits
unfolding maps.wall
wall_so name kind s d is =
    pass Fits (maps.wall_ends d) _ (λ ends. walled_so name kind ends.0 ends.1 s is)

walls_so : (name : List ℕ) (kind : WallKind) (s : Scene) (d : Data) → Fits s → IfOk (maps.walls name kind s d) Fits
unfolding maps.walls
walls_so name kind s d is = pass Fits (field (wall_word kind) (kinds.list 0 2048) d) _ (λ all. under_so Fits (wall_word kind) _ (each_so Fits (λ place. maps.wall name kind) (λ place before wall so. wall_so name kind before wall so) 0 s all is))

map_so : (format : Format) (s : Scene) (d : Data) → Fits s → IfOk (maps.map format s d) Fits
unfolding maps.map
map_so format s d is =
    pass Fits (maps.heading format s d) _
    (λ new. let blank : Scene = maps.with_blank new s in go Fits Fits (maps.rows new.name new.size blank d) _ (rows_so new.name new.size blank d is)
    (λ laid so. go Fits Fits (maps.walls new.name Vbl laid d) _ (walls_so new.name Vbl laid d so)
    (λ veiled so. go Fits Fits (maps.walls new.name Mbl veiled d) _ (walls_so new.name Mbl veiled d so) (λ walled so. pass Fits (kinds.only (maps.map_keys format) d) _ (λ no_others. so)))))

maps_so : (format : Format) (s : Scene) (d : Data) → Fits s → IfOk (maps.maps format s d) Fits
unfolding maps.maps
maps_so format s d is = pass Fits (field (codes "maps") (kinds.list 0 8) d) _ (λ all. under_so Fits (codes "maps") _ (each_so Fits (λ place. maps.map format) (λ place before map so. map_so format before map so) 0 s all is))

exposed_so : (seat : ℕ) (name : List ℕ) (y x0 x1 : ℤ) (s : Scene) → Fits s → IfOk (fogs.exposed_at seat name y x0 x1 s) Fits
unfolding fogs.exposed_at
exposed_so seat name y x0 x1 s is = pass Fits (needed Cross (size_of name s.maps)) _ (λ size. pass Fits (needed Cross (fogs.run_on size y x0 x1)) _ (λ rect. is))

run_so : (seat : ℕ) (name : List ℕ) (s : Scene) (d : Data) → Fits s → IfOk (fogs.run seat name s d) Fits
unfolding fogs.run
run_so seat name s d is =
    pass Fits (fogs.run_numbers d) _ (λ at. exposed_so seat name at.0 at.1.0 at.1.1 s is)

fog_of_map_so : (seat : ℕ) (key : List ℕ) (s : Scene) (d : Data) → Fits s → IfOk (fogs.fog_of_map seat key s d) Fits
unfolding fogs.fog_of_map
fog_of_map_so seat key s d is =
    pass Fits (needed Cross (tag_of key)) _ (λ name. pass Fits (needed Cross (size_of name s.maps)) _ (λ size. pass Fits (kinds.items d) _ (λ runs. each_so Fits (λ place. fogs.run seat name) (λ place before run so. run_so seat name before run so) 0 s runs is)))

fog_so : (seat : ℕ) (s : Scene) (d : Data) → Fits s → IfOk (fogs.fog seat s d) Fits
unfolding fogs.fog fogs.fog_of_player fogs.no_fog
fog_so seat s d is = by (is_player s.fog.players seat)
  where
    by : (player : Bool) → IfOk (cond player (fogs.fog_of_player seat s d) (fogs.no_fog s d)) Fits
    by true = pass Fits (field (codes "fog") kinds.entries d) _ (λ all. under_so Fits (codes "fog") _ (members_so Fits (fogs.fog_of_map seat) (fog_of_map_so seat) s all is))
    by false = pass Fits (field (codes "fog") (kinds.members 0) d) _ (λ none. is)

-- ---- seats

abbrev IsBook : Book → Type 0
IsBook b = (is_written_key b.key ≡ true) × (are_written_texts b.macros ≡ true)

used_so : (b : Book) (d : Data) → IsBook b → IfOk (seats.used_tag b d) IsBook
unfolding seats.used_tag
used_so b d is = pass IsBook (kinds.tag d) _ (λ name. pass IsBook (asked Twice (not (tag_used b.tags name))) _ (λ first. pass IsBook (asked Range (not (tags_spent b.seat b.tags))) _ (λ room. is)))

tags_so : (b : Book) (d : Data) → IsBook b → IfOk (seats.tags b d) IsBook
unfolding seats.tags
tags_so b d is = pass IsBook (field (codes "tags") (kinds.list 0 (most_tags b.seat)) d) _ (λ all. under_so IsBook (codes "tags") _ (each_so IsBook (λ place. seats.used_tag) (λ place before tag so. used_so before tag so) 0 b all is))

-- a text more at its name
all_put_in : (name text : List ℕ) (all : List (List ℕ × List ℕ)) → is_written_text text ≡ true → are_written_texts all ≡ true → are_written_texts (with_type name text all) ≡ true
all_put_in name text [] this is = and_from (is_written_text text) true this refl
all_put_in name text (m ∷ all) this is = by (tag_cmp name m.0) (λ rest. all_put_in name text all this rest)
  where
    first : is_written_text m.1 ≡ true
    first = and_first (is_written_text m.1) (are_written_texts all) is

    rest : are_written_texts all ≡ true
    rest = and_second (is_written_text m.1) (are_written_texts all) is

    by : (o : Ordering) → (are_written_texts all ≡ true → are_written_texts (put tag_cmp name text all) ≡ true) → are_written_texts (by_order o ((name, text) ∷ m ∷ all) ((m.0, text) ∷ all) (m ∷ put tag_cmp name text all)) ≡ true
    by Less next = and_from (is_written_text text) (are_written_texts (m ∷ all)) this is
    by Equal next = and_from (is_written_text text) (are_written_texts all) this rest
    by Greater next = and_from (is_written_text m.1) (are_written_texts (put tag_cmp name text all)) first (next rest)

spelled_so : (words : List ℕ) (r : Result (List Piece) MacroParseFault) → macro_of words ≡ r → IfOk (macros.spelled r) (λ done. is_ok (macro_of words) ≡ true)
spelled_so words (Ok pieces) is = ap is_ok is
spelled_so words (Err (MacroSyntax at)) is = tt
spelled_so words (Err DiceLimit) is = tt
spelled_so words (Err Memory) is = tt

macro_so : (key : List ℕ) (b : Book) (d : Data) → IsBook b → IfOk (macros.with_read key b d) IsBook
unfolding macros.with_read
macro_so key b d is =
    pass IsBook (needed Form (tag_of key)) _ (λ name. go (λ text. InBounds 0 2000 (length text)) IsBook (kinds.text 0 2000 d) _ (text_so 0 2000 d)
    (λ words short. go (λ done. is_ok (macro_of words) ≡ true) IsBook (macros.spelled (macro_of words)) _ (spelled_so words (macro_of words) refl)
    (λ pieces spelled. pass IsBook (asked Range (is_none (macro_fault b.macros name))) _ (λ room. (is.0, all_put_in name words b.macros (and_from _ _ (and_second (nat_le 0 (length words)) _ short) spelled) is.1)))))

macros_so : (b : Book) (d : Data) → IsBook b → IfOk (macros.macros b d) IsBook
unfolding macros.macros
macros_so b d is = pass IsBook (field (codes "macros") (kinds.members 32) d) _ (λ all. under_so IsBook (codes "macros") _ (members_so IsBook macros.with_read macro_so b all is))

abbrev IsSeat : Book × Scene → Type 0
IsSeat read = IsBook read.0 × Fits read.1

book_so : (place : ℕ) (d : Data) → IfOk (seats.seat_book place d) IsBook
unfolding seats.seat_book
book_so place d =
    pass IsBook (kinds.object d) _ (λ members. go (λ key. is_written_key key ≡ true) IsBook (field (codes "key") (kinds.text 1 64) d) _ (field_so (λ key. is_written_key key ≡ true) (codes "key") (kinds.text 1 64) d (text_so 1 64))
    (λ key good. pass IsBook (field (codes "seed") kinds.seed d) _ (λ seed. pass IsBook (field (codes "drawn") (kinds.whole 0 (drawn_limit - 1)) d) _ (λ drawn. go IsBook IsBook (seats.tags (fresh_book place key seed drawn) d) _ (tags_so (fresh_book place key seed drawn) d (good, refl))
    (λ book so. macros_so book d so)))))

seat_so : (place : ℕ) (s : Scene) (d : Data) → Fits s → IfOk (seats.seat place s d) IsSeat
unfolding seats.seat
seat_so place s d is =
    go IsBook IsSeat (seats.seat_book place d) _ (book_so place d)
    (λ book full. go Fits IsSeat (fogs.fog place s d) _ (fog_so place s d is) (λ exposed stays. pass IsSeat (kinds.only seats.seat_keys d) _ (λ no_others. (full, stays))))

record AreSeats (w : World) : Type 0 where
  tokens : Fits w.scene
  keys : are_written_keys w.books ≡ true
  macros : are_written_macros w.books ≡ true

one_more : (test : Book → Bool) (books : List Book) (b : Book) → list_all test books ≡ true → test b ≡ true → list_all test (books ++ b ∷ []) ≡ true
one_more test books b all is = list_all-append test books (b ∷ []) ∙ and_from _ _ all (and_from (test b) true is refl)

seated_so : (place : ℕ) (w : World) (d : Data) → AreSeats w → IfOk (seats.seated place w d) AreSeats
unfolding seats.seated
seated_so place w d is = go IsSeat AreSeats (seats.seat place w.scene d) _ (seat_so place w.scene d is.tokens)
    (λ read so. record {
      tokens = so.1;
      keys = one_more (λ b. is_written_key b.key) w.books read.0 is.keys so.0.0;
      macros = one_more (λ b. are_written_texts b.macros) w.books read.0 is.macros so.0.1;
    })

seats_so : (s : Scene) (d : Data) → Fits s → IfOk (seats.seats s d) AreSeats
unfolding seats.seats
seats_so s d is = pass AreSeats (field (codes "seats") (kinds.list 1 33) d) _ (λ all. under_so AreSeats (codes "seats") _ (each_so AreSeats seats.seated seated_so 0 (record { scene = s; books = [] }) all (record { tokens = is; keys = refl; macros = refl })))

-- ---- tokens

abbrev IsToken : Token → Type 0
IsToken t = is_written_token t.name t.size ≡ true

bounds : (name : List ℕ) (size : ℕ) → InBounds 1 40 (length name) → InBounds 1 4 size → is_written_token name size ≡ true
bounds name size long wide =
    and_from (nat_le 1 (length name)) _ (and_first _ _ long) (and_from (nat_le (length name) 40) _ (and_second (nat_le 1 (length name)) _ long) wide)

bare_so : (books : List Book) (s : Scene) (d : Data) → IfOk (tokens.bare_token books s d) IsToken
unfolding tokens.bare_token
bare_so books s d =
    pass IsToken (kinds.object d) _ (λ members. pass IsToken (field (codes "id") (tokens.new_id books s) d) _ (λ id. go (λ name. InBounds 1 40 (length name)) IsToken (field (codes "name") (kinds.text 1 40) d) _ (field_so (λ name. InBounds 1 40 (length name)) (codes "name") (kinds.text 1 40) d (text_so 1 40))
    (λ name long. pass IsToken (field (codes "map") (tokens.map_name s) d) _ (λ map. go (InBounds 1 4) IsToken (field (codes "size") (kinds.whole 1 4) d) _ (field_so (InBounds 1 4) (codes "size") (kinds.whole 1 4) d (whole_so 1 4))
    (λ size wide. pass IsToken (field (codes "cell") (tokens.cell map.1 size) d) _ (λ cell. bounds name size long wide))))))

marked_so : (s : Scene) (t : Token) (d : Data) → IsToken t → IfOk (tokens.marked s t d) IsToken
unfolding tokens.marked
marked_so s t d is =
    pass IsToken (field (codes "layer") kinds.layer d) _ (λ layer. pass IsToken (tokens.owners s.fog.players d) _ (λ owners. pass IsToken (field (codes "visible") kinds.boolean d) _
    (λ visible. pass IsToken (field (codes "sight") (tokens.type_name s.sights) d) _ (λ sight. pass IsToken (field (codes "light") (tokens.type_name s.lights) d) _ (λ light. is)))))

described_so : (t : Token) (d : Data) → IsToken t → IfOk (tokens.described t d) IsToken
unfolding tokens.described
described_so t d is = pass IsToken (tokens.properties (codes "props") d) _ (λ public. pass IsToken (tokens.properties (codes "own") d) _ (λ own. pass IsToken (tokens.properties (codes "secret") d) _ (λ secret. is)))

token_so : (books : List Book) (s : Scene) (d : Data) → Fits s → IfOk (tokens.token books s d) Fits
unfolding tokens.token
token_so books s d is =
    go IsToken Fits (tokens.bare_token books s d) _ (bare_so books s d)
    (λ bare so. go IsToken Fits (tokens.marked s bare d) _ (marked_so s bare d so)
    (λ marked so. go IsToken Fits (tokens.described marked d) _ (described_so marked d so) (λ whole so. pass Fits (kinds.only tokens.token_keys d) _ (λ no_others. all_put (λ t. is_written_token t.name t.size) whole s.tokens so is))))

tokens_so : (books : List Book) (s : Scene) (d : Data) → Fits s → IfOk (tokens.tokens books s d) Fits
unfolding tokens.tokens
tokens_so books s d is = pass Fits (field (codes "tokens") kinds.items d) _ (λ all. under_so Fits (codes "tokens") _ (each_so Fits (λ place. tokens.token books) (λ place before token so. token_so books before token so) 0 s all is))

-- ---- the whole

campaign_so : (d : Data) → IfOk (campaign d) IsWritten
unfolding campaign
campaign_so d =
    pass IsWritten (kinds.object d) _ (λ members. pass IsWritten (field (codes "format") kinds.format d) _ (λ format. go Fits IsWritten (types.lights format (bare (players_in d)) d) _ (lights_so format (bare (players_in d)) d refl)
    (λ lit so. go Fits IsWritten (types.sights lit d) _ (sights_so lit d so)
    (λ sighted so. go Fits IsWritten (maps.maps format sighted d) _ (maps_so format sighted d so)
    (λ mapped so. go AreSeats IsWritten (seats.seats mapped d) _ (seats_so mapped d so)
    (λ world are. go Fits IsWritten (tokens.tokens world.books world.scene d) _ (tokens_so world.books world.scene d are.tokens)
    (λ full so. pass IsWritten (kinds.only campaign_keys d) _ (λ no_others. record { tokens = so; keys = are.keys; macros = are.macros }))))))))

pub read_written : (text : List ℕ) (w : World) → campaign_of text ≡ Ok w → IsWritten w
unfolding campaign_of
read_written text w is = subst (λ r. IfOk r IsWritten) is (pass IsWritten (needed Json (value_of text)) campaign campaign_so)
