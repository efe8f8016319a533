-- Tokens that were written are read.
use Rattle.std.proofs.Common.{◌≡◌, ℕ, zero, suc, ◌+◌, ◌*◌, ◌≤◌, ◌<◌, List, [], ◌∷◌, ◌++◌, length, map, Option, Some, None, Ok, refl, sym, ap, ◌∙◌, arith, true, false, Bool, ◌&&◌, cond, nat_le, subst}
use Rattle.std.specs.Prelude.{codes, ◌^◌}
use Rattle.std.specs.List.{AllByRecursion, list_all, IsDistinct}
use Rattle.std.specs.Map.{keys_of}
use Rattle.std.specs.Str.{bytes_eq}
use Rattle.std.specs.Ordering.{is_lt}
use Rattle.std.specs.FinMap.Entries.{is_sorted}
use Rattle.std.proofs.lemmas.Bool.Decides.{nat_tests}
use Rattle.names.specs.Tag.{is_tag}
use Rattle.names.specs.TokenId.{IsTokenId, id_text, id_cmp, id_eq}
use Rattle.names.specs.Words.{layer_word, layer_of, mode_word, mode_of}
use Rattle.names.specs.declared.kinds.Layer.{Layer}
use Rattle.names.specs.declared.kinds.Layer.TheVariants.{Token as TokenLayer, Hidden, Object, Background}
use Rattle.names.specs.declared.kinds.Mode.{Mode}
use Rattle.names.specs.declared.kinds.Mode.TheVariants.{Off, Day, Night}
use Rattle.names.specs.declared.token_id.TokenId.{TokenId}
use Rattle.names.proofs.IdTexts.{id_of-id_text}
use Rattle.names.proofs.SameIds.{id_eq-Decides}
use Rattle.cells.specs.Cells.{Extent}
use Rattle.cells.specs.declared.cell.Cell.{Cell}
use Rattle.seats.specs.Book.{Book}
use Rattle.std.specs.Prelude.{nat_lt, nat_eq, decimal}
use Rattle.std.specs.List.{filter, range_with_len}
use Rattle.std.proofs.lemmas.Slice.Eq.{bytes_eq-Decides}
use Rattle.std.proofs.lemmas.Nat.Bits.{bit_at-lt, same_from_bits_below}
use Rattle.cells.specs.Cells.{row_where}
use Rattle.cells.proofs.SetLaws.{row_where_lt, bit_at_row_where, bit_of_test}
use Rattle.tokens.specs.Owners.{has_owner, with_owner, seats_of, owners_where}
use Rattle.tokens.specs.Properties.{Property, value_of, with_value}
use Rattle.tokens.specs.Tokens.{has_token, put}
use Rattle.tokens.specs.declared.token.Token.{Token}
use Rattle.tokens.proofs.OrderLemmas.{apart}
use Rattle.maps.proofs.NameLemmas.{and_first, and_second, both}
use Rattle.serde_json.specs.Data.{Data, string}
use Rattle.serde_json.specs.Find.{get}
use Rattle.serde_json.specs.View.{items_of}
use Rattle.json_fields.specs.Objects.{◌>>=◌}
use Rattle.world.specs.Rules.{fits, fits_on, is_known, is_player, are_players, size_of}
use Rattle.world.specs.Scene.{Scene}
use Rattle.world.specs.World.{is_used}
use Rattle.campaign_json.specs.Reading.{under, each}
use Rattle.campaign_json.specs.Kinds as kinds
use Rattle.campaign_writing.specs.Kept.{IsProperty, IsName}
use Rattle.campaign_writing.proofs.Writable.{IsTokenOf}
use Rattle.campaign_writing.specs.Trees.{whole, wholes, list, name_or_null}
use Rattle.campaign_writing.specs.Scenes.{token_tree, owners_tree, properties_tree, property_tree}
use Rattle.campaign_scene.specs.Tokens as read
use Rattle.campaign_writing.proofs.Parts.{field_reads, item_reads, each_reads, list_reads, whole_reads, text_reads}
use Rattle.campaign_writing.proofs.Orders.{between, fewer, room_left, lesser_keys}
use Rattle.campaign_writing.proofs.Types.{tag_is}

-- ---- words

pub layer_back : (layer : Layer) → layer_of (layer_word layer) ≡ Some layer
unfolding layer_of layer_word
layer_back TokenLayer = refl
layer_back Hidden = refl
layer_back Object = refl
layer_back Background = refl

pub mode_back : (mode : Mode) → mode_of (mode_word mode) ≡ Some mode
unfolding mode_of mode_word
mode_back Off = refl
mode_back Day = refl
mode_back Night = refl

-- ---- properties

-- the name is that of no property before
abbrev pub IsUnseen : List ℕ → List Property → Type 0
IsUnseen name done = AllByRecursion (λ other. bytes_eq name other.0 ≡ false) done

unseen : (name : List ℕ) (done : List Property) → IsUnseen name done → value_of name done ≡ None
unseen name [] h = refl
unseen name (p ∷ done) h = rw h.0 (unseen name done h.1)

new_last : (name value : List ℕ) (done : List Property) → IsUnseen name done → with_value name value done ≡ done ++ (name, value) ∷ []
new_last name value [] h = refl
new_last name value (p ∷ done) h = rw h.0 (ap (λ rest. p ∷ rest) (new_last name value done h.1))

other_way : (a b : List ℕ) → bytes_eq a b ≡ false → bytes_eq b a ≡ false
other_way a b h = by (bytes_eq b a) refl
  where
    by : (t : Bool) → bytes_eq b a ≡ t → t ≡ false
    by false e = refl
    by true e = let same : bytes_eq a b ≡ true = (bytes_eq-Decides a b).1 (sym ((bytes_eq-Decides b a).0 e)) in absurd cc

differs_mid : (name : List ℕ) (done : List Property) (x : Property) (left : List Property) → AllByRecursion (λ other. bytes_eq name other ≡ false) (keys_of (done ++ x ∷ left)) → bytes_eq x.0 name ≡ false
differs_mid name [] x left h = other_way name x.0 h.0
differs_mid name (y ∷ done) x left h = differs_mid name done x left h.1

distinct_split : (done : List Property) (x : Property) (left : List Property) → IsDistinct bytes_eq (keys_of (done ++ x ∷ left)) → IsUnseen x.0 done
unfolding IsDistinct
distinct_split [] x left h = tt
distinct_split (y ∷ done) x left h = (differs_mid y.0 done x left h.0, distinct_split done x left h.1)

module _ (all : List Property) (are : AllByRecursion IsProperty all) (few : length all ≤ 64) (distinct : IsDistinct bytes_eq (keys_of all)) where
  name_reads : (done : List Property) (x : Property) (left : List Property) → done ++ x ∷ left ≡ all → read.new_name done (string x.0) ≡ Ok x.0
  unfolding read.new_name
  name_reads done x left e =
      let is = between IsProperty done x left all e are in
      let new = distinct_split done x left (subst (λ ps. IsDistinct bytes_eq (keys_of ps)) (sym e) distinct) in
      rw (tag_is x.0 is.0, unseen x.0 done new, room_left (length done) 64 (fewer done x left all 64 e few)) refl

  property_reads : (done : List Property) (x : Property) (left : List Property) → done ++ x ∷ left ≡ all → read.property done (property_tree x) ≡ Ok (done ++ x ∷ [])
  unfolding read.property
  property_reads done x left e =
      let is = between IsProperty done x left all e are in
      let new = distinct_split done x left (subst (λ ps. IsDistinct bytes_eq (keys_of ps)) (sym e) distinct) in
      let short : (nat_le 0 (length x.1) && nat_le (length x.1) 200) ≡ true = grind (arith, nat_tests, is.1) in
      rw (item_reads 0 (read.new_name done) (property_tree x) (string x.0) x.0 refl (name_reads done x left e), item_reads 1 (kinds.text 0 200) (property_tree x) (string x.1) x.1 refl (text_reads 0 200 x.1 short))
      (ap Ok (new_last x.0 x.1 done new))

  pub properties_read : (key : List ℕ) (d : Data) → get key d ≡ Some (properties_tree all) → read.properties key d ≡ Ok all
  unfolding read.properties
  properties_read key d at =
      rw (field_reads key (kinds.list 0 64) d (properties_tree all) (items_of (map property_tree all)) at (list_reads 0 64 property_tree all (omega arith) few))
      (ap (under key) (each_reads (λ done. done) all (λ place. read.property) property_tree property_reads))

-- ---- owners

row_alike : (f g : ℕ → Bool) (n : ℕ) → ((k : ℕ) → k < n → f k ≡ g k) → row_where f n ≡ row_where g n
row_alike f g zero h = refl
row_alike f g (suc n) h = λ i. cond (h n (omega arith) i) 1 0 * 2 ^ n + row_alike f g n (λ k lt. h k (omega (arith, lt))) i

owners_alike : (f g : ℕ → Bool) → ((k : ℕ) → k < 33 → f k ≡ g k) → owners_where f ≡ owners_where g
unfolding owners_where
owners_alike f g h = row_alike f g 33 h

owners_same : (n : ℕ) → n < 2 ^ 33 → owners_where (has_owner n) ≡ n
unfolding owners_where
owners_same n small =
    sym (same_from_bits_below 33 n (row_where (has_owner n) 33) small (row_where_lt (has_owner n) 33)
    (λ k h. bit_of_test _ _ (bit_at-lt n k) refl ∙ sym (bit_at_row_where (has_owner n) 33 k h)))

has_where : (f : ℕ → Bool) (k : ℕ) → k < 33 → has_owner (owners_where f) k ≡ f k
unfolding owners_where
has_where f k lt = ap (λ bit. nat_eq bit 1) (bit_at_row_where f 33 k lt) ∙ test (f k)
  where
    test : (b : Bool) → nat_eq (cond b 1 0) 1 ≡ b
    test true = refl
    test false = refl

none_own : owners_where (λ k. false) ≡ 0
unfolding owners_where
none_own = refl

module _ (players n : ℕ) (small : n < 2 ^ 33) where
  -- those of the owners that have lesser numbers
  below : ℕ → ℕ
  below k = owners_where (λ j. nat_lt j k && has_owner n j)

  with_next : (k : ℕ) → k < 33 → has_owner n k ≡ true → with_owner (below k) k true ≡ below (k + 1)
  unfolding below
  with_next k lt h = owners_alike _ _ (λ j low. ap (λ b. cond (nat_eq j k) true b) (has_where (λ i. nat_lt i k && has_owner n i) j low) ∙ by j)
    where
      case : (a : Bool) (j k : ℕ) → (j ≡ k → a ≡ true) → cond (nat_eq j k) true (nat_lt j k && a) ≡ (nat_lt j (k + 1) && a)
      case true j k e = grind (arith, nat_tests)
      case false j k e = grind (arith, nat_tests, e)

      by : (j : ℕ) → cond (nat_eq j k) true (nat_lt j k && has_owner n j) ≡ (nat_lt j (k + 1) && has_owner n j)
      by j = case (has_owner n j) j k (λ e. ap (has_owner n) e ∙ h)

  without_next : (k : ℕ) → has_owner n k ≡ false → below k ≡ below (k + 1)
  unfolding below
  without_next k h = owners_alike _ _ (λ j low. case (has_owner n j) j k (λ e. ap (has_owner n) e ∙ h))
    where
      case : (a : Bool) (j k : ℕ) → (j ≡ k → a ≡ false) → (nat_lt j k && a) ≡ (nat_lt j (k + 1) && a)
      case false j k e = grind (arith, nat_tests)
      case true j k e = grind (arith, nat_tests, e)

  all_below : below 33 ≡ n
  unfolding below
  all_below = owners_alike (λ j. nat_lt j 33 && has_owner n j) (has_owner n) (λ j low. case (has_owner n j) j low) ∙ owners_same n small
    where
      case : (a : Bool) (j : ℕ) → j < 33 → (nat_lt j 33 && a) ≡ a
      case a j low = grind (arith, nat_tests)

  first_below : below 0 ≡ 0
  unfolding below
  first_below = owners_alike (λ j. nat_lt j 0 && has_owner n j) (λ k. false) (λ j low. case (has_owner n j) j) ∙ none_own
    where
      case : (a : Bool) (j : ℕ) → (nat_lt j 0 && a) ≡ false
      case a j = grind (arith, nat_tests)

  owner_reads : (k : ℕ) → k < 33 → has_owner n k ≡ true → is_player players k ≡ true → read.owner players (below k) (whole k) ≡ Ok (below (k + 1))
  unfolding read.owner below
  owner_reads k lt owns player =
      let fits : (nat_le 1 k && nat_le k 32) ≡ true = grind (arith, nat_tests, player) in
      let new : has_owner (below k) k ≡ false = has_where (λ j. nat_lt j k && has_owner n j) k lt ∙ not_below (has_owner n k) k in
      rw (whole_reads 1 32 k (omega arith) fits, player, new) (ap Ok (with_next k lt owns))
    where
      not_below : (a : Bool) (k : ℕ) → (nat_lt k k && a) ≡ false
      not_below a k = grind (arith, nat_tests)

  owners_from : (count k place : ℕ) → k + count ≡ 33 → list_all (is_player players) (filter (has_owner n) (range_with_len k count)) ≡ true
      → each (λ place. read.owner players) place (below k) (items_of (map whole (filter (has_owner n) (range_with_len k count)))) ≡ Ok n
  owners_from zero k place e are = ap Ok (ap below (omega (arith, e)) ∙ all_below)
  owners_from (suc count) k place e are = by (has_owner n k) refl are (λ p h. owners_from count (k + 1) p (omega (arith, e)) h)
    where
      by : (b : Bool) → has_owner n k ≡ b → list_all (is_player players) (cond b (k ∷ filter (has_owner n) (range_with_len (k + 1) count)) (filter (has_owner n) (range_with_len (k + 1) count))) ≡ true
          → ((p : ℕ) → list_all (is_player players) (filter (has_owner n) (range_with_len (k + 1) count)) ≡ true → each (λ place. read.owner players) p (below (k + 1)) (items_of (map whole (filter (has_owner n) (range_with_len (k + 1) count)))) ≡ Ok n)
          → each (λ place. read.owner players) place (below k) (items_of (map whole (cond b (k ∷ filter (has_owner n) (range_with_len (k + 1) count)) (filter (has_owner n) (range_with_len (k + 1) count))))) ≡ Ok n
      by true own are next =
          ap (λ r. under (decimal place) r >>= λ after. each (λ place. read.owner players) (place + 1) after (items_of (map whole (filter (has_owner n) (range_with_len (k + 1) count)))))
          (owner_reads k (omega (arith, e)) own (and_first _ _ are))
          ∙ next (place + 1) (and_second _ _ are)
      by false own are next =
          ap (λ o. each (λ place. read.owner players) place o (items_of (map whole (filter (has_owner n) (range_with_len (k + 1) count))))) (without_next k own)
          ∙ next place are

  pub owners_read : (d : Data) → are_players players n ≡ true → get (codes "owners") d ≡ Some (wholes (seats_of n)) → read.owners players d ≡ Ok n
  unfolding read.owners are_players
  owners_read d are at =
      rw (field_reads (codes "owners") kinds.items d (wholes (seats_of n)) (items_of (map whole (seats_of n))) at refl)
      (ap (under (codes "owners")) (ap (λ o. each (λ place. read.owner players) 0 o (items_of (map whole (seats_of n)))) (sym first_below) ∙ owners_from 33 0 0 refl are))

-- ---- whole tokens

none_of_id : (id : TokenId) (done : List Token) → AllByRecursion (λ y. is_lt (id_cmp y.id id) ≡ true) done → has_token id done ≡ false
none_of_id id [] h = refl
none_of_id id (y ∷ done) h = rw (not_same y.id h.0) (none_of_id id done h.1)
  where
    not_same : (other : TokenId) → is_lt (id_cmp other id) ≡ true → id_eq other id ≡ false
    not_same other less = by (id_eq other id) refl
      where
        by : (b : Bool) → id_eq other id ≡ b → b ≡ false
        by false e = refl
        by true e = let no : id_eq id id ≡ false = apart other id id less e in let yes : id_eq id id ≡ true = (id_eq-Decides id id).1 refl in absurd cc

pub put_behind : (x : Token) (done : List Token) → AllByRecursion (λ y. is_lt (id_cmp y.id x.id) ≡ true) done → put x done ≡ done ++ x ∷ []
put_behind x [] h = refl
put_behind x (y ∷ done) h = rw h.0 (ap (λ rest. y ∷ rest) (put_behind x done h.1))

type_reads : {V : Type 0} (types : List (List ℕ × V)) (name : Option (List ℕ)) → IsName name → is_known types name ≡ true → read.type_name types (name_or_null name) ≡ Ok name
unfolding read.type_name read.name_or_null
type_reads types None is known = refl
type_reads types (Some name) is known = rw (tag_is name is, known) refl

map_reads : (s : Scene) (name : List ℕ) (size : Extent) → is_tag name ≡ true → size_of name s.maps ≡ Some size → read.map_name s (string name) ≡ Ok (name, size)
unfolding read.map_name
map_reads s name size is there = rw (tag_is name is, there) refl

cell_reads : (size : Extent) (side : ℕ) (cell : Cell) → (nat_le cell.x 95 && nat_le cell.y 95) ≡ true → fits size cell side ≡ true → read.cell size side (wholes (cell.x ∷ cell.y ∷ [])) ≡ Ok cell
unfolding read.cell
cell_reads size side cell low on =
    rw (
      item_reads 0 (kinds.whole 0 95) (wholes (cell.x ∷ cell.y ∷ [])) (whole cell.x) cell.x refl (whole_reads 0 95 cell.x (omega arith) (both _ _ (low0 cell.x) (and_first _ _ low))),
      item_reads 1 (kinds.whole 0 95) (wholes (cell.x ∷ cell.y ∷ [])) (whole cell.y) cell.y refl (whole_reads 0 95 cell.y (omega arith) (both _ _ (low0 cell.y) (and_second (nat_le cell.x 95) (nat_le cell.y 95) low))),
      on,
    ) refl
  where
    low0 : (n : ℕ) → nat_le 0 n ≡ true
    low0 n = grind (arith, nat_tests)

stands : (o : Option Extent) (cell : Cell) (side : ℕ) → fits_on o cell side ≡ true → (size : Extent) × ((o ≡ Some size) × (fits size cell side ≡ true))
stands None cell side h = absurd cc
stands (Some size) cell side h = (size, (refl, h))

id_reads : (books : List Book) (s : Scene) (id : TokenId) → IsTokenId id → is_used books id ≡ true → has_token id s.tokens ≡ false → read.new_id books s (string (id_text id)) ≡ Ok id
unfolding read.new_id read.may_be_made
id_reads books s id is used new = rw (id_of-id_text id is, used, new) refl

layer_reads : (layer : Layer) → kinds.layer (string (layer_word layer)) ≡ Ok layer
layer_reads layer = rw (layer_back layer) refl

module _ (books : List Book) (s : Scene) (t : Token) (is : IsTokenOf books s t) where
  bare : Token
  bare = record { id = t.id; name = t.name; map = t.map; cell = t.cell; size = t.size; layer = TokenLayer; owners = 0; visible = false; sight = None; light = None; public = []; own = []; secret = [] }

  bare_reads : has_token t.id s.tokens ≡ false → read.bare_token books s (token_tree t) ≡ Ok bare
  unfolding bare read.bare_token token_tree
  bare_reads new =
      let on = stands (size_of t.map s.maps) t.cell t.size (and_first _ _ is.belongs) in
      rw (
        field_reads (codes "id") (read.new_id books s) (token_tree t) (string (id_text t.id)) t.id refl (id_reads books s t.id is.id is.used new),
        field_reads (codes "name") (kinds.text 1 40) (token_tree t) (string t.name) t.name refl (text_reads 1 40 t.name is.name),
        field_reads (codes "map") (read.map_name s) (token_tree t) (string t.map) (t.map, on.0) refl (map_reads s t.map on.0 is.map on.1.0),
        field_reads (codes "size") (kinds.whole 1 4) (token_tree t) (whole t.size) t.size refl (whole_reads 1 4 t.size (omega arith) is.side),
        field_reads (codes "cell") (read.cell on.0 t.size) (token_tree t) (wholes (t.cell.x ∷ t.cell.y ∷ [])) t.cell refl (cell_reads on.0 t.size t.cell is.place on.1.1),
      ) refl

  marked : Token
  marked = record t { public = []; own = []; secret = [] }

  marked_reads : read.marked s bare (token_tree t) ≡ Ok marked
  unfolding bare marked read.marked token_tree owners_tree
  marked_reads =
      let rest = and_second (fits_on (size_of t.map s.maps) t.cell t.size) _ is.belongs in
      let more = and_second (is_known s.sights t.sight) _ rest in
      rw (
        field_reads (codes "layer") kinds.layer (token_tree t) (string (layer_word t.layer)) t.layer refl (layer_reads t.layer),
        owners_read s.fog.players t.owners is.owners (token_tree t) (and_second (is_known s.lights t.light) _ more) refl,
        field_reads (codes "sight") (read.type_name s.sights) (token_tree t) (name_or_null t.sight) t.sight refl (type_reads s.sights t.sight is.sight (and_first _ _ rest)),
        field_reads (codes "light") (read.type_name s.lights) (token_tree t) (name_or_null t.light) t.light refl (type_reads s.lights t.light is.light (and_first _ _ more)),
      ) refl

  described_reads : read.described marked (token_tree t) ≡ Ok t
  unfolding marked read.described token_tree
  described_reads =
      rw (
        properties_read t.public is.public.each is.public.few is.public.distinct (codes "props") (token_tree t) refl,
        properties_read t.own is.own.each is.own.few is.own.distinct (codes "own") (token_tree t) refl,
        properties_read t.secret is.secret.each is.secret.few is.secret.distinct (codes "secret") (token_tree t) refl,
      ) refl

  known_keys : kinds.only read.token_keys (token_tree t) ≡ Ok tt
  unfolding token_tree
  known_keys = refl

  pub token_reads : has_token t.id s.tokens ≡ false → read.token books s (token_tree t) ≡ Ok (record s { tokens = put t s.tokens })
  unfolding read.token
  token_reads new = rw (bare_reads new, marked_reads, described_reads, known_keys) refl

module _ (books : List Book) (s : Scene) (all : List Token) (are : AllByRecursion (IsTokenOf books s) all) (ordered : is_sorted id_cmp (map (λ t. (t.id, t)) all) ≡ true) where
  one_token : (done : List Token) (x : Token) (left : List Token) → done ++ x ∷ left ≡ all → read.token books (record s { tokens = done }) (token_tree x) ≡ Ok (record s { tokens = done ++ x ∷ [] })
  one_token done x left e =
      let is = between (IsTokenOf books s) done x left all e are in
      let lesser = lesser_keys id_cmp (λ t. t.id) done x left all e ordered in
      token_reads books (record s { tokens = done }) x (record { id = is.id; used = is.used; name = is.name; map = is.map; side = is.side; place = is.place; belongs = is.belongs; owners = is.owners; sight = is.sight; light = is.light; public = is.public; own = is.own; secret = is.secret }) (none_of_id x.id done lesser)
      ∙ ap (λ ts. Ok (record s { tokens = ts })) (put_behind x done lesser)

  pub tokens_read : (d : Data) → get (codes "tokens") d ≡ Some (list (map token_tree all)) → read.tokens books (record s { tokens = [] }) d ≡ Ok (record s { tokens = all })
  unfolding read.tokens
  tokens_read d at =
      rw (field_reads (codes "tokens") kinds.items d (list (map token_tree all)) (items_of (map token_tree all)) at refl)
      (ap (under (codes "tokens")) (each_reads (λ done. record s { tokens = done }) all (λ place. read.token books) token_tree one_token))
