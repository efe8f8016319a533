-- A command that was read keeps its limits.
use Rattle.std.proofs.Common.{◌≡◌, ◌≢◌, ℕ, suc, ◌≤◌, ◌≤ℤ◌, Bool, true, false, cond, ◌&&◌, T, List, [], ◌∷◌, length, Some, None, refl, sym, ap, inl, inr, subst, arith, ℤ, pos, negsuc}
use Rattle.std.specs.Prelude.{Option, Result, Ok, Err, nat_le, option_and_then, option_map, int_le, IsSomeAnd, IfSome, IfOk, IfErr, codes}
use Rattle.std.specs.Option.{option_or, option_zip}
use Rattle.std.specs.List.{list_any, AllByRecursion}
use Rattle.names.specs.Letters.{is_letter}
use lib.Signed.{le_z_yes}
use Rattle.std.specs.Str.{bytes_eq}
use Rattle.std.proofs.lemmas.Bool.{and_parts}
use Rattle.std.proofs.lemmas.Bool.Decides.{nat_tests}
use Rattle.serde_json.specs.Data.{Data, null, boolean, number, string, array, object, Items, no_items, item}
use Rattle.serde_json.specs.Find.{as_array, as_bool, as_str, get, at}
use Rattle.serde_json.specs.Events.{items_len}
use Rattle.names.specs.declared.kinds.PropClass.{PropClass}
use Rattle.names.specs.declared.kinds.PropClass.TheVariants.{Public, Own as OwnClass, Secret as SecretClass}
use Rattle.names.specs.declared.kinds.Layer.TheVariants.{Token}
use Rattle.chat.specs.declared.to.To.TheVariants.{All}
use Rattle.names.specs.Words.{class_of, class_word}
use Rattle.json_fields.specs.Kinds.{counted, is_counted, tag_from, id_from, mode_from, layer_from, wall_kind_from, or_null, within, whole_from, between, integer_from, integer_of, sized, text_from, class_from, has_items, item_in}
use Rattle.json_fields.specs.Fields.{field_in, field_or, kind_or, word_in, unknown_in}
use Rattle.json_fields.specs.Values.{value_of}
use Rattle.json_fields.specs.Order.{HasRisingKeys}
use Rattle.json_fields.proofs.Keys.{least_in}
use Rattle.json_fields.proofs.Rising.{rising_keys}
use Rattle.json_fields.specs.Objects.{needed, unless_unknown, ◌>>=◌, Gives}
use Rattle.command_json.specs.declared.command.Command.{Command}
use Rattle.command_json.specs.declared.command.Command.TheVariants as C
use Rattle.command_json.specs.declared.command.LineFault.{LineFault}
use Rattle.command_json.specs.declared.command.LineFault.TheVariants.{BadJson, BadCommand, GmOnly, BadField, Memory}
use Rattle.command_json.specs.declared.verbs.Verb.{Verb}
use Rattle.command_json.specs.declared.verbs.Verb.TheVariants as V
use Rattle.command_json.specs.declared.verbs.GmVerb.{GmVerb}
use Rattle.command_json.specs.declared.verbs.GmVerb.TheVariants as G
use Rattle.command_json.specs.Verbs.{verbs, gm_verbs, keys_of, gm_keys_of}
use Rattle.command_json.specs.Faults.{Fails}
use Rattle.command_json.specs.EverySeat.{hello_in, bye_in, look_in, say_in, roll_in, macro_in, setmacro_in, move_in, setprop_in, light_in, make_in, remove_in, init_in, uninit_in, fields_in}
use Rattle.command_json.specs.GameMaster.{map_in, mode_in, show_in, trail_in, terrain_in, wall_in, unwall_in, lighttype_in, sighttype_in, token_in, own_in, layer_in, visible_in, sight_in, place_in, secret_in, expose_in, hide_in, turn_in, endfight_in, dump_in, gm_fields_in}
use Rattle.command_json.specs.Commands.{by_gm_verb, by_verb, command_in, of_value, command_of, keys_in, IsBadKeyOf, NamesBadKey}
use Rattle.command_json.specs.Fields.{args_from, texts_from, place_from, places_from, path_from, to_from, number_from, rect_from, letter_of, letter_from, least_place, most_place, least_radius, most_radius, least_value, most_value}
use Rattle.command_json.specs.Limits.{IsWithin, IsNumber, IsText, IsBetween, IsCoordinate, IsPlace, IsPath, IsRect, AreArgs, IsLetter, IsCommand}

-- a command keeps its limits, and a fault isn't want of memory
abbrev Kept : Result Command LineFault → Type 0
Kept (Ok command) = IsCommand command
Kept (Err Memory) = ⊥
Kept (Err BadJson) = Unit {0}
Kept (Err BadCommand) = Unit {0}
Kept (Err GmOnly) = Unit {0}
Kept (Err (BadField name)) = Unit {0}

-- a fault that names a key names one of these, or the least unknown one
abbrev Named : List (List ℕ) → Data → Result Command LineFault → Type 0
Named keys d (Ok command) = Unit {0}
Named keys d (Err Memory) = Unit {0}
Named keys d (Err BadJson) = Unit {0}
Named keys d (Err BadCommand) = Unit {0}
Named keys d (Err GmOnly) = Unit {0}
Named keys d (Err (BadField key)) = IsBadKeyOf keys d key

record Keeps (keys : List (List ℕ)) (d : Data) (result : Result Command LineFault) : Type 0 where
  kept : Kept result
  named : Named keys d result

-- field by field: whatever the field is, the rest keeps its limits
step : {keys : List (List ℕ)} {d : Data} {A : Type 0} (key : List ℕ) → list_any (λ name. bytes_eq name key) keys ≡ true → (o : Option A) (next : A → Result Command LineFault) → ((read : A) → o ≡ Some read → Keeps keys d (next read))
    → Keeps keys d (needed BadField key o >>= next)
step key among None next h = record { kept = tt; named = inl among }
step key among (Some read) next h = h read refl

last : {keys : List (List ℕ)} {d : Data} → HasRisingKeys d → (command : Command) → IsCommand command → Keeps keys d (unless_unknown BadField (unknown_in (codes "do" ∷ keys) d) command)
last {keys} {d} rise command h = by (unknown_in (codes "do" ∷ keys) d) refl
  where
    by : (key : Option (List ℕ)) → unknown_in (codes "do" ∷ keys) d ≡ key → Keeps keys d (unless_unknown BadField key command)
    by None e = record { kept = h; named = tt }
    by (Some key) e = record { kept = tt; named = inr (least_in (codes "do" ∷ keys) d key rise e) }

-- ---- kinds: what a value of the kind stands for is in its limits

-- a kind that is read in two steps keeps what the second keeps
through : {A B : Type 0} (P : A → Type 0) (f : B → Option A) → ((b : B) (x : A) → f b ≡ Some x → P x) → (o : Option B) (x : A) → option_and_then f o ≡ Some x → P x
through P f keeps None x h = cc
through P f keeps (Some b) x h = keeps b x h

between_nats : (least most n : ℕ) → (nat_le least n && nat_le n most) ≡ true → IsWithin least most n
between_nats least most n h = let parts = and_parts (nat_le least n) (nat_le n most) h in record { at_least = low least n parts.0; at_most = low n most parts.1 }
  where
    low : (m n : ℕ) → nat_le m n ≡ true → m ≤ n
    low m n h = grind (arith, nat_tests)

if_some : {A : Type 0} (P : A → Type 0) (test : Bool) (x y : A) → (test ≡ true → P x) → cond test (Some x) None ≡ Some y → P y
if_some P true x y h e = let same : x ≡ y = cc in subst P same (h refl)
if_some P false x y h e = cc

within_keeps : (least most : ℕ) (z : ℤ) (n : ℕ) → within least most z ≡ Some n → IsWithin least most n
within_keeps least most (pos m) n h = if_some (IsWithin least most) (nat_le least m && nat_le m most) m n (between_nats least most m) h
within_keeps least most (negsuc m) n h = cc

between_keeps : (least most : ℕ) (z n : ℤ) → between (pos least) (pos most) z ≡ Some n → IsNumber least most n
between_keeps least most (pos m) n h = if_some (IsNumber least most) (nat_le least m && nat_le m most) (pos m) n (between_nats least most m) h
between_keeps least most (negsuc m) n h = cc

sized_keeps : (least most : ℕ) (text read : List ℕ) → sized least most text ≡ Some read → IsText least most read
sized_keeps least most text read h = if_some (IsText least most) (nat_le least (length text) && nat_le (length text) most) text read (between_nats least most (length text)) h

number_keeps : (least most : ℕ) (d : Data) (n : ℤ) → number_from least most d ≡ Some n → IsNumber least most n
number_keeps least most d n h = through (IsNumber least most) (between (pos least) (pos most)) (between_keeps least most) (integer_of d) n h

whole_keeps : (least most : ℕ) (d : Data) (n : ℕ) → whole_from least most d ≡ Some n → IsWithin least most n
whole_keeps least most d n h = through (IsWithin least most) (within least most) (within_keeps least most) (integer_of d) n h

text_keeps : (least most : ℕ) (d : Data) (text : List ℕ) → text_from least most d ≡ Some text → IsText least most text
text_keeps least most d text h = through (IsText least most) (sized least most) (sized_keeps least most) (as_str d) text h

letter_of_keeps : (text : List ℕ) (letter : ℕ) → letter_of text ≡ Some letter → IsLetter letter
letter_of_keeps [] letter h = cc
letter_of_keeps (x ∷ []) letter h = if_some IsLetter (is_letter x) x letter (λ e. e) h
letter_of_keeps (x ∷ more ∷ rest) letter h = cc

letter_keeps : (d : Data) (letter : ℕ) → letter_from d ≡ Some letter → IsLetter letter
letter_keeps d letter h = through IsLetter letter_of letter_of_keeps (as_str d) letter h

class_keeps : (d : Data) (class : PropClass) → class_from d ≡ Some class → class ≢ SecretClass
unfolding class_of
class_keeps d class h = through (λ c. c ≢ SecretClass) class_of keeps (as_str d) class h
  where
    keeps : (word : List ℕ) (c : PropClass) → class_of word ≡ Some c → c ≢ SecretClass
    keeps word c e = by (bytes_eq (class_word Public) word) (bytes_eq (class_word OwnClass) word) e
      where
        by : (a b : Bool) → cond a (Some Public) (cond b (Some OwnClass) None) ≡ Some c → c ≢ SecretClass
        by true b e = λ is. cc
        by false true e = λ is. cc
        by false false e = cc

in_order : (a b : ℤ) → int_le a b ≡ true → a ≤ℤ b
in_order a b h = le_z_yes (subst T (sym h) tt)

integer_keeps : (least most : ℤ) (d : Data) (n : ℤ) → integer_from least most d ≡ Some n → IsBetween least most n
integer_keeps least most d n h = through (IsBetween least most) (between least most) keeps (integer_of d) n h
  where
    keeps : (z n : ℤ) → between least most z ≡ Some n → IsBetween least most n
    keeps z n e = if_some (IsBetween least most) (int_le least z && int_le z most) z n
        (λ t. let parts = and_parts (int_le least z) (int_le z most) t in record { at_least = in_order least z parts.0; at_most = in_order z most parts.1 }) e

coordinate_keeps : (d : Data) (n : ℤ) → integer_from least_place most_place d ≡ Some n → IsCoordinate n
coordinate_keeps d n h = integer_keeps least_place most_place d n h

both_keep : (x y : Option ℤ) (place : ℤ × ℤ) → ((n : ℤ) → x ≡ Some n → IsCoordinate n) → ((n : ℤ) → y ≡ Some n → IsCoordinate n) → option_zip x y ≡ Some place → IsPlace place
both_keep None y place a b e = cc
both_keep (Some x) None place a b e = cc
both_keep (Some x) (Some y) place a b e = let same : (x, y) ≡ place = cc in subst IsPlace same (record { x = a x refl; y = b y refl })

item_keeps : (d : Data) (index : ℕ) (n : ℤ) → item_in (integer_from least_place most_place) index d ≡ Some n → IsCoordinate n
item_keeps d index n e = through IsCoordinate (integer_from least_place most_place) coordinate_keeps (at index d) n e

pair_keeps : (d : Data) (place : ℤ × ℤ) → place_from d ≡ Some place → IsPlace place
pair_keeps d place h = by (has_items 2 d) h
  where
    by : (t : Bool) → cond t (option_zip (item_in (integer_from least_place most_place) 0 d) (item_in (integer_from least_place most_place) 1 d)) None ≡ Some place → IsPlace place
    by true e = both_keep (item_in (integer_from least_place most_place) 0 d) (item_in (integer_from least_place most_place) 1 d) place (item_keeps d 0) (item_keeps d 1) e
    by false e = cc

-- the cells of a path
record AreRead (count : ℕ) (path : List (ℤ × ℤ)) : Type 0 where
  same : length path ≡ count
  cells : AllByRecursion IsPlace path

cells_keep : (ds : Items) (path : List (ℤ × ℤ)) → places_from ds ≡ Some path → AreRead (items_len ds) path
cells_keep no_items path e = let same : [] ≡ path = cc in subst (AreRead 0) same (record { same = refl; cells = tt })
cells_keep (item d ds) path e = by (place_from d) (places_from ds) (pair_keeps d) (cells_keep ds) e
  where
    by : (o : Option (ℤ × ℤ)) (rest : Option (List (ℤ × ℤ))) → ((place : ℤ × ℤ) → o ≡ Some place → IsPlace place) → ((more : List (ℤ × ℤ)) → rest ≡ Some more → AreRead (items_len ds) more)
        → option_map (λ (p : (ℤ × ℤ) × List (ℤ × ℤ)). p.0 ∷ p.1) (option_zip o rest) ≡ Some path → AreRead (suc (items_len ds)) path
    by None rest one more e = cc
    by (Some place) None one more e = cc
    by (Some place) (Some others) one more e =
        let same : place ∷ others ≡ path = cc in
        let read = more others refl in
        subst (AreRead (suc (items_len ds))) same (record { same = ap suc read.same; cells = (one place refl, read.cells) })

path_keeps : (d : Data) (path : List (ℤ × ℤ)) → path_from d ≡ Some path → IsPath path
unfolding path_from
path_keeps d path h = by (as_array d) h
  where
    of_items : (ds : Items) (t : Bool) → (t ≡ true → IsWithin 1 64 (items_len ds)) → option_and_then places_from (cond t (Some ds) None) ≡ Some path → IsPath path
    of_items ds true within e =
        let read = cells_keep ds path e in
        record { count = subst (IsWithin 1 64) (sym read.same) (within refl); cells = read.cells }
    of_items ds false within e = cc

    by : (o : Option Items) → option_and_then places_from (option_and_then (counted 1 64) o) ≡ Some path → IsPath path
    by None e = cc
    by (Some ds) e = of_items ds (is_counted 1 64 ds) (between_nats 1 64 (items_len ds)) e

sides : (w h : Option ℕ) (r : ℕ × ℕ) → option_zip w h ≡ Some r → (w ≡ Some r.0) × (h ≡ Some r.1)
sides None h r e = cc
sides (Some w) None r e = cc
sides (Some w) (Some h) r e = (cc, cc)

rect_keeps : (d : Data) (rect : ℤ × ℤ × ℤ × ℤ) → rect_from d ≡ Some rect → IsRect rect
rect_keeps d rect h = by (has_items 4 d) h
  where
    corner : Option (ℤ × ℤ)
    corner = option_zip (item_in (integer_from least_place most_place) 0 d) (item_in (integer_from least_place most_place) 1 d)

    w : Option ℕ
    w = item_in (whole_from 1 96) 2 d

    h' : Option ℕ
    h' = item_in (whole_from 1 96) 3 d

    side : (index n : ℕ) → item_in (whole_from 1 96) index d ≡ Some n → IsWithin 1 96 n
    side index n e = through (IsWithin 1 96) (whole_from 1 96) (whole_keeps 1 96) (at index d) n e

    zipped : (c : Option (ℤ × ℤ)) (u v : Option ℕ) → ((place : ℤ × ℤ) → c ≡ Some place → IsPlace place) → ((n : ℕ) → u ≡ Some n → IsWithin 1 96 n) → ((n : ℕ) → v ≡ Some n → IsWithin 1 96 n) → option_map (λ (r : (ℤ × ℤ) × (ℕ × ℕ)). (r.0.0, r.0.1, pos r.1.0, pos r.1.1)) (option_zip c (option_zip u v)) ≡ Some rect → IsRect rect
    zipped None u v p a b e = cc
    zipped (Some c) None v p a b e = cc
    zipped (Some c) (Some m) None p a b e = cc
    zipped (Some c) (Some m) (Some n) p a b e = let same : (c.0, c.1, pos m, pos n) ≡ rect = cc in let place = p c refl in subst IsRect same (record { x = place.x; y = place.y; w = a m refl; h = b n refl })

    by : (t : Bool) → option_map (λ (r : (ℤ × ℤ) × (ℕ × ℕ)). (r.0.0, r.0.1, pos r.1.0, pos r.1.1)) (cond t (option_zip corner (option_zip w h')) None) ≡ Some rect → IsRect rect
    by true e = zipped corner w h' (λ place e. both_keep (item_in (integer_from least_place most_place) 0 d) (item_in (integer_from least_place most_place) 1 d) place (item_keeps d 0) (item_keeps d 1) e) (side 2) (side 3) e
    by false e = cc

-- arguments
record AreTexts (count : ℕ) (texts : List (List ℕ)) : Type 0 where
  same : length texts ≡ count
  each : AllByRecursion (IsText 0 200) texts

texts_keep : (ds : Items) (texts : List (List ℕ)) → texts_from ds ≡ Some texts → AreTexts (items_len ds) texts
texts_keep no_items texts e = let same : [] ≡ texts = cc in subst (AreTexts 0) same (record { same = refl; each = tt })
texts_keep (item d ds) texts e = by (text_from 0 200 d) (texts_from ds) (text_keeps 0 200 d) (texts_keep ds) e
  where
    by : (o : Option (List ℕ)) (rest : Option (List (List ℕ))) → ((text : List ℕ) → o ≡ Some text → IsText 0 200 text) → ((more : List (List ℕ)) → rest ≡ Some more → AreTexts (items_len ds) more)
        → option_map (λ (p : List ℕ × List (List ℕ)). p.0 ∷ p.1) (option_zip o rest) ≡ Some texts → AreTexts (suc (items_len ds)) texts
    by None rest one more e = cc
    by (Some text) None one more e = cc
    by (Some text) (Some others) one more e =
        let same : text ∷ others ≡ texts = cc in
        let read = more others refl in
        subst (AreTexts (suc (items_len ds))) same (record { same = ap suc read.same; each = (one text refl, read.each) })

args_keep : (d : Data) (args : List (List ℕ)) → args_from d ≡ Some args → AreArgs args
unfolding args_from
args_keep d args h = by (as_array d) h
  where
    of_items : (ds : Items) (t : Bool) → (t ≡ true → IsWithin 0 8 (items_len ds)) → option_and_then texts_from (cond t (Some ds) None) ≡ Some args → AreArgs args
    of_items ds true within e =
        let read = texts_keep ds args e in
        record { count = subst (IsWithin 0 8) (sym read.same) (within refl); texts = read.each }
    of_items ds false within e = cc

    by : (o : Option Items) → option_and_then texts_from (option_and_then (counted 0 8) o) ≡ Some args → AreArgs args
    by None e = cc
    by (Some ds) e = of_items ds (is_counted 0 8 ds) (between_nats 0 8 (items_len ds)) e

some_keeps : (least most : ℕ) (d : Data) (text : Option (List ℕ)) → option_map Some (text_from least most d) ≡ Some text → IfSome text (IsText least most)
some_keeps least most d text h = by (text_from least most d) (text_keeps least most d) h
  where
    by : (o : Option (List ℕ)) → ((t : List ℕ) → o ≡ Some t → IsText least most t) → option_map Some o ≡ Some text → IfSome text (IsText least most)
    by None keeps e = cc
    by (Some t) keeps e = let same : Some t ≡ text = cc in subst (λ o. IfSome o (IsText least most)) same (keeps t refl)

-- a text, or null
nullable_keeps : (least most : ℕ) (d : Data) (text : Option (List ℕ)) → or_null (text_from least most) d ≡ Some text → IfSome text (IsText least most)
nullable_keeps least most null text h = let same : None ≡ text = cc in subst (λ t. IfSome t (IsText least most)) same tt
nullable_keeps least most (boolean b) text h = some_keeps least most (boolean b) text h
nullable_keeps least most (number n) text h = some_keeps least most (number n) text h
nullable_keeps least most (string s) text h = some_keeps least most (string s) text h
nullable_keeps least most (array items) text h = some_keeps least most (array items) text h
nullable_keeps least most (object members) text h = some_keeps least most (object members) text h

-- ---- fields

of_field : {A : Type 0} (P : A → Type 0) (kind : Data → Option A) → ((d : Data) (x : A) → kind d ≡ Some x → P x) → (key : List ℕ) (d : Data) (x : A) → field_in kind key d ≡ Some x → P x
of_field P kind keeps key d x h = through P kind keeps (get key d) x h

of_field_or : {A : Type 0} (P : A → Type 0) (default : A) (kind : Data → Option A) → P default → ((d : Data) (x : A) → kind d ≡ Some x → P x) → (key : List ℕ) (d : Data) (x : A) → field_or default kind key d ≡ Some x → P x
of_field_or {A} P default kind p keeps key d x h = by (get key d) h
  where
    by : (o : Option Data) → kind_or default kind o ≡ Some x → P x
    by None e = let same : default ≡ x = cc in subst P same p
    by (Some v) e = keeps v x e

-- ---- commands

hello_keeps : (d : Data) → HasRisingKeys d → Keeps (keys_of V.Hello) d (hello_in d)
unfolding hello_in
hello_keeps d rise = step (codes "seat") refl (field_in (whole_from 0 32) (codes "seat") d) _ (λ seat _. step (codes "key") refl (field_in (text_from 1 64) (codes "key") d) _ (λ key is_key. last rise (C.Hello seat key) (of_field (IsText 1 64) (text_from 1 64) (text_keeps 1 64) (codes "key") d key is_key)))

bye_keeps : (d : Data) → HasRisingKeys d → Keeps (keys_of V.Bye) d (bye_in d)
unfolding bye_in
bye_keeps d rise = last rise C.Bye tt

look_keeps : (d : Data) → HasRisingKeys d → Keeps (keys_of V.Look) d (look_in d)
unfolding look_in
look_keeps d rise = last rise C.Look tt

say_keeps : (d : Data) → HasRisingKeys d → Keeps (keys_of V.Say) d (say_in d)
unfolding say_in
say_keeps d rise = step (codes "text") refl (field_in (text_from 1 1000) (codes "text") d) _ (λ text is_text. step (codes "to") refl (field_or All to_from (codes "to") d) _ (λ to _. last rise (C.Say text to) (of_field (IsText 1 1000) (text_from 1 1000) (text_keeps 1 1000) (codes "text") d text is_text)))

roll_keeps : (d : Data) → HasRisingKeys d → Keeps (keys_of V.Roll) d (roll_in d)
unfolding roll_in
roll_keeps d rise = step (codes "dice") refl (field_in (text_from 1 200) (codes "dice") d) _ (λ dice is_dice. step (codes "to") refl (field_or All to_from (codes "to") d) _ (λ to _. last rise (C.Roll dice to) (of_field (IsText 1 200) (text_from 1 200) (text_keeps 1 200) (codes "dice") d dice is_dice)))

macro_keeps : (d : Data) → HasRisingKeys d → Keeps (keys_of V.Macro) d (macro_in d)
unfolding macro_in
macro_keeps d rise = step (codes "name") refl (field_in tag_from (codes "name") d) _ (λ name _. step (codes "args") refl (field_or [] args_from (codes "args") d) _ (λ args is_args. step (codes "to") refl (field_or All to_from (codes "to") d) _ (λ to _. last rise (C.Macro name args to) (of_field_or AreArgs [] args_from (record { count = record { at_least = omega arith; at_most = omega arith }; texts = tt }) args_keep (codes "args") d args is_args))))

setmacro_keeps : (d : Data) → HasRisingKeys d → Keeps (keys_of V.Setmacro) d (setmacro_in d)
unfolding setmacro_in
setmacro_keeps d rise = step (codes "name") refl (field_in tag_from (codes "name") d) _ (λ name _. step (codes "text") refl (field_in (or_null (text_from 0 2000)) (codes "text") d) _ (λ text is_text. last rise (C.Setmacro name text) (of_field (λ t. IfSome t (IsText 0 2000)) (or_null (text_from 0 2000)) (nullable_keeps 0 2000) (codes "text") d text is_text)))

move_keeps : (d : Data) → HasRisingKeys d → Keeps (keys_of V.Move) d (move_in d)
unfolding move_in
move_keeps d rise = step (codes "token") refl (field_in id_from (codes "token") d) _ (λ token _. step (codes "path") refl (field_in path_from (codes "path") d) _ (λ path is_path. last rise (C.Move token path) (of_field IsPath path_from path_keeps (codes "path") d path is_path)))

setprop_keeps : (d : Data) → HasRisingKeys d → Keeps (keys_of V.Setprop) d (setprop_in d)
unfolding setprop_in
setprop_keeps d rise = step (codes "token") refl (field_in id_from (codes "token") d) _ (λ token _. step (codes "class") refl (field_in class_from (codes "class") d) _ (λ class is_class. step (codes "name") refl (field_in tag_from (codes "name") d) _ (λ name _. step (codes "value") refl (field_in (text_from 0 200) (codes "value") d) _ (λ value is_value. last rise (C.Setprop token class name value) ((of_field (λ c. c ≢ SecretClass) class_from class_keeps (codes "class") d class is_class, of_field (IsText 0 200) (text_from 0 200) (text_keeps 0 200) (codes "value") d value is_value))))))

light_keeps : (d : Data) → HasRisingKeys d → Keeps (keys_of V.Light) d (light_in d)
unfolding light_in
light_keeps d rise = step (codes "token") refl (field_in id_from (codes "token") d) _ (λ token _. step (codes "light") refl (field_in (or_null tag_from) (codes "light") d) _ (λ light _. last rise (C.Light token light) tt))

make_keeps : (d : Data) → HasRisingKeys d → Keeps (keys_of V.Make) d (make_in d)
unfolding make_in
make_keeps d rise = step (codes "tag") refl (field_in tag_from (codes "tag") d) _ (λ tag _. step (codes "map") refl (field_in tag_from (codes "map") d) _ (λ map _. step (codes "cell") refl (field_in place_from (codes "cell") d) _ (λ cell is_cell. step (codes "name") refl (field_in (text_from 1 40) (codes "name") d) _ (λ name is_name. last rise (C.Make tag map cell name) ((of_field (IsText 1 40) (text_from 1 40) (text_keeps 1 40) (codes "name") d name is_name, of_field IsPlace place_from pair_keeps (codes "cell") d cell is_cell))))))

remove_keeps : (d : Data) → HasRisingKeys d → Keeps (keys_of V.Remove) d (remove_in d)
unfolding remove_in
remove_keeps d rise = step (codes "token") refl (field_in id_from (codes "token") d) _ (λ token _. last rise (C.Remove token) tt)

init_keeps : (d : Data) → HasRisingKeys d → Keeps (keys_of V.Init) d (init_in d)
unfolding init_in
init_keeps d rise = step (codes "token") refl (field_in id_from (codes "token") d) _ (λ token _. step (codes "value") refl (field_in (integer_from least_value most_value) (codes "value") d) _ (λ value is_value. last rise (C.Init token value) (of_field (IsBetween least_value most_value) (integer_from least_value most_value) (integer_keeps least_value most_value) (codes "value") d value is_value)))

uninit_keeps : (d : Data) → HasRisingKeys d → Keeps (keys_of V.Uninit) d (uninit_in d)
unfolding uninit_in
uninit_keeps d rise = step (codes "token") refl (field_in id_from (codes "token") d) _ (λ token _. last rise (C.Uninit token) tt)

fields_keep : (d : Data) → HasRisingKeys d → (verb : Verb) → Keeps (keys_of verb) d (fields_in d verb)
unfolding fields_in
fields_keep d rise V.Hello = hello_keeps d rise
fields_keep d rise V.Bye = bye_keeps d rise
fields_keep d rise V.Look = look_keeps d rise
fields_keep d rise V.Say = say_keeps d rise
fields_keep d rise V.Roll = roll_keeps d rise
fields_keep d rise V.Macro = macro_keeps d rise
fields_keep d rise V.Setmacro = setmacro_keeps d rise
fields_keep d rise V.Move = move_keeps d rise
fields_keep d rise V.Setprop = setprop_keeps d rise
fields_keep d rise V.Light = light_keeps d rise
fields_keep d rise V.Make = make_keeps d rise
fields_keep d rise V.Remove = remove_keeps d rise
fields_keep d rise V.Init = init_keeps d rise
fields_keep d rise V.Uninit = uninit_keeps d rise

map_keeps : (d : Data) → HasRisingKeys d → Keeps (gm_keys_of G.Map) d (map_in d)
unfolding map_in
map_keeps d rise = step (codes "name") refl (field_in tag_from (codes "name") d) _ (λ name _. step (codes "w") refl (field_in (number_from 1 96) (codes "w") d) _ (λ w is_w. step (codes "h") refl (field_in (number_from 1 96) (codes "h") d) _ (λ h is_h. last rise (C.Map name w h) ((of_field (IsNumber 1 96) (number_from 1 96) (number_keeps 1 96) (codes "w") d w is_w, of_field (IsNumber 1 96) (number_from 1 96) (number_keeps 1 96) (codes "h") d h is_h)))))

mode_keeps : (d : Data) → HasRisingKeys d → Keeps (gm_keys_of G.Mode) d (mode_in d)
unfolding mode_in
mode_keeps d rise = step (codes "map") refl (field_in tag_from (codes "map") d) _ (λ map _. step (codes "mode") refl (field_in mode_from (codes "mode") d) _ (λ mode _. last rise (C.Mode map mode) tt))

show_keeps : (d : Data) → HasRisingKeys d → Keeps (gm_keys_of G.Show) d (show_in d)
unfolding show_in
show_keeps d rise = step (codes "map") refl (field_in tag_from (codes "map") d) _ (λ map _. step (codes "on") refl (field_in as_bool (codes "on") d) _ (λ on _. last rise (C.Show map on) tt))

trail_keeps : (d : Data) → HasRisingKeys d → Keeps (gm_keys_of G.Trail) d (trail_in d)
unfolding trail_in
trail_keeps d rise = step (codes "map") refl (field_in tag_from (codes "map") d) _ (λ map _. step (codes "on") refl (field_in as_bool (codes "on") d) _ (λ on _. last rise (C.Trail map on) tt))

terrain_keeps : (d : Data) → HasRisingKeys d → Keeps (gm_keys_of G.Terrain) d (terrain_in d)
unfolding terrain_in
terrain_keeps d rise = step (codes "map") refl (field_in tag_from (codes "map") d) _ (λ map _. step (codes "rect") refl (field_in rect_from (codes "rect") d) _ (λ rect is_rect. step (codes "kind") refl (field_in letter_from (codes "kind") d) _ (λ kind is_kind. last rise (C.Terrain map rect kind) ((of_field IsRect rect_from rect_keeps (codes "rect") d rect is_rect, of_field IsLetter letter_from letter_keeps (codes "kind") d kind is_kind)))))

wall_keeps : (d : Data) → HasRisingKeys d → Keeps (gm_keys_of G.Wall) d (wall_in d)
unfolding wall_in
wall_keeps d rise = step (codes "map") refl (field_in tag_from (codes "map") d) _ (λ map _. step (codes "kind") refl (field_in wall_kind_from (codes "kind") d) _ (λ kind _. step (codes "a") refl (field_in place_from (codes "a") d) _ (λ a is_a. step (codes "b") refl (field_in place_from (codes "b") d) _ (λ b is_b. last rise (C.Wall map kind a b) ((of_field IsPlace place_from pair_keeps (codes "a") d a is_a, of_field IsPlace place_from pair_keeps (codes "b") d b is_b))))))

unwall_keeps : (d : Data) → HasRisingKeys d → Keeps (gm_keys_of G.Unwall) d (unwall_in d)
unfolding unwall_in
unwall_keeps d rise = step (codes "map") refl (field_in tag_from (codes "map") d) _ (λ map _. step (codes "kind") refl (field_in wall_kind_from (codes "kind") d) _ (λ kind _. step (codes "a") refl (field_in place_from (codes "a") d) _ (λ a is_a. step (codes "b") refl (field_in place_from (codes "b") d) _ (λ b is_b. last rise (C.Unwall map kind a b) ((of_field IsPlace place_from pair_keeps (codes "a") d a is_a, of_field IsPlace place_from pair_keeps (codes "b") d b is_b))))))

lighttype_keeps : (d : Data) → HasRisingKeys d → Keeps (gm_keys_of G.Lighttype) d (lighttype_in d)
unfolding lighttype_in
lighttype_keeps d rise = step (codes "name") refl (field_in tag_from (codes "name") d) _ (λ name _. step (codes "radius") refl (field_in (integer_from least_radius most_radius) (codes "radius") d) _ (λ radius is_radius. last rise (C.Lighttype name radius) (of_field (IsBetween least_radius most_radius) (integer_from least_radius most_radius) (integer_keeps least_radius most_radius) (codes "radius") d radius is_radius)))

sighttype_keeps : (d : Data) → HasRisingKeys d → Keeps (gm_keys_of G.Sighttype) d (sighttype_in d)
unfolding sighttype_in
sighttype_keeps d rise = step (codes "name") refl (field_in tag_from (codes "name") d) _ (λ name _. step (codes "range") refl (field_in (number_from 0 1000) (codes "range") d) _ (λ range is_range. step (codes "night") refl (field_in (number_from 0 1000) (codes "night") d) _ (λ night is_night. step (codes "mult") refl (field_in (number_from 0 1000) (codes "mult") d) _ (λ mult is_mult. last rise (C.Sighttype name range night mult) ((of_field (IsNumber 0 1000) (number_from 0 1000) (number_keeps 0 1000) (codes "range") d range is_range, of_field (IsNumber 0 1000) (number_from 0 1000) (number_keeps 0 1000) (codes "night") d night is_night, of_field (IsNumber 0 1000) (number_from 0 1000) (number_keeps 0 1000) (codes "mult") d mult is_mult))))))

token_keeps : (d : Data) → HasRisingKeys d → Keeps (gm_keys_of G.Token) d (token_in d)
unfolding token_in
token_keeps d rise = step (codes "tag") refl (field_in tag_from (codes "tag") d) _ (λ tag _. step (codes "map") refl (field_in tag_from (codes "map") d) _ (λ map _. step (codes "cell") refl (field_in place_from (codes "cell") d) _ (λ cell is_cell. step (codes "name") refl (field_in (text_from 1 40) (codes "name") d) _ (λ name is_name. step (codes "size") refl (field_or (pos 1) (number_from 1 4) (codes "size") d) _ (λ size is_size. step (codes "layer") refl (field_or Token layer_from (codes "layer") d) _ (λ layer _. last rise (C.Token tag map cell name size layer) ((of_field (IsText 1 40) (text_from 1 40) (text_keeps 1 40) (codes "name") d name is_name, of_field_or (IsNumber 1 4) (pos 1) (number_from 1 4) (record { at_least = omega arith; at_most = omega arith }) (number_keeps 1 4) (codes "size") d size is_size, of_field IsPlace place_from pair_keeps (codes "cell") d cell is_cell))))))))

own_keeps : (d : Data) → HasRisingKeys d → Keeps (gm_keys_of G.Own) d (own_in d)
unfolding own_in
own_keeps d rise = step (codes "token") refl (field_in id_from (codes "token") d) _ (λ token _. step (codes "seat") refl (field_in (whole_from 0 32) (codes "seat") d) _ (λ seat _. step (codes "on") refl (field_in as_bool (codes "on") d) _ (λ on _. last rise (C.Own token seat on) tt)))

layer_keeps : (d : Data) → HasRisingKeys d → Keeps (gm_keys_of G.Layer) d (layer_in d)
unfolding layer_in
layer_keeps d rise = step (codes "token") refl (field_in id_from (codes "token") d) _ (λ token _. step (codes "layer") refl (field_in layer_from (codes "layer") d) _ (λ layer _. last rise (C.Layer token layer) tt))

visible_keeps : (d : Data) → HasRisingKeys d → Keeps (gm_keys_of G.Visible) d (visible_in d)
unfolding visible_in
visible_keeps d rise = step (codes "token") refl (field_in id_from (codes "token") d) _ (λ token _. step (codes "on") refl (field_in as_bool (codes "on") d) _ (λ on _. last rise (C.Visible token on) tt))

sight_keeps : (d : Data) → HasRisingKeys d → Keeps (gm_keys_of G.Sight) d (sight_in d)
unfolding sight_in
sight_keeps d rise = step (codes "token") refl (field_in id_from (codes "token") d) _ (λ token _. step (codes "sight") refl (field_in (or_null tag_from) (codes "sight") d) _ (λ sight _. last rise (C.Sight token sight) tt))

place_keeps : (d : Data) → HasRisingKeys d → Keeps (gm_keys_of G.Place) d (place_in d)
unfolding place_in
place_keeps d rise = step (codes "token") refl (field_in id_from (codes "token") d) _ (λ token _. step (codes "map") refl (field_in tag_from (codes "map") d) _ (λ map _. step (codes "cell") refl (field_in place_from (codes "cell") d) _ (λ cell is_cell. last rise (C.Place token map cell) (of_field IsPlace place_from pair_keeps (codes "cell") d cell is_cell))))

secret_keeps : (d : Data) → HasRisingKeys d → Keeps (gm_keys_of G.Secret) d (secret_in d)
unfolding secret_in
secret_keeps d rise = step (codes "token") refl (field_in id_from (codes "token") d) _ (λ token _. step (codes "name") refl (field_in tag_from (codes "name") d) _ (λ name _. step (codes "value") refl (field_in (text_from 0 200) (codes "value") d) _ (λ value is_value. last rise (C.Secret token name value) (of_field (IsText 0 200) (text_from 0 200) (text_keeps 0 200) (codes "value") d value is_value))))

expose_keeps : (d : Data) → HasRisingKeys d → Keeps (gm_keys_of G.Expose) d (expose_in d)
unfolding expose_in
expose_keeps d rise = step (codes "seat") refl (field_in (whole_from 0 32) (codes "seat") d) _ (λ seat _. step (codes "map") refl (field_in tag_from (codes "map") d) _ (λ map _. step (codes "rect") refl (field_in rect_from (codes "rect") d) _ (λ rect is_rect. last rise (C.Expose seat map rect) (of_field IsRect rect_from rect_keeps (codes "rect") d rect is_rect))))

hide_keeps : (d : Data) → HasRisingKeys d → Keeps (gm_keys_of G.Hide) d (hide_in d)
unfolding hide_in
hide_keeps d rise = step (codes "seat") refl (field_in (whole_from 0 32) (codes "seat") d) _ (λ seat _. step (codes "map") refl (field_in tag_from (codes "map") d) _ (λ map _. step (codes "rect") refl (field_in rect_from (codes "rect") d) _ (λ rect is_rect. last rise (C.Hide seat map rect) (of_field IsRect rect_from rect_keeps (codes "rect") d rect is_rect))))

turn_keeps : (d : Data) → HasRisingKeys d → Keeps (gm_keys_of G.Turn) d (turn_in d)
unfolding turn_in
turn_keeps d rise = last rise C.Turn tt

endfight_keeps : (d : Data) → HasRisingKeys d → Keeps (gm_keys_of G.Endfight) d (endfight_in d)
unfolding endfight_in
endfight_keeps d rise = last rise C.Endfight tt

dump_keeps : (d : Data) → HasRisingKeys d → Keeps (gm_keys_of G.Dump) d (dump_in d)
unfolding dump_in
dump_keeps d rise = last rise C.Dump tt

gm_fields_keep : (d : Data) → HasRisingKeys d → (verb : GmVerb) → Keeps (gm_keys_of verb) d (gm_fields_in d verb)
unfolding gm_fields_in
gm_fields_keep d rise G.Map = map_keeps d rise
gm_fields_keep d rise G.Mode = mode_keeps d rise
gm_fields_keep d rise G.Show = show_keeps d rise
gm_fields_keep d rise G.Trail = trail_keeps d rise
gm_fields_keep d rise G.Terrain = terrain_keeps d rise
gm_fields_keep d rise G.Wall = wall_keeps d rise
gm_fields_keep d rise G.Unwall = unwall_keeps d rise
gm_fields_keep d rise G.Lighttype = lighttype_keeps d rise
gm_fields_keep d rise G.Sighttype = sighttype_keeps d rise
gm_fields_keep d rise G.Token = token_keeps d rise
gm_fields_keep d rise G.Own = own_keeps d rise
gm_fields_keep d rise G.Layer = layer_keeps d rise
gm_fields_keep d rise G.Visible = visible_keeps d rise
gm_fields_keep d rise G.Sight = sight_keeps d rise
gm_fields_keep d rise G.Place = place_keeps d rise
gm_fields_keep d rise G.Secret = secret_keeps d rise
gm_fields_keep d rise G.Expose = expose_keeps d rise
gm_fields_keep d rise G.Hide = hide_keeps d rise
gm_fields_keep d rise G.Turn = turn_keeps d rise
gm_fields_keep d rise G.Endfight = endfight_keeps d rise
gm_fields_keep d rise G.Dump = dump_keeps d rise

-- ---- lines

-- a command keeps its limits, and a fault names a key of the value
record Tells (d : Data) (result : Result Command LineFault) : Type 0 where
  kept : Kept result
  named : (key : List ℕ) → result ≡ Err (BadField key) → IsSomeAnd (keys_in d) (λ keys. IsBadKeyOf keys d key)

no_key : (d : Data) (result : Result Command LineFault) → Kept result → ((key : List ℕ) → result ≢ Err (BadField key)) → Tells d result
no_key d result kept none = record { kept = kept; named = λ key is. absurd (none key is) }

of_keys : (keys : List (List ℕ)) (d : Data) (result : Result Command LineFault) → keys_in d ≡ Some keys → Keeps keys d result → Tells d result
of_keys keys d result is keeps = record {
  kept = keeps.kept;
  named = λ key e. subst (λ o. IsSomeAnd o (λ names. IsBadKeyOf names d key)) (sym is) (subst (Named keys d) e keeps.named);
}

by_gm_verb_tells : (d : Data) → HasRisingKeys d → (gm : Bool) (verb : Option GmVerb) → word_in (codes "do") verbs d ≡ None → word_in (codes "do") gm_verbs d ≡ verb → Tells d (by_gm_verb d gm verb)
by_gm_verb_tells d rise gm None other is = no_key d (Err BadCommand) tt (λ key e. cc)
by_gm_verb_tells d rise true (Some verb) other is =
    of_keys (gm_keys_of verb) d (gm_fields_in d verb) (λ i. option_or (option_map keys_of (other i)) (option_map gm_keys_of (is i))) (gm_fields_keep d rise verb)
by_gm_verb_tells d rise false (Some verb) other is = no_key d (Err GmOnly) tt (λ key e. cc)

by_verb_tells : (d : Data) → HasRisingKeys d → (gm : Bool) (verb : Option Verb) → word_in (codes "do") verbs d ≡ verb → Tells d (by_verb d gm verb)
by_verb_tells d rise gm None is = by_gm_verb_tells d rise gm (word_in (codes "do") gm_verbs d) is refl
by_verb_tells d rise gm (Some verb) is =
    of_keys (keys_of verb) d (fields_in d verb) (ap (λ o. option_or (option_map keys_of o) (option_map gm_keys_of (word_in (codes "do") gm_verbs d))) is) (fields_keep d rise verb)

command_tells : (d : Data) → HasRisingKeys d → (gm : Bool) → Tells d (command_in d gm)
unfolding command_in
command_tells d rise gm = by_verb_tells d rise gm (word_in (codes "do") verbs d) refl

record TellsOf (bytes : List ℕ) (result : Result Command LineFault) : Type 0 where
  kept : Kept result
  named : (key : List ℕ) → result ≡ Err (BadField key) → NamesBadKey bytes (BadField key)

of_value_tells : (bytes : List ℕ) (gm : Bool) (value : Option Data) → value_of bytes ≡ value → TellsOf bytes (of_value gm value)
of_value_tells bytes gm None is = record { kept = tt; named = λ key e. cc }
of_value_tells bytes gm (Some d) is =
    let tells = command_tells d (rising_keys bytes d is) gm in
    record { kept = tells.kept; named = λ key e. subst (λ o. IsSomeAnd o (λ value. IsSomeAnd (keys_in value) (λ keys. IsBadKeyOf keys value key))) (sym is) (tells.named key e) }

line_tells : (bytes : List ℕ) (gm : Bool) → TellsOf bytes (command_of bytes gm)
unfolding command_of
line_tells bytes gm = of_value_tells bytes gm (value_of bytes) refl

-- the command that a line is keeps its limits
pub keeps_limits : (bytes : List ℕ) (gm : Bool) (command : Command) → command_of bytes gm ≡ Ok command → IsCommand command
keeps_limits bytes gm command h = subst Kept h (line_tells bytes gm).kept

-- so does what a reader gives
pub given_keeps : (bytes : List ℕ) (gm : Bool) (given : Result Command LineFault) → Gives Fails (λ c. c) given (command_of bytes gm) → IfOk given IsCommand
given_keeps bytes gm (Err fault) h = tt
given_keeps bytes gm (Ok command) h = by (command_of bytes gm) (line_tells bytes gm).kept h
  where
    by : (r : Result Command LineFault) → Kept r → Gives Fails (λ c. c) (Ok command) r → IsCommand command
    by (Ok read) keeps e = let same : read ≡ command = cc in subst IsCommand same keeps
    by (Err Memory) keeps e = absurd keeps
    by (Err BadJson) keeps e = cc
    by (Err BadCommand) keeps e = cc
    by (Err GmOnly) keeps e = cc
    by (Err (BadField name)) keeps e = cc

-- the key that it names is one of a field, or the least unknown one
pub given_names : (bytes : List ℕ) (gm : Bool) (given : Result Command LineFault) → Gives Fails (λ c. c) given (command_of bytes gm) → IfErr given (NamesBadKey bytes)
given_names bytes gm (Ok command) h = tt
given_names bytes gm (Err BadJson) h = tt
given_names bytes gm (Err BadCommand) h = tt
given_names bytes gm (Err GmOnly) h = tt
given_names bytes gm (Err Memory) h = tt
given_names bytes gm (Err (BadField key)) h = (line_tells bytes gm).named key h
