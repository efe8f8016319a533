-- Seats that were written are read.
use Rattle.std.proofs.Common.{◌≡◌, ℕ, zero, suc, ◌-◌, ◌/◌, ◌%◌, ◌≤◌, ◌<◌, List, [], ◌∷◌, ◌++◌, length, get_or, map, Some, Result, Ok, Err, refl, sym, ap, arith, true, false, Bool, ◌&&◌, nat_le, subst}
use Rattle.std.specs.Prelude.{codes, ◌^◌, slice_index, is_ok}
use Rattle.std.specs.List.{AllByRecursion, IsDistinct, list_all}
use Rattle.std.specs.Str.{bytes_eq}
use Rattle.std.specs.Cmp.Lexicographic.{nat_list_cmp_total}
use Rattle.std.specs.FinMap.Entries.{is_sorted}
use Rattle.names.specs.Tag.{tag_cmp}
use Rattle.std.proofs.lemmas.Bool.Decides.{nat_tests}
use Rattle.std.proofs.Math.Nat.{mod-lt, div-lt_iff_lt-mul}
use Rattle.hex.specs.Hex.{encode_lower, encode_with, lower_digits, IsBytes}
use Rattle.hex.proofs.HexLemmas.{decode_sized-encode_lower, length-encode_with}
use Rattle.seats.specs.Book.{Book, drawn_limit, fresh_book, most_tags, tag_used}
use Rattle.maps.proofs.NameLemmas.{and_first, and_second, both}
use Rattle.serde_json.specs.Data.{Data, string}
use Rattle.serde_json.specs.Find.{get}
use Rattle.serde_json.specs.View.{items_of}
use Rattle.world.specs.Scene.{Scene}
use Rattle.campaign_json.specs.Reading.{under}
use Rattle.campaign_json.specs.Kinds as kinds
use Rattle.campaign_writing.specs.Kept.{IsTag}
use Rattle.campaign_writing.proofs.Writable.{IsBookOf, IsMacro}
use Rattle.campaign_writing.specs.Trees.{whole, list, named}
use Rattle.campaign_writing.specs.Canonical.{macros_tree, seat_tree, reopened_book}
use Rattle.campaign_scene.specs.Fog.{fog}
use Rattle.macro_grammar.specs.Tree.{Piece}
use Rattle.macro_parse.specs.declared.texts.MacroParseFault.{MacroParseFault}
use Rattle.macro_parse.specs.Answers.{macro_of}
use Rattle.type_table.specs.Types.{lacks_room}
use Rattle.campaign_file.specs.Macros.{macros, spelled, with_read}
use Rattle.campaign_file.specs.Seats as read
use Rattle.campaign_writing.proofs.Parts.{field_reads, each_reads, list_reads, members_read, members_reads, whole_reads, text_reads}
use Rattle.campaign_writing.proofs.Orders.{between, fewer, lesser_entries, put_last, room_left}
use Rattle.campaign_writing.proofs.Types.{has_room, tag_is}

-- ---- seeds

at_digit : (p : ℕ → Bool) (xs : List ℕ) (i : ℕ) → list_all p xs ≡ true → i < length xs → p (get_or xs i 0) ≡ true
at_digit p [] i h lt = absurd (omega arith)
at_digit p (x ∷ xs) zero h lt = and_first (p x) (list_all p xs) h
at_digit p (x ∷ xs) (suc i) h lt = at_digit p xs i (and_second (p x) (list_all p xs) h) (omega arith)

lower_digit : (k : ℕ) → k < 16 → kinds.is_lower_hex (slice_index lower_digits k) ≡ true
lower_digit k lt = at_digit kinds.is_lower_hex lower_digits k refl (omega (arith, lt))

all_lower : (bytes : List ℕ) → IsBytes bytes → list_all kinds.is_lower_hex (encode_lower bytes) ≡ true
unfolding encode_with
all_lower [] are = refl
all_lower (b ∷ bytes) are =
    let small : b < 256 = are 0 in
    let some : 0 < 16 = omega arith in
    both _ _ (lower_digit (b / 16) ((div-lt_iff_lt-mul some).1 (omega (arith, small)))) (both _ _ (lower_digit (b % 16) (mod-lt b some)) (all_lower bytes (λ i. are (suc i))))

pub seed_reads : (bytes : List ℕ) → length bytes ≡ 32 → IsBytes bytes → kinds.seed (string (encode_lower bytes)) ≡ Ok bytes
unfolding kinds.seed kinds.seed_of
seed_reads bytes count are =
    let len = length-encode_with lower_digits bytes in
    let fits : (nat_le 64 (length (encode_lower bytes)) && nat_le (length (encode_lower bytes)) 64) ≡ true = grind (arith, nat_tests, len, count) in
    rw (text_reads 64 64 (encode_lower bytes) fits, all_lower bytes are, decode_sized-encode_lower bytes 32 count are) refl

-- ---- tags

-- the tag is none of those before
abbrev pub IsUnused : List ℕ → List (List ℕ) → Type 0
IsUnused tag done = AllByRecursion (λ other. bytes_eq other tag ≡ false) done

differs_mid : (tag : List ℕ) (done : List (List ℕ)) (x : List ℕ) (left : List (List ℕ)) → AllByRecursion (λ other. bytes_eq tag other ≡ false) (done ++ x ∷ left) → bytes_eq tag x ≡ false
differs_mid tag [] x left h = h.0
differs_mid tag (y ∷ done) x left h = differs_mid tag done x left h.1

distinct_split : (done : List (List ℕ)) (x : List ℕ) (left : List (List ℕ)) → IsDistinct bytes_eq (done ++ x ∷ left) → IsUnused x done
unfolding IsDistinct
distinct_split [] x left h = tt
distinct_split (y ∷ done) x left h = (differs_mid y done x left h.0, distinct_split done x left h.1)

not_used : (tag : List ℕ) (done : List (List ℕ)) → IsUnused tag done → tag_used done tag ≡ false
not_used tag [] h = refl
not_used tag (y ∷ done) h = rw h.0 (not_used tag done h.1)

module _ (b : Book) (are : AllByRecursion IsTag b.tags) (few : length b.tags ≤ most_tags b.seat) (distinct : IsDistinct bytes_eq b.tags) where
  abbrev tagged : List (List ℕ) → Book
  tagged done = record (fresh_book b.seat b.key b.seed b.drawn) { tags = done }

  tag_reads : (done : List (List ℕ)) (x : List ℕ) (left : List (List ℕ)) → done ++ x ∷ left ≡ b.tags → read.used_tag (tagged done) (string x) ≡ Ok (tagged (done ++ x ∷ []))
  unfolding read.used_tag
  tag_reads done x left e =
      let new = distinct_split done x left (subst (IsDistinct bytes_eq) (sym e) distinct) in
      rw (tag_is x (between IsTag done x left b.tags e are), not_used x done new, room_left (length done) (most_tags b.seat) (fewer done x left b.tags (most_tags b.seat) e few)) refl

  pub tags_read : (d : Data) → get (codes "tags") d ≡ Some (list (map string b.tags)) → read.tags (fresh_book b.seat b.key b.seed b.drawn) d ≡ Ok (tagged b.tags)
  unfolding read.tags
  tags_read d at =
      rw (field_reads (codes "tags") (kinds.list 0 (most_tags b.seat)) d (list (map string b.tags)) (items_of (map string b.tags)) at (list_reads 0 (most_tags b.seat) string b.tags (omega arith) few))
      (ap (under (codes "tags")) (each_reads tagged b.tags (λ place. read.used_tag) string tag_reads))

-- ---- macros

spelled_so : (r : Result (List Piece) MacroParseFault) → is_ok r ≡ true → spelled r ≡ Ok tt
spelled_so (Ok pieces) h = refl
spelled_so (Err fault) h = absurd cc

module _ (b : Book) (are : AllByRecursion IsMacro b.macros) (few : length b.macros ≤ 32) (sorted : is_sorted tag_cmp b.macros ≡ true) where
  abbrev filled : List (List ℕ × List ℕ) → Book
  filled done = record (fresh_book b.seat b.key b.seed b.drawn) { tags = b.tags; macros = done }

  macro_reads : (done : List (List ℕ × List ℕ)) (x : List ℕ × List ℕ) (left : List (List ℕ × List ℕ)) → done ++ x ∷ left ≡ b.macros → with_read x.0 (filled done) (string x.1) ≡ Ok (filled (done ++ x ∷ []))
  unfolding with_read
  macro_reads done x left e =
      let is = between IsMacro done x left b.macros e are in
      let short : nat_le (length x.1) 2000 ≡ true = and_first _ _ is.1 in
      let fits : (nat_le 0 (length x.1) && nat_le (length x.1) 2000) ≡ true = grind (arith, nat_tests, short) in
      let room : lacks_room x.0 done ≡ false = has_room _ (length done) (fewer done x left b.macros 32 e few) in
      rw (tag_is x.0 is.0, text_reads 0 2000 x.1 fits, spelled_so (macro_of x.1) (and_second (nat_le (length x.1) 2000) _ is.1), room)
      (ap (λ macros. Ok (filled macros)) (put_last tag_cmp nat_list_cmp_total x done (lesser_entries tag_cmp done x left b.macros e sorted)))

  pub macros_read : (d : Data) → get (codes "macros") d ≡ Some (macros_tree b.macros) → macros (filled []) d ≡ Ok (filled b.macros)
  unfolding macros
  macros_read d at =
      rw (field_reads (codes "macros") (kinds.members 32) d (macros_tree b.macros) (named string b.macros) at (members_reads 32 string b.macros few))
      (ap (under (codes "macros")) (members_read filled b.macros with_read string macro_reads))

-- ---- whole seats

drawn_fits : (n : ℕ) → n < 2 ^ 62 → (nat_le 0 n && nat_le n (2 ^ 62 - 1)) ≡ true
drawn_fits n lt = grind (arith, nat_tests)

pub seat_reads : (whole_scene before after : Scene) (b : Book) → IsBookOf b → fog b.seat before (seat_tree whole_scene b) ≡ Ok after → read.seat b.seat before (seat_tree whole_scene b) ≡ Ok (reopened_book b, after)
unfolding read.seat read.seat_book seat_tree
seat_reads whole_scene before after b is exposed =
    rw (
      field_reads (codes "key") (kinds.text 1 64) (seat_tree whole_scene b) (string b.key) b.key refl (text_reads 1 64 b.key is.key),
      field_reads (codes "seed") kinds.seed (seat_tree whole_scene b) (string (encode_lower b.seed)) b.seed refl (seed_reads b.seed is.seed is.bytes),
      field_reads (codes "drawn") (kinds.whole 0 (drawn_limit - 1)) (seat_tree whole_scene b) (whole b.drawn) b.drawn refl (whole_reads 0 (drawn_limit - 1) b.drawn (omega arith) (drawn_fits b.drawn is.drawn)),
      tags_read b is.tags is.few is.distinct (seat_tree whole_scene b) refl,
      macros_read b is.macros is.few_macros is.macros_ordered (seat_tree whole_scene b) refl,
      exposed,
    ) refl
