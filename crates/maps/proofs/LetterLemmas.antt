-- The letters of a map after a rectangle of them is set.
use Rattle.std.proofs.Common.{◌≡◌, ◌≢◌, ℕ, ◌+◌, ◌*◌, ◌/◌, ◌%◌, ◌<◌, ◌≤◌, Bool, true, false, cond, List, ◌++◌, length, get_or, set, take, drop, append-nil, ap, sym, ◌∙◌, arith, inl, inr, get_or-set_other, get_or-set_same, min}
use Rattle.std.specs.Prelude.{All, IsTrue}
use Rattle.std.proofs.lemmas.Bool.{cases_eq, cases_lt, cond-false}
use Rattle.std.proofs.lemmas.Bool.Decides.{nat_tests}
use Rattle.std.proofs.Math.Nat.{le-div_iff_mul-le}
use Rattle.std.proofs.lemmas.List.{drop_all, get_or_default, same_lists, take_all}
use Rattle.std.proofs.lemmas.List.Elements.{All-from_get_or, All-get_or}
use Rattle.std.proofs.lemmas.List.FromFn.{get_or-map-range_with_len, length-map-range_with_len}
use Rattle.std.proofs.lemmas.Nat.{div-add-mod', div-mul-add, mod-mul-add, mul-add-lt}
use Rattle.cells.specs.Cells.{Extent}
use Rattle.cells.specs.declared.cell.Rect.{Rect}
use Rattle.names.specs.Letters.{is_letter}
use Rattle.cells.specs.Rects.{is_in}
use Rattle.maps.specs.Letters.{letter_of, letters_where, with_rect}
use Rattle.maps.specs.Maps.{Grid, IsMap, SetsLetters, with_letters}

-- the letter of the cell (x, y), of letters that are told cell by cell
pub letter_of-letters_where : (size : Extent) (f : ℕ → ℕ → ℕ) (x y : ℕ) → x < size.w → y < size.h → letter_of size (letters_where size f) x y ≡ f x y
letter_of-letters_where size f x y column row =
    get_or-map-range_with_len (λ place. f (place % size.w) (place / size.w)) 0 (size.h * size.w) (y * size.w + x) (y * size.w + x) 0
    (omega (arith, mul-add-lt y size.w x size.h row column)) (omega arith)
    ∙ (λ i. f (mod-mul-add y size.w x column i) (div-mul-add y size.w x column i))

-- the letter of each cell, after a rectangle of them is set
pub letter_of-with_rect : (size : Extent) (rect : Rect) (letter : ℕ) (letters : List ℕ) (x y : ℕ) → x < size.w → y < size.h
    → letter_of size (with_rect size rect letter letters) x y ≡ cond (is_in rect x y) letter (letter_of size letters x y)
letter_of-with_rect size rect letter letters x y column row =
    letter_of-letters_where size (λ x y. cond (is_in rect x y) letter (letter_of size letters x y)) x y column row

-- ---- the places, in turn

-- the cell at the place is in the rectangle
abbrev pub is_in_at : Extent → Rect → ℕ → Bool
is_in_at size rect place = is_in rect (place % size.w) (place / size.w)

-- the letters up to a place are set, and the others are as before
pub record AreSetBefore (size : Extent) (rect : Rect) (letter : ℕ) (old now : List ℕ) (place : ℕ) : Type 0 where
  pub before : (k : ℕ) → k < place → get_or now k 0 ≡ cond (is_in_at size rect k) letter (get_or old k 0)
  pub after : (k : ℕ) → place ≤ k → get_or now k 0 ≡ get_or old k 0

pub set_next : (size : Extent) (rect : Rect) (letter : ℕ) (old now : List ℕ) (place : ℕ) → place < length now
    → AreSetBefore size rect letter old now place → true ≡ is_in_at size rect place → AreSetBefore size rect letter old (set now place letter) (place + 1)
set_next size rect letter old now place within are here = record {
  before = λ k h. elim (cases_eq k place) [
    | inl same ↦
        ap (λ n. get_or (set now place letter) n 0) same ∙ get_or-set_same now place letter 0 within
        ∙ ap (λ t. cond t letter (get_or old k 0)) (here ∙ ap (is_in_at size rect) (sym same))
    | inr ne ↦ rw (get_or-set_other now place k letter 0 ne) (are.before k (omega arith))
  ];
  after = λ k h. let ne : k ≢ place = omega arith in rw (get_or-set_other now place k letter 0 ne) (are.after k (omega arith));
}

pub pass_next : (size : Extent) (rect : Rect) (letter : ℕ) (old now : List ℕ) (place : ℕ)
    → AreSetBefore size rect letter old now place → false ≡ is_in_at size rect place → AreSetBefore size rect letter old now (place + 1)
pass_next size rect letter old now place are here = record {
  before = λ k h. elim (cases_eq k place) [
    | inl same ↦ are.after k (omega arith) ∙ ap (λ t. cond t letter (get_or old k 0)) (here ∙ ap (is_in_at size rect) (sym same))
    | inr ne ↦ are.before k (omega arith)
  ];
  after = λ k h. are.after k (omega arith);
}

with_rect_at : (size : Extent) (rect : Rect) (letter : ℕ) (old : List ℕ) (place : ℕ) → place < size.h * size.w
    → get_or (with_rect size rect letter old) place 0 ≡ cond (is_in_at size rect place) letter (get_or old place 0)
with_rect_at size rect letter old place within =
    get_or-map-range_with_len (λ k. cond (is_in_at size rect k) letter (letter_of size old (k % size.w) (k / size.w))) 0 (size.h * size.w) place place 0 within (omega arith)
    ∙ ap (λ n. cond (is_in_at size rect place) letter (get_or old n 0)) (div-add-mod' place size.w)

pub length-with_rect : (size : Extent) (rect : Rect) (letter : ℕ) (old : List ℕ) → length (with_rect size rect letter old) ≡ size.h * size.w
length-with_rect size rect letter old =
    length-map-range_with_len (λ k. cond (is_in_at size rect k) letter (letter_of size old (k % size.w) (k / size.w))) 0 (size.h * size.w)

all_set : (size : Extent) (rect : Rect) (letter : ℕ) (old now : List ℕ) → length now ≡ size.h * size.w
    → ((k : ℕ) → k < length now → get_or now k 0 ≡ cond (is_in_at size rect k) letter (get_or old k 0)) → now ≡ with_rect size rect letter old
all_set size rect letter old now count are =
    same_lists now (with_rect size rect letter old) (count ∙ sym (length-with_rect size rect letter old))
    (λ k d h.
    get_or_default now k d 0 h ∙ are k h ∙ sym (with_rect_at size rect letter old k (omega arith))
    ∙ get_or_default (with_rect size rect letter old) k 0 d (omega (arith, length-with_rect size rect letter old)))

-- ---- the rows of the rectangle alone

-- no cell of a row below is in the rectangle
below_is_out : (rect : Rect) (x y : ℕ) → rect.y + rect.h ≤ y → is_in rect x y ≡ false
below_is_out rect x y h = grind (arith, nat_tests)

-- behind the rectangle's last row nothing is to be set
pub ends_at_rows : (size : Extent) (rect : Rect) (letter : ℕ) (old now : List ℕ) (place end : ℕ) → 0 < size.w → length now ≡ size.h * size.w
    → end ≡ min (length now) ((rect.y + rect.h) * size.w) → end ≤ place
    → AreSetBefore size rect letter old now place → now ≡ with_rect size rect letter old
ends_at_rows size rect letter old now place end wide count is far are =
    all_set size rect letter old now count
    (λ k h. elim (cases_lt k place) [
      | inl before ↦ are.before k before
      | inr past ↦
          are.after k past
          ∙ sym (cond-false (is_in_at size rect k) letter (get_or old k 0) (below_is_out rect (k % size.w) (k / size.w) ((le-div_iff_mul-le wide).1 (omega arith))))
    ])

-- ---- letters stay letters

pub are_letters : (size : Extent) (rect : Rect) (letter : ℕ) (old : List ℕ) → length old ≡ size.h * size.w → IsTrue (is_letter letter)
    → All (λ l. IsTrue (is_letter l)) old → All (λ l. IsTrue (is_letter l)) (with_rect size rect letter old)
are_letters size rect letter old count good all =
    All-from_get_or (λ l. IsTrue (is_letter l)) (with_rect size rect letter old) 0
    (λ k h.
    let within : k < size.h * size.w = omega (arith, length-with_rect size rect letter old) in
    rw (with_rect_at size rect letter old k within)
    (either (is_in_at size rect k) (get_or old k 0) (All-get_or (λ l. IsTrue (is_letter l)) old k 0 (omega arith) all)))
  where
    either : (t : Bool) (l : ℕ) → IsTrue (is_letter l) → IsTrue (is_letter (cond t letter l))
    either true l h = good
    either false l h = h

pub IsMap-with_letters : (m : Grid) (rect : Rect) (letter : ℕ) → IsTrue (is_letter letter) → IsMap m → IsMap (with_letters rect letter m)
IsMap-with_letters m rect letter good is = record {
  size = is.size;
  count = length-with_rect m.walls.extent rect letter m.letters;
  letters = are_letters m.walls.extent rect letter m.letters is.count good is.letters;
}

-- letters that are written back over the old ones
pub written_back : (size extent : Extent) (rect : Rect) (letter count : ℕ) (old seen new : List ℕ) → count ≡ length old → seen ≡ old → size ≡ extent
    → length old ≡ extent.h * extent.w → new ≡ with_rect size rect letter seen
    → take count (new ++ drop (length new) old) ≡ with_rect extent rect letter old
written_back size extent rect letter count old seen new len same fits area is =
    ap (λ (ls : List ℕ). take count (new ++ ls)) (drop_all (length new) old (omega (arith, long)))
    ∙ ap (take count) (append-nil new) ∙ take_all count new (omega (arith, long)) ∙ whole
  where
    whole : new ≡ with_rect extent rect letter old
    whole = is ∙ (λ i. with_rect (fits i) rect letter (same i))

    long : length new ≡ count
    long = ap length whole ∙ length-with_rect extent rect letter old ∙ sym area ∙ sym len

pub SetsLetters-with_letters : (rect : Rect) (letter : ℕ) (m : Grid) → SetsLetters rect letter m (with_letters rect letter m)
SetsLetters-with_letters rect letter m = record {
  inside = λ x y column row e.
      letter_of-with_rect m.walls.extent rect letter m.letters x y column row ∙ ap (λ t. cond t letter (letter_of m.walls.extent m.letters x y)) e;
  outside = λ x y column row e.
      letter_of-with_rect m.walls.extent rect letter m.letters x y column row ∙ ap (λ t. cond t letter (letter_of m.walls.extent m.letters x y)) e;
}
