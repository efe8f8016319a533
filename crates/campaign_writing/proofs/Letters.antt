-- The letters of a map that was written are read.
use Rattle.std.proofs.Common.{◌≡◌, ℕ, zero, suc, ◌+◌, ◌*◌, ◌/◌, ◌%◌, ◌≤◌, ◌<◌, List, [], ◌∷◌, ◌++◌, length, get_or, map, Some, Ok, refl, sym, ap, ◌∙◌, arith, true, false, Bool, ◌&&◌, ◌||◌, cond, nat_le, decimal}
use Rattle.std.specs.Prelude.{codes, nat_lt, nat_eq, replicate, IsTrue}
use Rattle.std.specs.List.{AllByRecursion, list_all, range_with_len}
use Rattle.std.specs.Str.{bytes_eq}
use Rattle.std.proofs.lemmas.Bool.Decides.{nat_tests}
use Rattle.std.proofs.lemmas.List.{get_or_default, same_lists}
use Rattle.std.proofs.lemmas.List.Elements.{All-get_or}
use Rattle.std.proofs.lemmas.List.FromFn.{get_or-map-range_with_len, length-map-range_with_len}
use Rattle.std.proofs.lemmas.Nat.{div-add-mod', mul-add-lt}
use Rattle.std.proofs.Math.Nat.{mod-lt, div-lt_iff_lt-mul}
use Rattle.cells.specs.Cells.{Extent, IsSize}
use Rattle.names.specs.Letters.{blank, is_letter}
use Rattle.cells.specs.Rects.{is_in}
use Rattle.maps.specs.Letters.{letter_of, letters_where}
use Rattle.maps.specs.Maps.{Grid, IsMap, changed, map_of, with_letters}
use Rattle.maps.proofs.LetterLemmas.{letter_of-letters_where}
use Rattle.maps.proofs.NameLemmas.{both}
use Rattle.serde_json.specs.Data.{Data, string}
use Rattle.serde_json.specs.Find.{get}
use Rattle.serde_json.specs.View.{items_of}
use Rattle.json_fields.specs.Objects.{◌>>=◌}
use Rattle.world.specs.Scene.{Scene}
use Rattle.campaign_json.specs.Reading.{under, each}
use Rattle.campaign_json.specs.Kinds as kinds
use Rattle.campaign_writing.specs.Scenes.{rows_tree, row_letters}
use Rattle.campaign_scene.specs.Maps as read
use Rattle.campaign_writing.proofs.Parts.{field_reads, list_reads, text_reads}

-- ---- a map that stands last, under a name that none before has

abbrev pub IsNew : List ℕ → List Grid → Type 0
IsNew name done = AllByRecursion (λ m. bytes_eq m.name name ≡ false) done

pub last_changed : (name : List ℕ) (f : Grid → Grid) (done : List Grid) (m : Grid) → IsNew name done → bytes_eq m.name name ≡ true → changed name f (done ++ m ∷ []) ≡ done ++ f m ∷ []
last_changed name f [] m new is = rw is refl
last_changed name f (y ∷ done) m new is = rw new.0 (ap (λ rest. y ∷ rest) (last_changed name f done m new.1 is))

pub last_found : (name : List ℕ) (done : List Grid) (m : Grid) → IsNew name done → bytes_eq m.name name ≡ true → map_of name (done ++ m ∷ []) ≡ Some m
last_found name [] m new is = rw is refl
last_found name (y ∷ done) m new is = rw new.0 (last_found name done m new.1 is)

-- ---- lists of letters by places

map_alike : {A : Type 0} (f g : ℕ → A) (k n : ℕ) → ((i : ℕ) → k ≤ i → i < k + n → f i ≡ g i) → map f (range_with_len k n) ≡ map g (range_with_len k n)
map_alike f g k zero h = refl
map_alike f g k (suc n) h = λ i. h k (omega arith) (omega arith) i ∷ map_alike f g (k + 1) n (λ j low high. h j (omega (arith, low)) (omega (arith, high))) i

letters_alike : (size : Extent) (f g : ℕ → ℕ → ℕ) → IsSize size → ((u v : ℕ) → u < size.w → v < size.h → f u v ≡ g u v) → letters_where size f ≡ letters_where size g
letters_alike size f g is h =
    map_alike (λ p. f (p % size.w) (p / size.w)) (λ p. g (p % size.w) (p / size.w)) 0 (size.h * size.w)
    (λ p low high.
    let some : 0 < size.w = omega (arith, is.w_low) in
    h (p % size.w) (p / size.w) (mod-lt p some) ((div-lt_iff_lt-mul some).1 (omega (arith, high))))

all_told : (size : Extent) (letters : List ℕ) → length letters ≡ size.h * size.w → letters_where size (letter_of size letters) ≡ letters
all_told size letters count =
    same_lists (letters_where size (letter_of size letters)) letters (length-map-range_with_len (λ p. letter_of size letters (p % size.w) (p / size.w)) 0 (size.h * size.w) ∙ sym count)
    (λ k d h.
    let within : k < size.h * size.w = omega (arith, h, length-map-range_with_len (λ p. letter_of size letters (p % size.w) (p / size.w)) 0 (size.h * size.w)) in
    get_or-map-range_with_len (λ p. letter_of size letters (p % size.w) (p / size.w)) 0 (size.h * size.w) k k d within (omega arith)
    ∙ ap (λ n. get_or letters n 0) (div-add-mod' k size.w)
    ∙ get_or_default letters k 0 d (omega (arith, within, count)))

none_told : (size : Extent) → letters_where size (λ u v. blank) ≡ replicate (size.h * size.w) blank
none_told size = here 0 (size.h * size.w)
  where
    here : (k n : ℕ) → map (λ p. blank) (range_with_len k n) ≡ replicate n blank
    here k zero = refl
    here k (suc n) = ap (λ l. blank ∷ l) (here (k + 1) n)

-- ---- row after row, letter after letter

module _ (name : List ℕ) (m : Grid) (is : IsMap m) (same : bytes_eq m.name name ≡ true) (done : List Grid) (new : IsNew name done) (s : Scene) where
  abbrev size : Extent
  size = m.walls.extent

  -- up to the cell (x, y) the letters are the map's, and the others are .
  abbrev told : ℕ → ℕ → ℕ → ℕ → ℕ
  told y x u v = cond (nat_lt v y || (nat_eq v y && nat_lt u x)) (letter_of m.walls.extent m.letters u v) blank

  abbrev pub laid : ℕ → ℕ → Grid
  laid y x = record m { letters = letters_where m.walls.extent (told y x) }

  abbrev pub at_cell : ℕ → ℕ → Scene
  at_cell y x = record s { maps = done ++ laid y x ∷ [] }

  next_letter : (x y u v : ℕ) (f : ℕ → ℕ → ℕ) → cond (is_in (read.cell_rect y x) u v) (f x y) (cond (nat_lt v y || (nat_eq v y && nat_lt u x)) (f u v) blank) ≡ cond (nat_lt v y || (nat_eq v y && nat_lt u (x + 1))) (f u v) blank
  next_letter x y u v f = by (is_in (read.cell_rect y x) u v) refl
    where
      behind : (x y u v : ℕ) → is_in (read.cell_rect y x) u v ≡ false → (nat_lt v y || (nat_eq v y && nat_lt u x)) ≡ (nat_lt v y || (nat_eq v y && nat_lt u (x + 1)))
      behind x y u v e = grind (arith, nat_tests)

      column : (x y u v : ℕ) → is_in (read.cell_rect y x) u v ≡ true → x ≡ u
      column x y u v e = grind (arith, nat_tests)

      row : (x y u v : ℕ) → is_in (read.cell_rect y x) u v ≡ true → y ≡ v
      row x y u v e = grind (arith, nat_tests)

      reached : (x y u v : ℕ) → is_in (read.cell_rect y x) u v ≡ true → (nat_lt v y || (nat_eq v y && nat_lt u (x + 1))) ≡ true
      reached x y u v e = grind (arith, nat_tests)

      by : (b : Bool) → is_in (read.cell_rect y x) u v ≡ b → cond b (f x y) (cond (nat_lt v y || (nat_eq v y && nat_lt u x)) (f u v) blank) ≡ cond (nat_lt v y || (nat_eq v y && nat_lt u (x + 1))) (f u v) blank
      by true e = (λ i. f (column x y u v e i) (row x y u v e i)) ∙ sym (ap (λ b. cond b (f u v) blank) (reached x y u v e))
      by false e = ap (λ b. cond b (f u v) blank) (behind x y u v e)

  letter_laid : (y x : ℕ) → with_letters (read.cell_rect y x) (letter_of m.walls.extent m.letters x y) (laid y x) ≡ laid y (x + 1)
  letter_laid y x =
      ap (λ letters. record m { letters = letters })
      (letters_alike m.walls.extent (λ u v. cond (is_in (read.cell_rect y x) u v) (letter_of m.walls.extent m.letters x y) (letter_of m.walls.extent (letters_where m.walls.extent (told y x)) u v)) (told y (x + 1)) is.size
      (λ u v left above.
      ap (λ l. cond (is_in (read.cell_rect y x) u v) (letter_of m.walls.extent m.letters x y) l) (letter_of-letters_where m.walls.extent (told y x) u v left above)
      ∙ next_letter x y u v (letter_of m.walls.extent m.letters)))

  row_laid : (y x n : ℕ) → read.lettered name y x (at_cell y x) (map (λ u. letter_of m.walls.extent m.letters u y) (range_with_len x n)) ≡ at_cell y (x + n)
  row_laid y x zero = ap (at_cell y) (omega arith)
  row_laid y x (suc n) =
      ap (λ maps. read.lettered name y (x + 1) (record s { maps = maps }) (map (λ u. letter_of m.walls.extent m.letters u y) (range_with_len (x + 1) n)))
      (last_changed name (with_letters (read.cell_rect y x) (letter_of m.walls.extent m.letters x y)) done (laid y x) new same ∙ ap (λ g. done ++ g ∷ []) (letter_laid y x))
      ∙ row_laid y (x + 1) n
      ∙ ap (at_cell y) (omega arith)

  next_row : (y : ℕ) → at_cell y m.walls.extent.w ≡ at_cell (y + 1) 0
  next_row y =
      ap (λ letters. record s { maps = done ++ record m { letters = letters } ∷ [] })
      (letters_alike m.walls.extent (told y m.walls.extent.w) (told (y + 1) 0) is.size (λ u v left above. ap (λ b. cond b (letter_of m.walls.extent m.letters u v) blank) (one_row u v y m.walls.extent.w left)))
    where
      one_row : (u v y w : ℕ) → u < w → (nat_lt v y || (nat_eq v y && nat_lt u w)) ≡ (nat_lt v (y + 1) || (nat_eq v (y + 1) && nat_lt u 0))
      one_row u v y w lt = grind (arith, nat_tests)

  are_letters : (y x n : ℕ) → y < m.walls.extent.h → x + n ≤ m.walls.extent.w → list_all is_letter (map (λ u. letter_of m.walls.extent m.letters u y) (range_with_len x n)) ≡ true
  are_letters y x zero above left = refl
  are_letters y x (suc n) above left =
      both _ _ (told_true _ (All-get_or (λ l. IsTrue (is_letter l)) m.letters (y * m.walls.extent.w + x) 0 (omega (arith, is.count, mul-add-lt y m.walls.extent.w x m.walls.extent.h above (omega (arith, left)))) is.letters))
      (are_letters y (x + 1) n above (omega (arith, left)))
    where
      told_true : (b : Bool) → IsTrue b → b ≡ true
      told_true b h = h

  row_reads : (y : ℕ) → y < m.walls.extent.h → read.row name m.walls.extent.w y (at_cell y 0) (string (row_letters m y)) ≡ Ok (at_cell (y + 1) 0)
  unfolding read.row read.row_letters
  row_reads y above =
      let count = length-map-range_with_len (λ u. letter_of m.walls.extent m.letters u y) 0 m.walls.extent.w in
      let fits : (nat_le m.walls.extent.w (length (row_letters m y)) && nat_le (length (row_letters m y)) m.walls.extent.w) ≡ true = grind (arith, nat_tests, count) in
      rw (text_reads m.walls.extent.w m.walls.extent.w (row_letters m y) fits, are_letters y 0 m.walls.extent.w above (omega arith))
      (ap Ok (row_laid y 0 m.walls.extent.w ∙ ap (at_cell y) (omega arith) ∙ next_row y))

  rows_from : (n y : ℕ) → y + n ≡ m.walls.extent.h → each (read.row name m.walls.extent.w) y (at_cell y 0) (items_of (map (λ v. string (row_letters m v)) (range_with_len y n))) ≡ Ok (at_cell m.walls.extent.h 0)
  rows_from zero y e = ap (λ v. Ok (at_cell v 0)) (omega (arith, e))
  rows_from (suc n) y e =
      ap (λ r. under (decimal y) r >>= λ next. each (read.row name m.walls.extent.w) (y + 1) next (items_of (map (λ v. string (row_letters m v)) (range_with_len (y + 1) n)))) (row_reads y (omega (arith, e)))
      ∙ rows_from n (y + 1) (omega (arith, e))

  first_cell : at_cell 0 0 ≡ record s { maps = done ++ record m { letters = replicate (m.walls.extent.h * m.walls.extent.w) blank } ∷ [] }
  first_cell =
      ap (λ letters. record s { maps = done ++ record m { letters = letters } ∷ [] })
      (letters_alike m.walls.extent (told 0 0) (λ u v. blank) is.size (λ u v left above. ap (λ b. cond b (letter_of m.walls.extent m.letters u v) blank) (none u v)) ∙ none_told m.walls.extent)
    where
      none : (u v : ℕ) → (nat_lt v 0 || (nat_eq v 0 && nat_lt u 0)) ≡ false
      none u v = grind (arith, nat_tests)

  last_cell : at_cell m.walls.extent.h 0 ≡ record s { maps = done ++ m ∷ [] }
  last_cell =
      ap (λ letters. record s { maps = done ++ record m { letters = letters } ∷ [] })
      (letters_alike m.walls.extent (told m.walls.extent.h 0) (letter_of m.walls.extent m.letters) is.size (λ u v left above. ap (λ b. cond b (letter_of m.walls.extent m.letters u v) blank) (all u v m.walls.extent.h above)) ∙ all_told m.walls.extent m.letters is.count)
    where
      all : (u v h : ℕ) → v < h → (nat_lt v h || (nat_eq v h && nat_lt u 0)) ≡ true
      all u v h lt = grind (arith, nat_tests)

  pub rows_read : (d : Data) → get (codes "rows") d ≡ Some (rows_tree m)
      → read.rows name m.walls.extent (record s { maps = done ++ record m { letters = replicate (m.walls.extent.h * m.walls.extent.w) blank } ∷ [] }) d ≡ Ok (record s { maps = done ++ m ∷ [] })
  unfolding read.rows
  rows_read d at =
      let row : ℕ → Data = λ v. string (row_letters m v) in
      let count : length (range_with_len 0 m.walls.extent.h) ≡ m.walls.extent.h = length_range 0 m.walls.extent.h in
      rw (field_reads (codes "rows") (kinds.list m.walls.extent.h m.walls.extent.h) d (rows_tree m) (items_of (map row (range_with_len 0 m.walls.extent.h))) at
      (list_reads m.walls.extent.h m.walls.extent.h row (range_with_len 0 m.walls.extent.h) (omega (arith, count)) (omega (arith, count))))
      (ap (under (codes "rows")) (ap (λ start. each (read.row name m.walls.extent.w) 0 start (items_of (map row (range_with_len 0 m.walls.extent.h)))) (sym first_cell) ∙ rows_from m.walls.extent.h 0 (omega arith) ∙ ap Ok last_cell))
    where
      length_range : (k n : ℕ) → length (range_with_len k n) ≡ n
      length_range k zero = refl
      length_range k (suc n) = let e = length_range (k + 1) n in omega (arith, e)
