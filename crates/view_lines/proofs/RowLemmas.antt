-- The letters of runs, row by row.
use Rattle.std.proofs.Common.{◌≡◌, ℕ, suc, zero, ◌+◌, ◌<◌, ◌≤◌, inl, inr, Bool, true, false, cond, ◌&&◌, ◌==◌, List, [], ◌∷◌, ◌++◌, map, append_assoc, length, take, drop, get_or, refl, sym, ◌∙◌, ap, subst, arith}
use Rattle.std.specs.Prelude.{Some, None, unwrap_or, not, nat_le, nat_lt, All, AllPairs}
use Rattle.std.specs.List.{filter, flat_map, list_all, position, position_or_len, AllAdjacentBelow}
use Rattle.std.proofs.lemmas.Bool.Decides.{nat_tests}
use Rattle.std.specs.Char.{encode_utf8}
use Rattle.json.specs.Token.{Token}
use Rattle.serde_json.specs.Data.{Data, string}
use Rattle.serde_json.specs.View.{items_of}
use Rattle.cells.specs.declared.cell.Run.{Run}
use Rattle.cells.specs.Runs.{StandsBefore}
use Rattle.json_lines.specs.Tokens.{value_tokens, items_tokens}
use Rattle.views.specs.Keys.{Letter}
use Rattle.view_lines.specs.Lines.{is_of_run, list_data, terrain_run_data, whole}
use Rattle.view_lines.specs.Rows.{are_by_rows}

both : (a b : Bool) → a ≡ true → b ≡ true → (a && b) ≡ true
both true b e f = f
both false b e f = cc

left_true : (a b : Bool) → (a && b) ≡ true → a ≡ true
left_true true b e = refl
left_true false b e = cc

right_true : (a b : Bool) → (a && b) ≡ true → b ≡ true
right_true true b e = e
right_true false b e = cc

-- ---- letters by rows

le_trans : (a b c : ℕ) → nat_le a b ≡ true → nat_le b c ≡ true → nat_le a c ≡ true
le_trans a b c h k = grind (arith, nat_tests)

lower : (y z : ℕ) (ls : List Letter) → nat_le y z ≡ true → list_all (λ l. nat_le z l.0.y) ls ≡ true → list_all (λ l. nat_le y l.0.y) ls ≡ true
lower y z [] e h = refl
lower y z (l ∷ ls) e h = both _ _ (le_trans y z l.0.y e (left_true _ _ h)) (lower y z ls e (right_true _ _ h))

pub rows_rise : (ls : List Letter) → AllAdjacentBelow (λ l k. nat_le l.0.y k.0.y ≡ true) ls (length ls) → are_by_rows ls ≡ true
rows_rise [] a = refl
rows_rise (x ∷ []) a = refl
rows_rise (x ∷ y ∷ ys) a =
    let first : nat_le x.0.y y.0.y ≡ true = a 0 x (omega arith) in
    let rest : are_by_rows (y ∷ ys) ≡ true =
    rows_rise (y ∷ ys) (λ k d l. let e : suc k + 1 ≡ suc (k + 1) = omega arith in subst (λ n. nat_le (get_or (y ∷ ys) k d).0.y (get_or (x ∷ y ∷ ys) n d).0.y ≡ true) e (a (suc k) d (omega arith))) in
    both _ _ (both _ _ first (lower x.0.y y.0.y ys first (left_true _ _ rest))) rest

-- ---- what stands before and behind the first item that passes a test

module _ {X : Type 0} (p : X → Bool) where
  abbrev pub from_first : List X → List X
  from_first [] = []
  from_first (x ∷ xs) = cond (p x) (x ∷ xs) (from_first xs)

  abbrev pub to_first : List X → List X
  to_first [] = []
  to_first (x ∷ xs) = cond (p x) [] (x ∷ to_first xs)

  at_or_behind : (t : Bool) (n l : ℕ) → t ≡ nat_lt n l → n ≤ l → unwrap_or (cond t (Some n) None) l ≡ n
  at_or_behind true n l e h = refl
  at_or_behind false n l e h = grind (arith, nat_tests)

  bound : (xs : List X) → position_or_len p xs ≤ length xs
  bound [] = omega arith
  bound (x ∷ xs) = here (p x) (bound xs)
    where
      here : (b : Bool) → position_or_len p xs ≤ length xs → cond (not b) (1 + position_or_len p xs) 0 ≤ length (x ∷ xs)
      here true i = omega arith
      here false i = omega arith

  place : (xs : List X) → unwrap_or (position p xs) (length xs) ≡ position_or_len p xs
  place xs = at_or_behind _ (position_or_len p xs) (length xs) refl (bound xs)

  pub dropped : (xs : List X) → drop (unwrap_or (position p xs) (length xs)) xs ≡ from_first xs
  dropped xs = ap (λ n. drop n xs) (place xs) ∙ walk xs
    where
      walk : (xs : List X) → drop (position_or_len p xs) xs ≡ from_first xs
      walk [] = refl
      walk (x ∷ xs) = here (p x) (walk xs)
        where
          here : (b : Bool) → drop (position_or_len p xs) xs ≡ from_first xs → drop (cond (not b) (1 + position_or_len p xs) 0) (x ∷ xs) ≡ cond b (x ∷ xs) (from_first xs)
          here true i = refl
          here false i = (let e : 1 + position_or_len p xs ≡ suc (position_or_len p xs) = omega arith in ap (λ n. drop n (x ∷ xs)) e) ∙ i

  pub taken : (xs : List X) → take (unwrap_or (position p xs) (length xs)) xs ≡ to_first xs
  taken xs = ap (λ n. take n xs) (place xs) ∙ walk xs
    where
      walk : (xs : List X) → take (position_or_len p xs) xs ≡ to_first xs
      walk [] = refl
      walk (x ∷ xs) = here (p x) (walk xs)
        where
          here : (b : Bool) → take (position_or_len p xs) xs ≡ to_first xs → take (cond (not b) (1 + position_or_len p xs) 0) (x ∷ xs) ≡ cond b [] (x ∷ to_first xs)
          here true i = refl
          here false i = (let e : 1 + position_or_len p xs ≡ suc (position_or_len p xs) = omega arith in ap (λ n. take n (x ∷ xs)) e) ∙ ap (λ zs. x ∷ zs) i

-- ---- the letters of a run

above : (y z x x0 x1 v : ℕ) → nat_le y v ≡ false → y ≤ z → ((v == z) && (nat_le x0 x && nat_le x x1)) ≡ false
above y z x x0 x1 v h k = here (nat_le x0 x && nat_le x x1)
  where
    here : (b : Bool) → ((v == z) && b) ≡ false
    here b = grind (arith, nat_tests)

under : (z x x0 x1 v : ℕ) → z < v → ((v == z) && (nat_le x0 x && nat_le x x1)) ≡ false
under z x x0 x1 v h = here (nat_le x0 x && nat_le x x1)
  where
    here : (b : Bool) → ((v == z) && b) ≡ false
    here b = grind (arith, nat_tests)

-- the letters above a row are of no run in it or below it
pub kept_from : (y : ℕ) (run : Run) (ls : List Letter) → y ≤ run.y → filter (is_of_run run) (from_first (λ l. nat_le y l.0.y) ls) ≡ filter (is_of_run run) ls
kept_from y run [] h = refl
kept_from y run (l ∷ ls) h = here (nat_le y l.0.y) refl (kept_from y run ls h)
  where
    here : (b : Bool) → nat_le y l.0.y ≡ b → filter (is_of_run run) (from_first (λ l. nat_le y l.0.y) ls) ≡ filter (is_of_run run) ls
        → filter (is_of_run run) (cond b (l ∷ ls) (from_first (λ l. nat_le y l.0.y) ls)) ≡ filter (is_of_run run) (l ∷ ls)
    here true e i = refl
    here false e i = i ∙ sym (ap (λ t. cond t (l ∷ filter (is_of_run run) ls) (filter (is_of_run run) ls)) (above y run.y l.0.x run.x0 run.x1 l.0.y e h))

lt_of : (m n : ℕ) → nat_lt m n ≡ true → m < n
lt_of m n e = grind (arith, nat_tests)

le_of : (m n : ℕ) → nat_le m n ≡ true → m ≤ n
le_of m n e = grind (arith, nat_tests)

none_behind : (run : Run) (y : ℕ) (ls : List Letter) → run.y < y → list_all (λ l. nat_le y l.0.y) ls ≡ true → filter (is_of_run run) ls ≡ []
none_behind run y [] h all = refl
none_behind run y (l ∷ ls) h all =
    ap (λ t. cond t (l ∷ filter (is_of_run run) ls) (filter (is_of_run run) ls)) (under run.y l.0.x run.x0 run.x1 l.0.y (let k : y ≤ l.0.y = le_of y l.0.y (left_true (nat_le y l.0.y) _ all) in omega (arith, h, k)))
    ∙ none_behind run y ls h (right_true _ _ all)

-- of letters by rows, those behind a row are of no run in it
pub kept_to : (run : Run) (ls : List Letter) → are_by_rows ls ≡ true → filter (is_of_run run) (to_first (λ l. nat_lt run.y l.0.y) ls) ≡ filter (is_of_run run) ls
kept_to run [] h = refl
kept_to run (l ∷ ls) h = here (nat_lt run.y l.0.y) refl (kept_to run ls (right_true _ _ h))
  where
    kept : (t : Bool) (zs ys : List Letter) → zs ≡ ys → cond t (l ∷ zs) zs ≡ cond t (l ∷ ys) ys
    kept t zs ys e = ap (λ ws. cond t (l ∷ ws) ws) e

    here : (b : Bool) → nat_lt run.y l.0.y ≡ b → filter (is_of_run run) (to_first (λ l. nat_lt run.y l.0.y) ls) ≡ filter (is_of_run run) ls
        → filter (is_of_run run) (cond b [] (l ∷ to_first (λ l. nat_lt run.y l.0.y) ls)) ≡ filter (is_of_run run) (l ∷ ls)
    here true e i =
        sym (ap (λ t. cond t (l ∷ filter (is_of_run run) ls) (filter (is_of_run run) ls)) (under run.y l.0.x run.x0 run.x1 l.0.y (lt_of _ _ e))
        ∙ none_behind run l.0.y ls (lt_of _ _ e) (left_true _ _ h))
    here false e i = kept (is_of_run run l) _ _ i

pub by_rows-from : (y : ℕ) (ls : List Letter) → are_by_rows ls ≡ true → are_by_rows (from_first (λ l. nat_le y l.0.y) ls) ≡ true
by_rows-from y [] h = refl
by_rows-from y (l ∷ ls) h = here (nat_le y l.0.y) (by_rows-from y ls (right_true _ _ h))
  where
    here : (b : Bool) → are_by_rows (from_first (λ l. nat_le y l.0.y) ls) ≡ true → are_by_rows (cond b (l ∷ ls) (from_first (λ l. nat_le y l.0.y) ls)) ≡ true
    here true i = h
    here false i = i

-- a run and those behind it, none of which is in a row above it
pub not_above : (run other : Run) → StandsBefore run other → run.y ≤ other.y
not_above run other (inl h) = omega arith
not_above run other (inr h) = omega (arith, h.0)

-- ---- a run further

pub record IsFurther (letters now row : List Letter) (run : Run) (rest : List Run) : Type 0 where
  pub of_run : filter (is_of_run run) row ≡ filter (is_of_run run) letters
  pub ordered : AllPairs StandsBefore rest
  pub by_rows : are_by_rows now ≡ true
  pub enough : All (λ other. filter (is_of_run other) now ≡ filter (is_of_run other) letters) rest

pub further : (letters left now row : List Letter) (run : Run) (rest runs : List Run) → AllPairs StandsBefore runs
    → All (λ other. filter (is_of_run other) left ≡ filter (is_of_run other) letters) runs → are_by_rows left ≡ true → runs ≡ run ∷ rest
    → now ≡ from_first (λ l. nat_le run.y l.0.y) left → row ≡ to_first (λ l. nat_lt run.y l.0.y) now → IsFurther letters now row run rest
further letters left now row run rest runs ordered enough by_rows is is_now is_row =
    let before : AllPairs StandsBefore (run ∷ rest) = subst (AllPairs StandsBefore) is ordered in
    let all : All (λ other. filter (is_of_run other) left ≡ filter (is_of_run other) letters) (run ∷ rest) =
    subst (All (λ other. filter (is_of_run other) left ≡ filter (is_of_run other) letters)) is enough in
    let rows : are_by_rows now ≡ true = ap are_by_rows is_now ∙ by_rows-from run.y left by_rows in
    record {
      of_run = ap (filter (is_of_run run)) is_row ∙ kept_to run now rows ∙ ap (filter (is_of_run run)) is_now ∙ kept_from run.y run left (omega arith)
          ∙ all zero run (omega arith);
      ordered = λ i j d lt h. before (suc i) (suc j) d (omega arith) (omega arith);
      by_rows = rows;
      enough = λ k d h.
          ap (filter (is_of_run (get_or rest k d))) is_now
          ∙ kept_from run.y (get_or rest k d) left (not_above run (get_or rest k d) (before zero (suc k) d (omega arith) (omega arith)))
          ∙ all (suc k) d (omega arith);
    }

pub same_data : (letters row : List Letter) (run : Run) → filter (is_of_run run) row ≡ filter (is_of_run run) letters → terrain_run_data row run ≡ terrain_run_data letters run
same_data letters row run e =
    ap (λ ls. list_data (whole run.y ∷ whole run.x0 ∷ string (flat_map (λ letter. encode_utf8 letter.1) ls) ∷ [])) e

-- the tokens so far, with those of one more item
pub one_more_written : {B : Type 0} (f : B → Data) (old new whole : List Token) (d : Data) (iter rest : List B) (r : B) → new ≡ old ++ value_tokens d → d ≡ f r → iter ≡ r ∷ rest
    → old ++ items_tokens (items_of (map f iter)) ≡ whole → new ++ items_tokens (items_of (map f rest)) ≡ whole
one_more_written f old new whole d iter rest r is_new is_d is_iter told =
    ap (λ ts. ts ++ items_tokens (items_of (map f rest))) is_new ∙ append_assoc old (value_tokens d) (items_tokens (items_of (map f rest)))
    ∙ ap (λ e. old ++ (value_tokens e ++ items_tokens (items_of (map f rest)))) is_d ∙ ap (λ rs. old ++ items_tokens (items_of (map f rs))) (sym is_iter) ∙ told
