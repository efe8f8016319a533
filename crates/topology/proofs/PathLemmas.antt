-- The first blocked step of a path.
use Rattle.std.proofs.Common.{◌≡◌, inl, inr, ℕ, suc, zero, ◌+◌, ◌-◌, ◌<◌, ◌≤◌, Bool, true, false, cond, List, length, get_or, Option, Some, None, is_some, refl, ap, sym, ◌∙◌, arith}
use Rattle.std.specs.Prelude.{IfSome, IsNone, ◌↔◌}
use Rattle.std.specs.Bool.{Decides}
use Rattle.std.specs.List.{find, list_any, range_with_len}
use Rattle.std.proofs.lemmas.Bool.{cases_eq}
use Rattle.std.proofs.lemmas.List.{get_or_default}
use Rattle.std.proofs.lemmas.List.Folds.{Any-from_list_any, list_any-from_Any}
use Rattle.lattice.specs.Coordinates.{Coordinates}
use Rattle.lattice.specs.Turning.{meet_test}
use Rattle.lattice.proofs.TestLemmas.{meet_test_tells}
use Rattle.topology.specs.declared.wall.Wall.{Wall}
use Rattle.topology.specs.WallLists.{WallLists}
use Rattle.topology.specs.Paths.{IsBlocked, IsFirstBlock, IsFree, block_test, first_block, point_at}

-- ---- the first number of a range that passes a test

-- the number is the first that passes, of n numbers from a on
record IsFirst (test : ℕ → Bool) (a n k : ℕ) : Type 0 where
  pub from : a ≤ k
  pub below : k < a + n
  pub here : test k ≡ true
  pub others : (j : ℕ) → a ≤ j → j < k → test j ≡ false

earlier : (test : ℕ → Bool) (a j : ℕ) → test a ≡ false → a ≤ j → (a + 1 ≤ j → test j ≡ false) → test j ≡ false
earlier test a j e from rest = elim (cases_eq a j) [ inl same ↦ sym (ap test same) ∙ e | inr ne ↦ rest (omega arith) ]

first_number : (test : ℕ → Bool) (a n : ℕ) → IfSome (find test (range_with_len a n)) (IsFirst test a n)
first_number test a zero = tt
first_number test a (suc n) = by (test a) refl (first_number test (a + 1) n)
  where
    further : test a ≡ false → (o : Option ℕ) → IfSome o (IsFirst test (a + 1) n) → IfSome o (IsFirst test a (suc n))
    further e None rest = tt
    further e (Some k) rest = record {
      from = omega (arith, rest.from);
      below = omega (arith, rest.below);
      here = rest.here;
      others = λ j from h. earlier test a j e from (λ past. rest.others j past h);
    }

    by : (t : Bool) → test a ≡ t → IfSome (find test (range_with_len (a + 1) n)) (IsFirst test (a + 1) n)
        → IfSome (cond t (Some a) (find test (range_with_len (a + 1) n))) (IsFirst test a (suc n))
    by true e rest = record { from = omega arith; below = omega arith; here = e; others = λ j from h. absurd (omega arith) }
    by false e rest = further e _ rest

no_number : (test : ℕ → Bool) (a n : ℕ) → is_some (find test (range_with_len a n)) ≡ false → (j : ℕ) → a ≤ j → j < a + n → test j ≡ false
no_number test a zero none j from below = absurd (omega arith)
no_number test a (suc n) none j from below = by (test a) refl (λ h past. no_number test (a + 1) n h j past (omega arith)) none
  where
    by : (t : Bool) → test a ≡ t → (is_some (find test (range_with_len (a + 1) n)) ≡ false → a + 1 ≤ j → test j ≡ false)
        → is_some (cond t (Some a) (find test (range_with_len (a + 1) n))) ≡ false → test j ≡ false
    by true e rest h = cc
    by false e rest h = earlier test a j e from (rest h)

find_number : (test : ℕ → Bool) (a n k : ℕ) → IsFirst test a n k → find test (range_with_len a n) ≡ Some k
find_number test a zero k is = absurd (omega (arith, is.from, is.below))
find_number test a (suc n) k is = by (test a) refl (λ h. find_number test (a + 1) n k h)
  where
    by : (t : Bool) → test a ≡ t → (IsFirst test (a + 1) n k → find test (range_with_len (a + 1) n) ≡ Some k)
        → cond t (Some a) (find test (range_with_len (a + 1) n)) ≡ Some k
    by true e rest = elim (cases_eq a k) [
      | inl same ↦ ap Some same
      | inr ne ↦ let no : test a ≡ false = is.others a (omega arith) (omega (arith, is.from)) in cc
    ]
    by false e rest = elim (cases_eq a k) [
      | inl same ↦ let yes : test a ≡ true = ap test same ∙ is.here in cc
      | inr ne ↦
          rest (record {
            from = omega (arith, is.from);
            below = omega (arith, is.below);
            here = is.here;
            others = λ j h l. is.others j (omega arith) l;
          })
    ]

find_no_number : (test : ℕ → Bool) (a n : ℕ) → ((j : ℕ) → a ≤ j → j < a + n → test j ≡ false) → find test (range_with_len a n) ≡ None
find_no_number test a zero none = refl
find_no_number test a (suc n) none =
    ap (λ t. cond t (Some a) (find test (range_with_len (a + 1) n))) (none a (omega arith) (omega arith))
    ∙ find_no_number test (a + 1) n (λ j h l. none j (omega arith) (omega arith))

-- ---- the steps that the code goes over

step_is : (walls : List Wall) (path : List Coordinates) (k n : ℕ) (a b : Coordinates) → k + 1 ≡ n → n < length path
    → a ≡ get_or path k a → b ≡ get_or path n b → block_test walls path k ≡ list_any (λ wall. meet_test wall.first wall.second a b) walls
step_is walls path k n a b e within at next =
    ap (λ (m : ℕ). list_any (λ wall. meet_test wall.first wall.second (point_at path k) (point_at path m)) walls) e
    ∙ ap (λ (p : Coordinates). list_any (λ wall. meet_test wall.first wall.second p (point_at path n)) walls) (get_or_default path k _ a (omega arith) ∙ sym at)
    ∙ ap (λ (p : Coordinates). list_any (λ wall. meet_test wall.first wall.second a p) walls) (get_or_default path n _ b within ∙ sym next)

-- the steps before the n-th are not blocked
abbrev pub AreFreeBefore : List Wall → List Coordinates → ℕ → Type 0
AreFreeBefore walls path n = (k : ℕ) → k + 1 < n → block_test walls path k ≡ false

pub one_more_free : (walls : List Wall) (path : List Coordinates) (n : ℕ) (a b : Coordinates) → 1 ≤ n → n < length path → AreFreeBefore walls path n
    → a ≡ get_or path (n - 1) a → b ≡ get_or path n b → false ≡ list_any (λ wall. meet_test wall.first wall.second a b) walls
    → AreFreeBefore walls path (n + 1)
one_more_free walls path n a b some within before at next e k h = elim (cases_eq k (n - 1)) [
  | inl same ↦ ap (block_test walls path) same ∙ step_is walls path (n - 1) n a b (omega arith) within at next ∙ sym e
  | inr ne ↦ before k (omega arith)
]

pub first_is : (walls : List Wall) (path : List Coordinates) (n : ℕ) (a b : Coordinates) → 1 ≤ n → n < length path → AreFreeBefore walls path n
    → a ≡ get_or path (n - 1) a → b ≡ get_or path n b → true ≡ list_any (λ wall. meet_test wall.first wall.second a b) walls
    → Some (n - 1) ≡ find (block_test walls path) (range_with_len 0 (length path - 1))
first_is walls path n a b some within before at next e =
    sym
    (find_number (block_test walls path) 0 (length path - 1) (n - 1)
    (record {
      from = omega arith;
      below = omega arith;
      here = step_is walls path (n - 1) n a b (omega arith) within at next ∙ sym e;
      others = λ j from h. before j (omega arith);
    }))

pub none_is : (walls : List Wall) (path : List Coordinates) (n : ℕ) → length path ≤ n → AreFreeBefore walls path n
    → None ≡ find (block_test walls path) (range_with_len 0 (length path - 1))
none_is walls path n end before = sym (find_no_number (block_test walls path) 0 (length path - 1) (λ j from h. before j (omega arith)))

-- ---- the test in words

block_test_tells : (walls : WallLists) (path : List Coordinates) (k : ℕ) → Decides (block_test walls.mbl path k) (IsBlocked walls path k)
block_test_tells walls path k = (
  λ h. let some = Any-from_list_any (λ (wall : Wall). meet_test wall.first wall.second (point_at path k) (point_at path (k + 1))) walls.mbl h in
      (some.0, some.1, some.2, some.3, (meet_test_tells some.1.first some.1.second (point_at path k) (point_at path (k + 1))).0 some.4),
  λ h. list_any-from_Any (λ (wall : Wall). meet_test wall.first wall.second (point_at path k) (point_at path (k + 1))) walls.mbl
      (h.0, h.1, h.2, h.3, (meet_test_tells h.1.first h.1.second (point_at path k) (point_at path (k + 1))).1 h.4),
)

not_blocked : (walls : WallLists) (path : List Coordinates) (k : ℕ) → block_test walls.mbl path k ≡ false → ¬ IsBlocked walls path k
not_blocked walls path k e blocked = let yes : block_test walls.mbl path k ≡ true = (block_test_tells walls path k).1 blocked in cc

is_free_step : (walls : WallLists) (path : List Coordinates) (k : ℕ) → ¬ IsBlocked walls path k → block_test walls.mbl path k ≡ false
is_free_step walls path k free = by (block_test walls.mbl path k) refl
  where
    by : (t : Bool) → block_test walls.mbl path k ≡ t → t ≡ false
    by true e = absurd (free ((block_test_tells walls path k).0 e))
    by false e = refl

pub first_block_is_first : (walls : WallLists) (path : List Coordinates) → IfSome (first_block walls path) (IsFirstBlock walls path)
first_block_is_first walls path = by (first_block walls path) (first_number (block_test walls.mbl path) 0 (length path - 1))
  where
    by : (o : Option ℕ) → IfSome o (IsFirst (block_test walls.mbl path) 0 (length path - 1)) → IfSome o (IsFirstBlock walls path)
    by None is = tt
    by (Some k) is = record {
      step = omega (arith, is.below);
      blocked = (block_test_tells walls path k).0 is.here;
      first = λ j h. not_blocked walls path j (is.others j (omega arith) h);
    }

pub no_block_is_free : (walls : WallLists) (path : List Coordinates) → IsNone (first_block walls path) ↔ IsFree walls path
no_block_is_free walls path = (
  λ none k h. not_blocked walls path k (no_number (block_test walls.mbl path) 0 (length path - 1) none k (omega arith) (omega arith)),
  λ free. ap is_some (find_no_number (block_test walls.mbl path) 0 (length path - 1) (λ j from h. is_free_step walls path j (free j (omega arith)))),
)
