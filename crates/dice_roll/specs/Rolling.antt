-- What dice mean. `word k` is the word that lies k places ahead; each part says what it is worth and how many words it uses.
use Rattle.std.specs.Prelude.{ℕ, zero, suc, ◌+◌, ◌-◌, Bool, true, false, cond, List, [], ◌∷◌, ◌++◌, length, sum, count_by, drop, Option, Some, None, nat_le, nat_eq, ℤ, pos, ◌+ℤ◌, ◌-ℤ◌}
use Rattle.dice_parse.specs.declared.parts.Tail.{Tail}
use Rattle.dice_parse.specs.declared.parts.Tail.TheVariants.{Keep, Lose, Succeed}
use Rattle.dice_parse.specs.declared.parts.Group.{Group}
use Rattle.dice_parse.specs.declared.parts.Part.{Part}
use Rattle.dice_parse.specs.declared.parts.Part.TheVariants.{Group as AGroup, Number as ANumber}
use Rattle.dice_parse.specs.declared.parts.Term.{Term}
use Rattle.seat_random.specs.Stream.{shown}

-- the words behind so many
abbrev pub later : ℕ → (ℕ → ℕ) → ℕ → ℕ
later used word ahead = word (used + ahead)

-- ---- one die

-- with r, a value of at most its number is rolled again
abbrev pub is_again : Option ℕ → ℕ → Bool
is_again None value = false
is_again (Some limit) value = nat_le value limit

abbrev pub first_value : (ℕ → ℕ) → Group → ℕ
first_value word g = cond (is_again g.again (shown (word 0) g.sides)) (shown (word 1) g.sides) (shown (word 0) g.sides)

abbrev pub first_used : (ℕ → ℕ) → Group → ℕ
first_used word g = cond (is_again g.again (shown (word 0) g.sides)) 2 1

-- further values, as long as the last one is the greatest, and at most so many
abbrev pub further : (ℕ → ℕ) → ℕ → ℕ → ℕ → List ℕ
further word sides zero last = []
further word sides (suc most) last = cond (nat_eq last sides) (shown (word 0) sides ∷ further (later 1 word) sides most (shown (word 0) sides)) []

-- with e, a die has at most 10 further values
abbrev pub most_further : Group → ℕ
most_further g = cond g.explode 10 0

abbrev pub die_further : (ℕ → ℕ) → Group → List ℕ
die_further word g = further (later (first_used word g) word) g.sides (most_further g) (first_value word g)

abbrev pub die_values : (ℕ → ℕ) → Group → List ℕ
die_values word g = first_value word g ∷ die_further word g

abbrev pub die_used : (ℕ → ℕ) → Group → ℕ
die_used word g = first_used word g + length (die_further word g)

-- ---- a group

abbrev pub dice_values : (ℕ → ℕ) → Group → ℕ → List ℕ
dice_values word g zero = []
dice_values word g (suc count) = die_values word g ++ dice_values (later (die_used word g) word) g count

abbrev pub dice_used : (ℕ → ℕ) → Group → ℕ → ℕ
dice_used word g zero = 0
dice_used word g (suc count) = die_used word g + dice_used (later (die_used word g) word) g count

abbrev pub insert_ascending : ℕ → List ℕ → List ℕ
insert_ascending x [] = x ∷ []
insert_ascending x (y ∷ ys) = cond (nat_le x y) (x ∷ (y ∷ ys)) (y ∷ insert_ascending x ys)

-- the same values in ascending order
abbrev pub ascending : List ℕ → List ℕ
ascending [] = []
ascending (x ∷ xs) = insert_ascending x (ascending xs)

-- what a list of shown values is worth: their sum; the sum of the greatest; the sum without the least; how many are at least a number
abbrev pub worth_of : Option (Tail × ℕ) → List ℕ → ℕ
worth_of None values = sum values
worth_of (Some (Keep, n)) values = sum (drop (length values - n) (ascending values))
worth_of (Some (Lose, n)) values = sum (drop n (ascending values))
worth_of (Some (Succeed, n)) values = count_by (λ x. nat_le n x) values

-- ---- terms

abbrev pub part_value : (ℕ → ℕ) → Part → ℕ
part_value word (AGroup g) = worth_of g.tail (dice_values word g g.count)
part_value word (ANumber n) = n

abbrev pub part_used : (ℕ → ℕ) → Part → ℕ
part_used word (AGroup g) = dice_used word g g.count
part_used word (ANumber n) = 0

-- a total with one more term, which a minus takes away
abbrev pub total_with : ℤ → Bool → ℕ → ℤ
total_with so_far false value = so_far +ℤ pos value
total_with so_far true value = so_far -ℤ pos value

-- terms are drawn from left to right
abbrev pub total_from : ℤ → (ℕ → ℕ) → List Term → ℤ
total_from so_far word [] = so_far
total_from so_far word (t ∷ ts) = total_from (total_with so_far t.minus (part_value word t.part)) (later (part_used word t.part) word) ts

abbrev pub total_of : (ℕ → ℕ) → List Term → ℤ
total_of = total_from (pos 0)

abbrev pub words_used : (ℕ → ℕ) → List Term → ℕ
words_used word [] = 0
words_used word (t ∷ ts) = part_used word t.part + words_used (later (part_used word t.part) word) ts
