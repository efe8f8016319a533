-- The same grammar, as it is read.
use Rattle.std.specs.Prelude.{ℕ, zero, suc, Bool, true, false, ◌||◌, cond, List, [], ◌∷◌, Option, Some, None, nat_eq}
use Rattle.std.specs.Global.{Vec}
use Rattle.reading.specs.Number.{is_digit, number_at}
use Rattle.reading.specs.Reading.{Read, done, bind, on_head, item}
use Rattle.dice_parse.specs.declared.parts.Tail.{Tail}
use Rattle.dice_parse.specs.declared.parts.Tail.TheVariants.{Keep, Lose, Succeed}
use Rattle.dice_parse.specs.declared.parts.Group.{Group}
use Rattle.dice_parse.specs.declared.parts.Part.{Part}
use Rattle.dice_parse.specs.declared.parts.Part.TheVariants.{Group as AGroup, Number as ANumber}
use Rattle.dice_parse.specs.declared.parts.Term.{Term}

abbrev pub num_at : Read ℕ
num_at = number_at 8

unfoldable pub explode_at : Read Bool
explode_at = on_head (nat_eq 101) (bind (item (nat_eq 101)) (λ _. done true)) (done false)

unfoldable pub again_at : Read (Option ℕ)
again_at = on_head (nat_eq 114) (bind (item (nat_eq 114)) (λ _. bind num_at (λ n. done (Some n)))) (done None)

abbrev pub is_kind : ℕ → Bool
is_kind b = nat_eq 107 b || (nat_eq 100 b || nat_eq 115 b)

abbrev pub kind_of : ℕ → Tail
kind_of b = cond (nat_eq 107 b) Keep (cond (nat_eq 100 b) Lose Succeed)

unfoldable pub tail_at : Read (Option (Tail × ℕ))
tail_at = on_head is_kind (bind (item is_kind) (λ b. bind num_at (λ n. done (Some (kind_of b, n))))) (done None)

unfoldable pub die_at : ℕ → Read Group
die_at count = bind num_at (λ sides. bind explode_at (λ explode. bind again_at (λ again. bind tail_at (λ tail.
    done (record { count = count; sides = sides; explode = explode; again = again; tail = tail })))))

unfoldable pub group_at : ℕ → Read Group
group_at count = bind (item (nat_eq 100)) (λ _. die_at count)

unfoldable pub part_at : Read Part
part_at = on_head is_digit
    (bind num_at (λ n. on_head (nat_eq 100) (bind (group_at n) (λ g. done (AGroup g))) (done (ANumber n))))
    (bind (group_at 1) (λ g. done (AGroup g)))

abbrev pub is_sign : ℕ → Bool
is_sign b = nat_eq 43 b || nat_eq 45 b

-- no byte is left
abbrev pub ended : {A : Type 0} → A → Read A
ended x [] = (Some x, [])
ended x (b ∷ s) = (None, b ∷ s)

-- further terms up to the text's end, in at most so many turns
abbrev pub more_at : ℕ → Read (List Term)
more_at zero s = (None, s)
more_at (suc turns) s = on_head is_sign
    (bind (item is_sign) (λ b. bind part_at (λ part. bind (more_at turns) (λ terms. done (record { minus = nat_eq 45 b; part = part } ∷ terms)))))
    (ended []) s

unfoldable pub dice_at : ℕ → Read (List Term)
dice_at turns = bind part_at (λ part. bind (more_at turns) (λ terms. done (record { minus = false; part = part } ∷ terms)))

-- the list in a vector, where there is one
abbrev pub items_of : Option (Vec Term) → Option (List Term)
items_of None = None
items_of (Some v) = Some v.items
