-- What a dice text comes to, as one answer: its terms, or its fault.
use Rattle.std.specs.Prelude.{◌≡◌, ℕ, suc, ◌-◌, ◌&&◌, Bool, true, if◌then◌else◌, List, length, Option, Some, None, Result, Ok, Err, nat_le}
use Rattle.std.specs.List.{list_all}
use Rattle.dice_parse.specs.declared.parts.Part.{Part}
use Rattle.dice_parse.specs.declared.parts.Part.TheVariants.{Group as AGroup, Number as ANumber}
use Rattle.dice_parse.specs.declared.parts.Term.{Term}
use Rattle.dice_parse.specs.declared.texts.DiceFault.{DiceFault}
use Rattle.dice_parse.specs.declared.texts.DiceFault.TheVariants.{BadDice, DiceLimit, Memory}
use Rattle.dice_parse.specs.Readers.{dice_at}

-- the test of the limits of a part
abbrev pub part_fits : Part → Bool
part_fits (AGroup g) = nat_le 1 g.count && (nat_le g.count 100 && (nat_le 1 g.sides && nat_le g.sides 1000))
part_fits (ANumber n) = true

-- the test of the limits of dice
abbrev pub is_within : List Term → Bool
is_within terms = nat_le 1 (length terms) && (nat_le (length terms) 16 && list_all (λ t. part_fits t.part) terms)

-- by what was read of the text, and what was left of it
abbrev pub answer_by : List ℕ → Option (List Term) × List ℕ → Result (List Term) DiceFault
answer_by text (None, rest) = Err (BadDice (length text - length rest))
answer_by text (Some terms, rest) = if is_within terms then Ok terms else Err DiceLimit

-- the terms that the text spells, or its fault
unfoldable pub dice_of : List ℕ → Result (List Term) DiceFault
dice_of text = answer_by text (dice_at (suc (length text)) text)

-- the fault is that of the answer, unless memory ran out
abbrev pub IsFaultIn : Result (List Term) DiceFault → DiceFault → Type 0
IsFaultIn answer (BadDice at) = answer ≡ Err (BadDice at)
IsFaultIn answer DiceLimit = answer ≡ Err DiceLimit
IsFaultIn answer Memory = Unit {0}
