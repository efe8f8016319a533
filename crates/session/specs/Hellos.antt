-- The first line of a session.
use Rattle.std.specs.Prelude.{◌≡◌, ℕ, false, List, [], ◌∷◌, Option, Some, None}
use Rattle.command_json.specs.Commands.{command_of}
use Rattle.campaign_law.specs.Hellos.{hello_part}
use Rattle.session.specs.declared.first_line.FirstLine.{FirstLine}
use Rattle.session.specs.declared.first_line.FirstLine.TheVariants as first
use Rattle.session.specs.declared.input.Stop.TheVariants.{Memory}
use Rattle.session.specs.Inputs.{IsShort, CameFirst, StopsBefore}

-- the seat and key of a line that is a hello; it reads alike for each seat
abbrev pub hello_in : List ℕ → Option (ℕ × List ℕ)
hello_in line = hello_part (command_of line false)

-- it is that hello, or none, or memory was wanting
abbrev pub Greets : Option (ℕ × List ℕ) → FirstLine → Type 0
Greets hello (first.Hello seat key) = hello ≡ Some (seat, key)
Greets hello first.Other = hello ≡ None
Greets hello (first.Missing stop) = stop ≡ Memory

-- the line with this came first of the text, and the rest is to come
pub record CameWith (hello : Option (ℕ × List ℕ)) (text rest : Option (List ℕ)) : Type 0 where
  pub line : List ℕ
  pub reads : hello_in line ≡ hello
  pub short : IsShort line
  pub first : CameFirst (line ∷ []) text rest

-- what the first line of a text is, where the rest is to come
abbrev pub Begins : FirstLine → Option (List ℕ) → Option (List ℕ) → Type 0
Begins (first.Hello seat key) text rest = CameWith (Some (seat, key)) text rest
Begins first.Other text rest = CameWith None text rest
Begins (first.Missing stop) text rest = StopsBefore stop text rest
