-- A line that a job prints.
use Rattle.std.specs.Prelude.{◌≡◌, ℕ, List, Option, Bool, true, false}
use Rattle.std.specs.Io.KnownBytes.{append_known}
use Rattle.script_play.specs.Sending.{WroteFront}
use Rattle.tabletop.specs.declared.endings.Ended.{Ended}
use Rattle.tabletop.specs.declared.endings.Ended.TheVariants.{Done, WriteFault, Memory, Differs}

-- a line was to be printed; after a write fault a front of it was
abbrev pub PrintsLine : Ended → List ℕ → (out after : Option (List ℕ)) → Type 0
PrintsLine Done line out after = after ≡ append_known out line
PrintsLine WriteFault line out after = WroteFront out line after
PrintsLine Memory line out after = after ≡ out
PrintsLine ended line out after = ⊥

-- the line of an answer was to be printed. Where it tells of a difference, that ends the run in its own way
abbrev pub PrintsAnswer : (differs : Bool) → Ended → List ℕ → (out after : Option (List ℕ)) → Type 0
PrintsAnswer differs Done line out after = (differs ≡ false) × (after ≡ append_known out line)
PrintsAnswer differs Differs line out after = (differs ≡ true) × (after ≡ append_known out line)
PrintsAnswer differs ended line out after = PrintsLine ended line out after
