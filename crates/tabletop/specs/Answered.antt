-- What `verify` and `compare` print, and how they end.
use Rattle.std.specs.Prelude.{◌≡◌, ◌⊎◌, ℕ, List, [], ◌∷◌, ◌++◌, codes, decimal, Option, Bool, true, false}
use Rattle.transcript_check.specs.declared.fault.CheckFault.{CheckFault}
use Rattle.transcript_check.specs.declared.fault.CheckFault.TheVariants as faults
use Rattle.transcript_check.specs.declared.checking.Verdict.{Verdict}
use Rattle.transcript_check.specs.declared.checking.Verdict.TheVariants as verdicts
use Rattle.transcript_check.specs.declared.comparing.Agreement.{Agreement}
use Rattle.transcript_check.specs.declared.comparing.Agreement.TheVariants as agreements
use Rattle.transcript_check.specs.Checks.{IsVerdict, IsAgreement, IsFaultOf, IsFaultOfPair}
use Rattle.tabletop.specs.declared.endings.Ended.{Ended}
use Rattle.tabletop.specs.declared.endings.Ended.TheVariants.{BadCampaign, BadLine, TooLarge, Memory}
use Rattle.tabletop.specs.Printing.{PrintsAnswer}

-- ---- an answer

-- a transcript isn't what the player machine prints
abbrev pub verdict_differs : Verdict → Bool
verdict_differs verdicts.Equal = false
verdict_differs (verdicts.Differs at) = true

abbrev pub verdict_line : Verdict → List ℕ
verdict_line verdicts.Equal = codes "equal" ++ 10 ∷ []
verdict_line (verdicts.Differs at) = codes "differs at " ++ (decimal at ++ 10 ∷ [])

-- two histories don't agree
abbrev pub agreement_differs : Agreement → Bool
agreement_differs agreements.Agree = false
agreement_differs agreements.OpeningDiffers = true
agreement_differs (agreements.TraceDiffers item) = true

abbrev pub agreement_line : Agreement → List ℕ
agreement_line agreements.Agree = codes "agree" ++ 10 ∷ []
agreement_line agreements.OpeningDiffers = codes "openings differ" ++ 10 ∷ []
agreement_line (agreements.TraceDiffers item) = codes "traces differ at item " ++ (decimal item ++ 10 ∷ [])

-- ---- or none

-- as what a check that gives no answer ends the run
abbrev pub ended_by_fault : CheckFault → Ended
ended_by_fault (faults.Bad second breach) = BadCampaign breach
ended_by_fault (faults.BadLine second line) = BadLine line
ended_by_fault (faults.TooLarge second) = TooLarge
ended_by_fault faults.Memory = Memory

-- ---- once the texts of the files were there

-- there is this answer, and its line was to be printed
pub record Answers {A : Type 0} (IsAnswer : A → Type 0) (differs : A → Bool) (line_of : A → List ℕ)
    (ended : Ended) (out after : Option (List ℕ)) : Type 0 where
  pub answer : A
  pub is : IsAnswer answer
  pub printed : PrintsAnswer (differs answer) ended (line_of answer) out after

-- there is none, for this fault. Nothing was printed
pub record NoAnswer (IsFault : CheckFault → Type 0) (ended : Ended) (out after : Option (List ℕ)) : Type 0 where
  pub fault : CheckFault
  pub is : IsFault fault
  pub told : ended ≡ ended_by_fault fault
  pub silent : after ≡ out

-- `verify` of a player's transcript, by the player machine, against the script that is played on the campaign of the text
abbrev pub VerifyEnds : Ended → (text script : List ℕ) → ℕ → (transcript : List ℕ) → (out after : Option (List ℕ)) → Type 0
VerifyEnds ended text script p transcript out after =
    Answers (IsVerdict text script p transcript) verdict_differs verdict_line ended out after
    ⊎ NoAnswer (IsFaultOf false text script) ended out after

-- `compare` of what a player may know of two scripts that are played each on the campaign of its text
abbrev pub CompareEnds : Ended → (text script text2 script2 : List ℕ) → ℕ → (out after : Option (List ℕ)) → Type 0
CompareEnds ended text script text2 script2 p out after =
    Answers (IsAgreement text script text2 script2 p) agreement_differs agreement_line ended out after
    ⊎ NoAnswer (IsFaultOfPair text script text2 script2) ended out after
