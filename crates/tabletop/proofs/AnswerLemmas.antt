-- How `verify` and `compare` end, once the texts of their files were there.
use Rattle.std.proofs.Common.{◌≡◌, ℕ, true, false, List, refl, sym, ◌∙◌, ap, ◌⊎◌, inl, inr}
use Rattle.std.specs.Prelude.{Option, Some, None, unwrap_or, Bool, Err}
use Rattle.campaign_json.specs.declared.faults.BadCampaign.{BadCampaign as Breach}
use Rattle.campaign_file.specs.Campaign.{campaign_of}
use Rattle.campaign_law.specs.World.{World}
use Rattle.campaign_core.specs.Opening.{world_of as read_world, world_of_text}
use Rattle.script_play.specs.Script.{Script, Ending, done, bad_line, too_large, script_of}
use Rattle.transcript_check.specs.declared.fault.CheckFault.{CheckFault}
use Rattle.transcript_check.specs.declared.fault.CheckFault.TheVariants as faults
use Rattle.transcript_check.specs.Checks.{IsPlayed, IsPlayable, Stops, IsFaultOf, IsFaultOfPair, IsVerdict, IsAgreement}
use Rattle.tabletop.specs.declared.endings.Ended.{Ended}
use Rattle.tabletop.specs.declared.endings.Ended.TheVariants.{Done, Usage, BadCampaign, ReadFault, WriteFault, Memory, BadLine, TooLarge, DoorFault, Differs}
use Rattle.tabletop.specs.Endings.{status_of, HasOwnLine}
use Rattle.tabletop.specs.Printing.{PrintsAnswer}
use Rattle.tabletop.specs.Answered.{Answers, NoAnswer, VerifyEnds, CompareEnds, ended_by_fault, verdict_differs, verdict_line, agreement_differs, agreement_line}

-- ---- a text that is off the format, a script that stops

pub breach_world : (text : List ℕ) (breach : Breach) (origin : World) → world_of_text text ≡ Some origin → campaign_of text ≡ Err breach → ⊥
breach_world text breach origin is bad = let z : None ≡ Some origin = sym (ap read_world bad) ∙ is in cc

pub some_same : {A : Type 0} (x y : A) → Some x ≡ Some y → x ≡ y
some_same x y e = ap (λ (o : Option _). unwrap_or o x) e

-- a script that is played to its end stops nowhere
played_on : (text script : List ℕ) (ending : Ending) → IsPlayable text script → Stops text script ending → done ≡ ending
played_on text script ending p s =
    let played : IsPlayed text script p.0 p.1 = p.2 in
    let same : s.world ≡ p.0 = some_same s.world p.0 (sym s.opens ∙ played.opens) in
    sym (ap (λ (x : Script). x.ending) played.ends) ∙ sym (ap (λ w. (script_of w script).ending) same) ∙ s.stops

-- where it is, a check gives no answer for want of memory alone
fault_done : (which : Bool) (text script : List ℕ) (fault : CheckFault) → IsPlayable text script → IsFaultOf which text script fault → status_of (ended_by_fault fault) ≡ 6
fault_done which text script (faults.Bad second breach) p is = absurd (breach_world text breach p.0 p.2.opens is.1)
fault_done which text script (faults.BadLine second line) p is = let z : done ≡ bad_line line = played_on text script (bad_line line) p is.1 in cc
fault_done which text script (faults.TooLarge second) p is = let z : done ≡ too_large = played_on text script too_large p is.1 in cc
fault_done which text script faults.Memory p is = refl

pair_done : (text script text2 script2 : List ℕ) (fault : CheckFault) → IsPlayable text script → IsPlayable text2 script2 → IsFaultOfPair text script text2 script2 fault → status_of (ended_by_fault fault) ≡ 6
pair_done text script text2 script2 fault p p2 (inl first) = fault_done false text script fault p first
pair_done text script text2 script2 fault p p2 (inr second) = fault_done true text2 script2 fault p2 second.1

-- ---- a fault is none of these endings

pub fault_usage : (fault : CheckFault) → ended_by_fault fault ≡ Usage → ⊥
fault_usage (faults.Bad second breach) e = cc
fault_usage (faults.BadLine second line) e = cc
fault_usage (faults.TooLarge second) e = cc
fault_usage faults.Memory e = cc

-- ---- an answer that was printed, or none

abbrev pub IsAnswered : ℕ → Type 0
IsAnswered status = (status ≡ 0) ⊎ ((status ≡ 14) ⊎ (status ≡ 6))

no_own_line : (differs : Bool) (ended : Ended) (line : List ℕ) (out after : Option (List ℕ)) → HasOwnLine ended → PrintsAnswer differs ended line out after → ⊥
no_own_line differs (BadCampaign breach) line out after own h = h
no_own_line differs (BadLine number) line out after own h = h
no_own_line differs Done line out after own h = own
no_own_line differs Usage line out after own h = own
no_own_line differs ReadFault line out after own h = own
no_own_line differs WriteFault line out after own h = own
no_own_line differs Memory line out after own h = own
no_own_line differs TooLarge line out after own h = own
no_own_line differs DoorFault line out after own h = own
no_own_line differs Differs line out after own h = own

printed_done : (differs : Bool) (ended : Ended) (line : List ℕ) (out after : Option (List ℕ)) → ¬ (status_of ended ≡ 5) → PrintsAnswer differs ended line out after → IsAnswered (status_of ended)
printed_done differs Done line out after no_write h = inl refl
printed_done differs Differs line out after no_write h = inr (inl refl)
printed_done differs Memory line out after no_write h = inr (inr refl)
printed_done differs WriteFault line out after no_write h = absurd (no_write refl)
printed_done differs Usage line out after no_write h = absurd h
printed_done differs (BadCampaign breach) line out after no_write h = absurd h
printed_done differs ReadFault line out after no_write h = absurd h
printed_done differs (BadLine number) line out after no_write h = absurd h
printed_done differs TooLarge line out after no_write h = absurd h
printed_done differs DoorFault line out after no_write h = absurd h

module _ {A : Type 0} (IsAnswer : A → Type 0) (differs : A → Bool) (line_of : A → List ℕ) (IsFault : CheckFault → Type 0) (out after : Option (List ℕ)) where
  abbrev Ends : Ended → Type 0
  Ends ended = Answers IsAnswer differs line_of ended out after ⊎ NoAnswer IsFault ended out after

  -- where memory is wanting for the last line
  ends_less : (ended : Ended) → IsFault faults.Memory → HasOwnLine ended → Ends ended → Ends Memory
  ends_less ended memory own (inl a) = absurd (no_own_line (differs a.answer) ended (line_of a.answer) out after own a.printed)
  ends_less ended memory own (inr n) = inr (record { fault = faults.Memory; is = memory; told = refl; silent = n.silent })

  ends_used : Ends Usage → ⊥
  ends_used (inl a) = a.printed
  ends_used (inr n) = fault_usage n.fault (sym n.told)

  ends_done : (ended : Ended) → ((fault : CheckFault) → IsFault fault → status_of (ended_by_fault fault) ≡ 6) → ¬ (status_of ended ≡ 5) → Ends ended → IsAnswered (status_of ended)
  ends_done ended only no_write (inl a) = printed_done (differs a.answer) ended (line_of a.answer) out after no_write a.printed
  ends_done ended only no_write (inr n) = inr (inr (ap status_of n.told ∙ only n.fault n.is))

-- ---- `verify`

module _ (text script : List ℕ) (p : ℕ) (transcript : List ℕ) (out after : Option (List ℕ)) where
  pub verify_less : (ended : Ended) → HasOwnLine ended → VerifyEnds ended text script p transcript out after → VerifyEnds Memory text script p transcript out after
  verify_less ended own h = ends_less (IsVerdict text script p transcript) verdict_differs verdict_line (IsFaultOf false text script) out after ended tt own h

  pub verify_used : VerifyEnds Usage text script p transcript out after → ⊥
  verify_used h = ends_used (IsVerdict text script p transcript) verdict_differs verdict_line (IsFaultOf false text script) out after h

  pub verify_done : (ended : Ended) → IsPlayable text script → ¬ (status_of ended ≡ 5) → VerifyEnds ended text script p transcript out after → IsAnswered (status_of ended)
  verify_done ended played no_write h =
      ends_done (IsVerdict text script p transcript) verdict_differs verdict_line (IsFaultOf false text script) out after ended (λ fault is. fault_done false text script fault played is) no_write h

-- ---- `compare`

module _ (text script text2 script2 : List ℕ) (p : ℕ) (out after : Option (List ℕ)) where
  pub compare_less : (ended : Ended) → HasOwnLine ended → CompareEnds ended text script text2 script2 p out after → CompareEnds Memory text script text2 script2 p out after
  compare_less ended own h = ends_less (IsAgreement text script text2 script2 p) agreement_differs agreement_line (IsFaultOfPair text script text2 script2) out after ended (inl tt) own h

  pub compare_used : CompareEnds Usage text script text2 script2 p out after → ⊥
  compare_used h = ends_used (IsAgreement text script text2 script2 p) agreement_differs agreement_line (IsFaultOfPair text script text2 script2) out after h

  pub compare_done : (ended : Ended) → IsPlayable text script → IsPlayable text2 script2 → ¬ (status_of ended ≡ 5) → CompareEnds ended text script text2 script2 p out after → IsAnswered (status_of ended)
  compare_done ended played played2 no_write h =
      ends_done (IsAgreement text script text2 script2 p) agreement_differs agreement_line (IsFaultOfPair text script text2 script2) out after ended (λ fault is. pair_done text script text2 script2 fault played played2 is) no_write h
