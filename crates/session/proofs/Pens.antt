-- What both halves write by, turn by turn.
use Rattle.std.proofs.Common.{◌≡◌, ℕ, ◌≤◌, ◌<◌, ◌⊎◌, List, refl, sym, ◌∙◌, ap, subst, arith}
use Rattle.std.specs.Prelude.{Option, None, Some, Ok, Err}
use Rattle.line_io.specs.Counts.{CountRose}
use Rattle.campaign_law.specs.declared.entry.Entry.{Entry}
use Rattle.campaign_law.specs.World.{World}
use Rattle.campaign_law.specs.Law.{IsOpening}
use Rattle.turn_lock.specs.Pass.{HallState, PassState, IsPassOf, hears}
use Rattle.session.specs.declared.hold.Hold.{Hold}
use Rattle.session.specs.declared.exchange.Found.{Found}
use Rattle.session.specs.declared.exchange.Found.TheVariants.{Lines, Gone}
use Rattle.session.specs.declared.exchange.Found.TheVariants as finding
use Rattle.session.specs.declared.writing.Wrote.{Wrote}
use Rattle.session.specs.declared.writing.Wrote.TheVariants.{All as AllWritten, Memory, WriteFault}
use Rattle.session.specs.declared.writing.Wrote.TheVariants as writes
use Rattle.session.specs.Begun.{Begun, IsAtStart, IsWrittenSo}
use Rattle.session.specs.Sent.{Sends, Exchanges, Drops}
use Rattle.session.specs.Written.{IsWriting, HasWritten}
use Rattle.session.specs.Safely.{WritesSafely}
use Rattle.session.proofs.WritingTurns.{starts}
use Rattle.session.proofs.WritingEnds.{ends_gone, ends_cut, ends_memory, goes_quiet, goes_on, ends_sending}
use Rattle.session.proofs.WritingSafely.{starts_safely, waits_safely, leaves_safely, sends_safely}

-- before the first turn, once it is sure to find the Join
pub begins : (b : Begun) (Safe : ℕ → Type 0) (p q : PassState Entry World) (n : ℕ) (written : Option (List ℕ)) (faults : ℕ) → IsAtStart b p written faults → q ≡ hears p n → b.hold.place < n → IsWrittenSo b Safe q 0 None written faults
begins b Safe p q n written faults start heard past =
    let at : q ≡ hears b.pass n = heard ∙ ap (λ x. hears x n) start.pass_is in
    let none : IsWrittenSo b Safe (hears b.pass n) 0 None b.written b.faults =
    record {
      hall = subst (IsPassOf b.hall) start.pass_is start.hall;
      opening = start.opening;
      goes_on = λ none. starts b.hall.origin b.hold b.pass n b.written past;
      ended = λ end none. cc;
      safe = starts_safely Safe b.hall.origin b.hold b.pass n b.written;
      faults_rose = omega arith;
      write_fault = λ none. cc;
    } in
    subst (λ x. IsWrittenSo b Safe x 0 None written faults) (sym at) (subst (λ x. IsWrittenSo b Safe (hears b.pass n) 0 None x faults) (sym start.written_is) (subst (λ x. IsWrittenSo b Safe (hears b.pass n) 0 None b.written x) (sym start.faults_is) none))

-- a record of what is over
pub over : (b : Begun) (Safe : ℕ → Type 0) (s : PassState Entry World) (count : ℕ) (end : Wrote) (after : Option (List ℕ)) (faults : ℕ) → IsPassOf b.hall s → IsOpening b.hall.origin → HasWritten b.hall.origin b.hold b.pass s end b.written after → WritesSafely Safe b.hall.origin b.hold b.pass s b.written after
    → b.faults ≤ faults → (end ≡ WriteFault → CountRose b.faults faults) → IsWrittenSo b Safe s count (Some end) after faults
over b Safe s count end after faults hall opening wrote safe rose fault = record {
  hall = hall;
  opening = opening;
  goes_on = λ none. cc;
  ended = λ other same. subst (λ e. HasWritten b.hall.origin b.hold b.pass s e b.written after) (cc) wrote;
  safe = safe;
  faults_rose = rose;
  write_fault = λ same. fault cc;
}

module _ (b : Begun) (Safe : ℕ → Type 0) (q r : PassState Entry World) (count : ℕ) (mid : Option (List ℕ)) (faults : ℕ) (found : Found) (long : ℕ) (at : HallState World) (on : Hold) (same_hall : at ≡ b.hall) (same_hold : on ≡ b.hold) (is : IsWrittenSo b Safe q count None mid faults)
    (of_hall : IsPassOf at r) (exchanges : Exchanges at.origin on count found long q r) where
  abbrev pub w : World
  w = b.hall.origin

  hall : IsPassOf b.hall r
  hall = subst (λ x. IsPassOf x r) same_hall of_hall

  turn : Exchanges w b.hold count found long q r
  turn = subst (λ x. Exchanges w x count found long q r) same_hold (subst (λ x. Exchanges x.origin on count found long q r) same_hall exchanges)

  dropped : (s : PassState Entry World) → Drops at.origin on r s → Drops w b.hold r s
  dropped s drops = subst (λ x. Drops w x r s) same_hold (subst (λ x. Drops x.origin on r s) same_hall drops)

  left_of : (s : PassState Entry World) → IsPassOf at s → IsPassOf b.hall s
  left_of s left = subst (λ x. IsPassOf x s) same_hall left

  writing : IsWriting w b.hold b.pass q count b.written mid
  writing = is.goes_on refl

  safely : WritesSafely Safe w b.hold b.pass r b.written mid
  safely = waits_safely Safe Safe w b.hold b.pass q r count b.written mid found long writing turn is.safe

  pub over_gone : found ≡ Gone → IsWrittenSo b Safe r count (Some AllWritten) mid faults
  over_gone gone = over b Safe r count AllWritten mid faults hall is.opening (ends_gone w b.hold b.pass q r count b.written mid found long writing turn is.opening gone) safely is.faults_rose (λ no. cc)

  pub over_cut : found ≡ finding.Cut → IsWrittenSo b Safe r count (Some writes.Cut) mid faults
  over_cut cut = over b Safe r count writes.Cut mid faults hall is.opening (ends_cut w b.hold b.pass q r count b.written mid found long writing turn cut) safely is.faults_rose (λ no. cc)

  pub over_memory : (s : PassState Entry World) → IsPassOf at s → Drops at.origin on r s → IsWrittenSo b Safe s count (Some Memory) mid faults
  over_memory s left drops =
      over b Safe s count Memory mid faults (left_of s left) is.opening (ends_memory w b.hold b.pass q r count b.written mid found long writing turn s (dropped s drops)) (leaves_safely Safe w b.hold b.pass r s b.written mid safely (dropped s drops)) is.faults_rose (λ no. cc)

  pub stays : IsWrittenSo b Safe r count None mid faults
  stays = record {
    hall = hall;
    opening = is.opening;
    goes_on = λ none. goes_quiet w b.hold b.pass q r count b.written mid found long writing turn;
    ended = λ end none. cc;
    safe = safely;
    faults_rose = is.faults_rose;
    write_fault = λ none. cc;
  }

  module _ (Safer : ℕ → Type 0) (text : List ℕ) (lines : ℕ) (after : Option (List ℕ)) (faults' : ℕ) (same : found ≡ Lines text lines) (still : (n : ℕ) → Safe n → Safer n) (told : (after ≡ mid) ⊎ Safer long) (rose : faults ≤ faults') where
    all_rose : b.faults ≤ faults'
    all_rose = let before = is.faults_rose in omega (arith, before, rose)

    pub more : (next : ℕ) → Sends (Ok next) text count lines mid after → IsWrittenSo b Safer r next None after faults'
    more next sends = record {
      hall = hall;
      opening = is.opening;
      goes_on = λ none. goes_on w b.hold b.pass q r count b.written mid found long writing turn text lines next after is.opening same sends;
      ended = λ end none. cc;
      safe = sends_safely Safe Safer w b.hold b.pass q r count b.written mid found long writing turn text lines (Ok next) after still is.opening same sends told is.safe;
      faults_rose = all_rose;
      write_fault = λ none. cc;
    }

    pub over_sending : (stop : Wrote) (s : PassState Entry World) → Sends (Err stop) text count lines mid after → IsPassOf at s → Drops at.origin on r s → (stop ≡ WriteFault → CountRose faults faults') → IsWrittenSo b Safer s count (Some stop) after faults'
    over_sending stop s sends left drops fault =
        over b Safer s count stop after faults' (left_of s left) is.opening (ends_sending w b.hold b.pass q r count b.written mid found long writing turn text lines after stop s is.opening same sends (dropped s drops))
        (leaves_safely Safer w b.hold b.pass r s b.written after (sends_safely Safe Safer w b.hold b.pass q r count b.written mid found long writing turn text lines (Err stop) after still is.opening same sends told is.safe) (dropped s drops))
        all_rose (λ is_fault. λ below. let before = is.faults_rose in let rises = fault is_fault below in omega (arith, before, rises))

-- as a call answers it
pub so_over : (b : Begun) (Safe : ℕ → Type 0) (s : PassState Entry World) (count : ℕ) (end : Wrote) (after : Option (List ℕ)) (faults : ℕ) (n : ℕ) (x : Option Wrote) → IsWrittenSo b Safe s count (Some end) after faults → n ≡ count → x ≡ Some end → IsWrittenSo b Safe s n x after faults
so_over b Safe s count end after faults n x is same_count same_end = subst (λ k. IsWrittenSo b Safe s k x after faults) (sym same_count) (subst (λ y. IsWrittenSo b Safe s count y after faults) (sym same_end) is)
