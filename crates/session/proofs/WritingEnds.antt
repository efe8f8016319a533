-- The writing half, turn by turn, as its loop knows it.
use Rattle.std.proofs.Common.{◌≡◌, ℕ, ◌<◌, List, length, take, drop, sym, subst}
use Rattle.std.specs.Prelude.{Option, Ok, Err}
use Rattle.std.proofs.lemmas.List.{take-append-drop}
use Rattle.campaign_law.specs.declared.entry.Entry.{Entry}
use Rattle.campaign_law.specs.World.{World}
use Rattle.campaign_law.specs.Law.{IsOpening}
use Rattle.turn_lock.specs.Pass.{PassState}
use Rattle.session.specs.declared.hold.Hold.{Hold}
use Rattle.session.specs.declared.exchange.Found.{Found}
use Rattle.session.specs.declared.exchange.Found.TheVariants.{Lines, Gone}
use Rattle.session.specs.declared.exchange.Found.TheVariants as finding
use Rattle.session.specs.declared.writing.Wrote.{Wrote}
use Rattle.session.specs.declared.writing.Wrote.TheVariants.{All as AllWritten, Memory, WriteFault}
use Rattle.session.specs.declared.writing.Wrote.TheVariants as writes
use Rattle.session.specs.Exchanged.{Finds}
use Rattle.session.specs.Sent.{Sends, Exchanges, Drops}
use Rattle.session.specs.Written.{IsWriting, HasWritten}
use Rattle.session.proofs.WritingTurns.{exchanged, writes_on, writes_all, writes_until_cut, stops_for_memory, stops_for_fault}

module _ (w : World) (hold : Hold) (p q r : PassState Entry World) (count : ℕ) (before mid : Option (List ℕ)) (found : Found) (long : ℕ) (is : IsWriting w hold p q count before mid) (turn : Exchanges w hold count found long q r) where
  pub turned : IsWriting w hold p r count before mid × (hold.place < length r.front) × Finds w hold count r.front found
  turned = exchanged w hold p q r count before mid turn.entered found long is turn.number turn.turn

  pub finds : (other : Found) → found ≡ other → Finds w hold count r.front other
  finds other same = subst (Finds w hold count r.front) same turned.2

  pub ends_gone : IsOpening w → found ≡ Gone → HasWritten w hold p r AllWritten before mid
  ends_gone opening gone = let f = finds Gone gone in writes_all w hold p r count before mid opening turned.0 turned.1 f.0 f.1

  pub ends_cut : found ≡ finding.Cut → HasWritten w hold p r writes.Cut before mid
  ends_cut cut = let f = finds finding.Cut cut in writes_until_cut w hold p r count before mid turned.0 turned.1 f.0 f.1

  pub ends_memory : (s : PassState Entry World) → Drops w hold r s → HasWritten w hold p s Memory before mid
  ends_memory s drops = stops_for_memory w hold p r s count before mid drops.entered drops.cut turned.0 turned.1 drops.number drops.turn

  pub goes_quiet : IsWriting w hold p r count before mid
  goes_quiet = turned.0

  pub goes_on : (text : List ℕ) (lines next : ℕ) (after : Option (List ℕ)) → IsOpening w → found ≡ Lines text lines → Sends (Ok next) text count lines mid after → IsWriting w hold p r next before after
  goes_on text lines next after opening same sends =
      let f = finds (Lines text lines) same in subst (λ n. IsWriting w hold p r n before after) (sym sends.0) (writes_on w hold p r count before mid text lines opening turned.0 turned.1 f.0 f.1 after sends.1)

  pub ends_sending : (text : List ℕ) (lines : ℕ) (after : Option (List ℕ)) (stop : Wrote) (s : PassState Entry World) → IsOpening w → found ≡ Lines text lines → Sends (Err stop) text count lines mid after → Drops w hold r s → HasWritten w hold p s stop before after
  ends_sending text lines after AllWritten s opening same sends drops = absurd sends
  ends_sending text lines after writes.Cut s opening same sends drops = absurd sends
  ends_sending text lines after Memory s opening same sends drops = subst (HasWritten w hold p s Memory before) (sym sends) (ends_memory s drops)
  ends_sending text lines after WriteFault s opening same sends drops =
      let f = finds (Lines text lines) same in
      stops_for_fault w hold p r s count before mid after text (take sends.count text) lines drops.entered drops.cut opening turned.0 turned.1 f.0 f.1
      (drop sends.count text, take-append-drop sends.count text) sends.written drops.number drops.turn
