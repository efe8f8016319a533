-- The line of a refusal.
use Rattle.std.proofs.Common.{◌≡◌, ℕ, ◌≤◌, List, [], ◌∷◌, ◌++◌, take, drop, sym, ◌∙◌, ap, arith, append_assoc}
use Rattle.std.specs.Prelude.{Option}
use Rattle.std.proofs.lemmas.List.{take-append-drop}
use Rattle.std.specs.Io.KnownBytes.{append_known}
use Rattle.line_io.specs.Counts.{CountRose}
use Rattle.session.specs.Ends.{WroteLine}
use Rattle.session.proofs.WritingTurns.{append_known-append}

pub line_part : (line : List ℕ) (count : ℕ) (before after : Option (List ℕ)) (faults_before faults_after : ℕ) → after ≡ append_known before (take count line) → CountRose faults_before faults_after → WroteLine line before after faults_before faults_after
line_part line count before after faults_before faults_after written rose = record {
  text = take count line;
  written = written;
  prefix = (drop count line ++ 10 ∷ [], sym (append_assoc (take count line) (drop count line) (10 ∷ [])) ∙ ap (λ l. l ++ 10 ∷ []) (take-append-drop count line));
  whole = λ none. absurd (none rose);
}

pub line_whole : (line : List ℕ) (before mid after : Option (List ℕ)) (faults_before faults_mid faults_after : ℕ) → mid ≡ append_known before line → faults_before ≤ faults_mid → WroteLine [] mid after faults_mid faults_after → WroteLine line before after faults_before faults_after
line_whole line before mid after faults_before faults_mid faults_after first le wrote = record {
  text = line ++ wrote.text;
  written = wrote.written ∙ ap (λ known. append_known known wrote.text) first ∙ append_known-append before line wrote.text;
  prefix = (wrote.prefix.0, append_assoc line wrote.text wrote.prefix.0 ∙ ap (λ l. line ++ l) wrote.prefix.1);
  whole = λ none. ap (λ l. line ++ l) (wrote.whole (λ rose. none (λ lt. let a = rose lt in omega (arith, a, le))));
}
