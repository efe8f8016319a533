-- What a log keeps of a script, where the source tells its bytes.
use Rattle.std.proofs.Common.{◌≡◌, ℕ, Bool, List, [], ◌∷◌, ◌++◌, refl, sym, ◌∙◌, ap, subst}
use Rattle.std.specs.Prelude.{Option}
use Rattle.line_io.specs.declared.lines.NextLine.TheVariants.{Line}
use Rattle.line_io.specs.Reader.{bytes_to_come, Answers}
use Rattle.line_io.specs.ReaderState.{ReaderState}
use Rattle.line_io.specs.Told.{WhereTold}
use Rattle.campaign_law.specs.declared.entry.Entry.{Entry}
use Rattle.campaign_law.specs.World.{World}
use Rattle.campaign_law.specs.Law.{Course, world_of}
use Rattle.script_play.specs.declared.run.Played.{Played}
use Rattle.script_play.specs.declared.run.Played.TheVariants.{Done, ReadFault, WriteFault, BadLine, TooLarge, Memory}
use Rattle.script_play.specs.Script.{Script, script_from, script_of}
use Rattle.script_play.specs.Played.{GoesOn, IsPrefix, HasEntered, entries_since}
use Rattle.script_play.proofs.Fronts.{prefix_all}
use Rattle.script_play.proofs.AfterEntry.{goes_on, since_is}
use Rattle.script_play.proofs.LineRuns.{since_all}
use Rattle.script_play.proofs.Reading.{told_weaker}
use Rattle.script_play.proofs.WholeRuns.{CameTo, stops_at}

-- the entries that came are the script's first
pub entered_front : (answer : Played) (script : Script) (es : List Entry) → HasEntered answer script es → IsPrefix es script.entries
entered_front Done script es h = subst (IsPrefix es) (sym (ap (λ (s : Script). s.entries) h)) (prefix_all es)
entered_front (BadLine number) script es h = subst (IsPrefix es) (sym (ap (λ (s : Script). s.entries) h)) (prefix_all es)
entered_front TooLarge script es h = subst (IsPrefix es) (sym (ap (λ (s : Script). s.entries) h)) (prefix_all es)
entered_front ReadFault script es h = h
entered_front WriteFault script es h = h
entered_front Memory script es h = h

pub entered_fronts : (answer : Played) (w : World) (es : List Entry) (a left : Option (List ℕ)) → WhereTold a left (λ text rest. HasEntered answer (script_of w text) es) → WhereTold a left (λ text rest. IsPrefix es (script_of w text).entries)
entered_fronts answer w es a left h = told_weaker (λ text rest. HasEntered answer (script_of w text) es) (λ text rest. IsPrefix es (script_of w text).entries) a left h (λ text rest x. entered_front answer (script_of w text) es x)

-- so are those before a line, and all of the line's
pub line_fronts : (start now : Course) (number cap : ℕ) (ended : Bool) (reader : ReaderState) (line : List ℕ) (a b left : Option (List ℕ)) → GoesOn start now → WhereTold a b (CameTo start now number ended)
    → WhereTold b (bytes_to_come reader left) (λ bytes rest. Answers cap bytes (Line line) reader.ended rest)
    → WhereTold a left (λ text rest. IsPrefix (entries_since start now ++ (script_from (world_of now) number (line ∷ [])).entries) (script_of (world_of start) text).entries)
line_fronts start now number cap ended reader line a b left g came says =
    let all : List Entry = (script_from (world_of now) number (line ∷ [])).entries in
    let then : Course = record now { history = now.history ++ all } in
    let since : entries_since now then ≡ all = since_is now then all refl in
    let on : GoesOn now then = goes_on now then all refl refl in
    let part : IsPrefix (entries_since now then) all = subst (λ (es : List Entry). IsPrefix es all) (sym since) (prefix_all all) in
    subst (λ (es : List Entry). WhereTold a left (λ text rest. IsPrefix es (script_of (world_of start) text).entries)) (since_all start now then g on ∙ ap (λ es. entries_since start now ++ es) since)
    (stops_at Memory start now then number cap ended reader line a b left tt g on came says part)
