-- How a run with a log ends, from what its parts did.
use Rattle.std.proofs.Common.{◌≡◌, ◌≢◌, ◌≤◌, ◌<◌, ◌^◌, ℕ, true, false, List, [], ◌∷◌, ◌++◌, length, Some, None, refl, sym, ◌∙◌, ap, subst, arith, length-append, ◌⊎◌, inl, inr}
use Rattle.std.specs.Prelude.{Option, Bool, IfSome}
use Rattle.std.specs.Io.KnownBytes.{append_known}
use Rattle.line_io.specs.Counts.{CountRose}
use Rattle.line_io.specs.Told.{WhereTold}
use Rattle.campaign_law.specs.declared.entry.Entry.{Entry}
use Rattle.campaign_law.specs.World.{World, replay}
use Rattle.campaign_law.specs.Worlds.{opened_of}
use Rattle.campaign_law.specs.Law.{Course, world_of}
use Rattle.campaign_writing.specs.Canonical.{canonical}
use Rattle.campaign_core.specs.declared.campaign.OpenFault.{OpenFault}
use Rattle.campaign_core.specs.declared.campaign.OpenFault.TheVariants as faults
use Rattle.campaign_core.specs.Opening.{world_of_text, IsOpenFault}
use Rattle.crash_log.specs.Log.{IsLog, IsBadAt, open_part}
use Rattle.crash_log.proofs.LogLaws.{log_same, log_not_bad}
use Rattle.script_play.specs.declared.run.Played.{Played}
use Rattle.script_play.specs.Script.{Script, Ending, done, bad_line, too_large}
use Rattle.script_play.specs.Played.{HasEntered}
use Rattle.script_play.specs.Sending.{WroteFront}
use Rattle.log_play.specs.declared.logged.Logged.{Logged}
use Rattle.log_play.specs.declared.logged.Logged.TheVariants as logged
use Rattle.log_play.specs.Logged.{as_played}
use Rattle.command_words.specs.Logged.{AskedLogged}
use Rattle.tabletop.specs.declared.endings.Ended.{Ended}
use Rattle.tabletop.specs.declared.endings.Ended.TheVariants as plain
use Rattle.tabletop.specs.declared.log_end.LogEnded.{LogEnded}
use Rattle.tabletop.specs.declared.log_end.LogEnded.TheVariants.{Plain, Usage, DiskFault, BadLog, OtherCampaign, Full}
use Rattle.tabletop.specs.Endings.{status_of}
use Rattle.tabletop.specs.Printing.{PrintsLine}
use Rattle.tabletop.specs.Ends.{IsToldAs, NotFetched, end_line}
use Rattle.tabletop.specs.LogEndings.{log_status, log_line, IsToldInLog, ended_logged, unopened}
use Rattle.tabletop.specs.Logged.{BreaksFormat, FileLogs, FollowsLogged, HasEndedLogged, HasNoLog, IsAskedFor, IsFound, IsFull, IsOtherLog, JobLogs, PlayedTo, RunsOn, TextLogs, resumed}
use Rattle.tabletop.proofs.OpenParts.{has_room}
use Rattle.tabletop.proofs.AnswerLemmas.{some_same, breach_world}
use Rattle.tabletop.proofs.EndsLemmas.{count_after, two_is_usage, read_fault_of, write_fault_of}

-- ---- the last line

pub told_plain : (ended told : Ended) → IsToldAs ended told → IsToldInLog (Plain ended) (Plain told)
told_plain ended told (inl same) = inl (ap Plain same)
told_plain ended told (inr less) = inr (less.0, ap Plain less.1)

-- ---- a file that wasn't fetched

abbrev unplain : Ended → LogEnded → Ended
unplain other (Plain ended) = ended
unplain other ended = other

pub plain_same : (a b : Ended) → Plain a ≡ Plain b → a ≡ b
plain_same a b e = ap (unplain a) e

pub unfetched_reads : (DeskFailed : Type 0) (want : Ended) (campaign : Option (List ℕ)) → NotFetched DeskFailed want campaign → Plain want ≡ Plain plain.ReadFault → DeskFailed
unfetched_reads DeskFailed want campaign n e = subst (λ x. NotFetched DeskFailed x campaign) (plain_same want plain.ReadFault e) n

pub unfetched_writes : (DeskFailed : Type 0) (want : Ended) (campaign : Option (List ℕ)) → NotFetched DeskFailed want campaign → Plain want ≡ Plain plain.WriteFault → ⊥
unfetched_writes DeskFailed want campaign n e = subst (λ x. NotFetched DeskFailed x campaign) (plain_same want plain.WriteFault e) n

-- ---- a text that opens no campaign

pub not_opened_ends : (Tells : Type 0) (fault : OpenFault) (ended : LogEnded) (text file : List ℕ) → ended ≡ unopened fault → IsOpenFault text fault → BreaksFormat ended text ⊎ HasNoLog Tells ended text file
not_opened_ends Tells (faults.Bad breach) ended text file is bad = inl (breach, is, bad)
not_opened_ends Tells faults.Memory ended text file is bad = inr (subst (λ (e : LogEnded). HasNoLog Tells e text file) (sym is) refl)

-- ---- what follows a script

follow_line : (answer : Logged) (end : Bool) (ended : LogEnded) (line other : List ℕ) (out after : Option (List ℕ)) → (answer ≡ logged.Done → line ≡ other) → FollowsLogged answer end ended line out after → FollowsLogged answer end ended other out after
follow_line logged.Done end ended line other out after same h = subst (λ l. FollowsLogged logged.Done end ended l out after) (same refl) h
follow_line logged.ReadFault end ended line other out after same h = h
follow_line logged.WriteFault end ended line other out after same h = h
follow_line (logged.BadLine number) end ended line other out after same h = h
follow_line logged.TooLarge end ended line other out after same h = h
follow_line logged.DiskFault end ended line other out after same h = h
follow_line logged.Full end ended line other out after same h = h
follow_line logged.Memory end ended line other out after same h = h

module _ {D : Type 0} (seen : D → List ℕ) (may_leave : D → List ℕ → Type 0) (moment : D → ℕ) (left_since : D → ℕ → List ℕ → Type 0) where
  pub runs_on : (Tells : Type 0) (end : Bool) (answer : Logged) (ended : LogEnded) (text line : List ℕ) (script left out middle after : Option (List ℕ)) (old new : D) (first last : Course)
      → world_of_text text ≡ Some first.origin → PlayedTo seen may_leave moment left_since Tells answer text script left out middle old new first last
      → line ≡ canonical (opened_of (world_of last)) ++ 10 ∷ [] → FollowsLogged answer end ended line middle after
      → RunsOn seen may_leave moment left_since Tells end ended text script left out after old new
  runs_on Tells end answer ended text line script left out middle after old new first last is p told follows = record {
    answer = answer;
    origin = first.origin;
    is = is;
    before_end = middle;
    plays = p.plays;
    follows = follow_line answer end ended line (end_line first.origin (p.plays.kept ++ p.plays.entries)) middle after (λ d. told ∙ ap (λ (w : World). canonical (opened_of w) ++ 10 ∷ []) (p.world d)) follows;
  }

  -- the whole run
  pub log_run_ended : (Tells DeskFailed : Type 0) (status : ℕ) (ended told : LogEnded) (asked : Option AskedLogged) (texts : List ℕ → Option (List ℕ)) (script left out middle after : Option (List ℕ)) (old new : D) (a b c : ℕ)
      → status ≡ log_status told → IsToldInLog ended told → JobLogs seen may_leave moment left_since Tells DeskFailed ended asked texts script left out middle old new
      → a ≤ b → (after ≡ append_known middle (log_line told)) ⊎ (CountRose b c × WroteFront middle (log_line told) after)
      → HasEndedLogged seen may_leave moment left_since Tells status asked texts script left out after old new DeskFailed (CountRose a c)
  log_run_ended Tells DeskFailed status ended told asked texts script left out middle after old new a b c s t ends le line = record {
    ended = ended;
    told = told;
    is_told = t;
    status_is = s;
    before_line = middle;
    ends = ends;
    line = elim line [ inl whole ↦ inl whole | inr front ↦ inr (count_after a b c le front.0, front.1) ];
  }

-- ---- statuses

pub log_read_fault : (status : ℕ) (ended told : LogEnded) → status ≡ log_status told → IsToldInLog ended told → status ≡ 4 → ended ≡ Plain plain.ReadFault
log_read_fault status ended (Plain e) s (inl same) h = sym same ∙ ap Plain (read_fault_of status e e s (inl refl) h)
log_read_fault status ended (Plain e) s (inr less) h = let z : Plain plain.ReadFault ≡ Plain plain.Memory = sym (ap Plain (read_fault_of status e e s (inl refl) h)) ∙ less.1 in cc
log_read_fault status ended Usage s t h = absurd (omega (arith, s, h))
log_read_fault status ended DiskFault s t h = absurd (omega (arith, s, h))
log_read_fault status ended (BadLog at) s t h = absurd (omega (arith, s, h))
log_read_fault status ended OtherCampaign s t h = absurd (omega (arith, s, h))
log_read_fault status ended Full s t h = absurd (omega (arith, s, h))

pub log_write_fault : (status : ℕ) (ended told : LogEnded) → status ≡ log_status told → IsToldInLog ended told → status ≡ 5 → ended ≡ Plain plain.WriteFault
log_write_fault status ended (Plain e) s (inl same) h = sym same ∙ ap Plain (write_fault_of status e e s (inl refl) h)
log_write_fault status ended (Plain e) s (inr less) h = let z : Plain plain.WriteFault ≡ Plain plain.Memory = sym (ap Plain (write_fault_of status e e s (inl refl) h)) ∙ less.1 in cc
log_write_fault status ended Usage s t h = absurd (omega (arith, s, h))
log_write_fault status ended DiskFault s t h = absurd (omega (arith, s, h))
log_write_fault status ended (BadLog at) s t h = absurd (omega (arith, s, h))
log_write_fault status ended OtherCampaign s t h = absurd (omega (arith, s, h))
log_write_fault status ended Full s t h = absurd (omega (arith, s, h))

not_ten : (e : Ended) → status_of e ≡ 10 → ⊥
not_ten plain.Done h = omega (arith, h)
not_ten e h = omega (arith, h)

pub log_disk_fault : (status : ℕ) (ended told : LogEnded) → status ≡ log_status told → IsToldInLog ended told → status ≡ 10 → ended ≡ DiskFault
log_disk_fault status ended (Plain e) s t h = absurd (not_ten e (sym s ∙ h))
log_disk_fault status ended DiskFault s (inl same) h = sym same
log_disk_fault status ended DiskFault s (inr less) h = let z : DiskFault ≡ Plain plain.Memory = less.1 in cc
log_disk_fault status ended Usage s t h = absurd (omega (arith, s, h))
log_disk_fault status ended (BadLog at) s t h = absurd (omega (arith, s, h))
log_disk_fault status ended OtherCampaign s t h = absurd (omega (arith, s, h))
log_disk_fault status ended Full s t h = absurd (omega (arith, s, h))

-- its own status, or that of want of memory
as_told : (status : ℕ) (ended told : LogEnded) → status ≡ log_status told → IsToldInLog ended told → (status ≡ log_status ended) ⊎ (status ≡ 6)
as_told status ended told s (inl same) = inl (s ∙ ap log_status same)
as_told status ended told s (inr less) = inr (s ∙ ap log_status less.1)

-- ---- words that are not these

abbrev IsUsage : LogEnded → Type 0
IsUsage (Plain ended) = ended ≡ plain.Usage
IsUsage Usage = Unit {0}
IsUsage DiskFault = ⊥
IsUsage (BadLog at) = ⊥
IsUsage OtherCampaign = ⊥
IsUsage Full = ⊥

two_usage : (told : LogEnded) → log_status told ≡ 2 → IsUsage told
two_usage (Plain e) s = two_is_usage e s
two_usage Usage s = tt
two_usage DiskFault s = absurd (omega (arith, s))
two_usage (BadLog at) s = absurd (omega (arith, s))
two_usage OtherCampaign s = absurd (omega (arith, s))
two_usage Full s = absurd (omega (arith, s))

logged_not : (answer : Logged) → IsUsage (ended_logged answer) → ⊥
logged_not logged.Done e = cc
logged_not logged.ReadFault e = cc
logged_not logged.WriteFault e = cc
logged_not (logged.BadLine number) e = cc
logged_not logged.TooLarge e = cc
logged_not logged.DiskFault e = e
logged_not logged.Full e = e
logged_not logged.Memory e = cc

follows_not : (answer : Logged) (end : Bool) (ended : LogEnded) (line : List ℕ) (out after : Option (List ℕ)) → IsUsage ended → FollowsLogged answer end ended line out after → ⊥
follows_not logged.Done true ended line out after u h = subst (λ p. PrintsLine p line out after) (subst IsUsage h.1 u) h.2
follows_not logged.Done false ended line out after u h = logged_not logged.Done (subst IsUsage h.0 u)
follows_not logged.ReadFault end ended line out after u h = logged_not logged.ReadFault (subst IsUsage h.0 u)
follows_not logged.WriteFault end ended line out after u h = logged_not logged.WriteFault (subst IsUsage h.0 u)
follows_not (logged.BadLine number) end ended line out after u h = logged_not (logged.BadLine number) (subst IsUsage h.0 u)
follows_not logged.TooLarge end ended line out after u h = logged_not logged.TooLarge (subst IsUsage h.0 u)
follows_not logged.DiskFault end ended line out after u h = logged_not logged.DiskFault (subst IsUsage h.0 u)
follows_not logged.Full end ended line out after u h = logged_not logged.Full (subst IsUsage h.0 u)
follows_not logged.Memory end ended line out after u h = logged_not logged.Memory (subst IsUsage h.0 u)

no_log_not : (Tells : Type 0) (ended : LogEnded) (text file : List ℕ) → IsUsage ended → HasNoLog Tells ended text file → ⊥
no_log_not Tells (Plain e) text file u h = let z : plain.Usage ≡ plain.Memory = sym u ∙ h in cc
no_log_not Tells Usage text file u h = h
no_log_not Tells DiskFault text file u h = u
no_log_not Tells (BadLog at) text file u h = u
no_log_not Tells OtherCampaign text file u h = u
no_log_not Tells Full text file u h = u

told_usage : (ended told : LogEnded) → IsToldInLog ended told → IsUsage told → IsUsage ended
told_usage ended told (inl same) u = subst IsUsage same u
told_usage ended told (inr less) u = let z : plain.Memory ≡ plain.Usage = subst IsUsage less.1 u in cc

module _ {D : Type 0} (seen : D → List ℕ) (may_leave : D → List ℕ → Type 0) (moment : D → ℕ) (left_since : D → ℕ → List ℕ → Type 0) where
  text_not : (Tells : Type 0) (end : Bool) (ended : LogEnded) (text : List ℕ) (script left out after : Option (List ℕ)) (old new : D) → IsUsage ended → TextLogs seen may_leave moment left_since Tells end ended text script left out after old new → ⊥
  text_not Tells end ended text script left out after old new u (inl none) = by none.0
    where
      by : BreaksFormat ended text ⊎ HasNoLog Tells ended text (seen old) → ⊥
      by (inl breaks) = let z : plain.BadCampaign breaks.0 ≡ plain.Usage = subst IsUsage breaks.1 u in cc
      by (inr missing) = no_log_not Tells ended text (seen old) u missing
  text_not Tells end ended text script left out after old new u (inr runs) = follows_not runs.answer end ended (end_line runs.origin (runs.plays.kept ++ runs.plays.entries)) runs.before_end after u runs.follows

  job_not : (Tells DeskFailed : Type 0) (ended : LogEnded) (asked : Option AskedLogged) (texts : List ℕ → Option (List ℕ)) (script left out after : Option (List ℕ)) (old new : D) → IsUsage ended
      → JobLogs seen may_leave moment left_since Tells DeskFailed ended asked texts script left out after old new → asked ≡ None
  job_not Tells DeskFailed ended None texts script left out after old new u h = refl
  job_not Tells DeskFailed ended (Some play) texts script left out after old new u (inl none) = absurd (subst (λ e. NotFetched DeskFailed e (texts play.file)) (subst IsUsage none.1 u) none.2)
  job_not Tells DeskFailed ended (Some play) texts script left out after old new u (inr f) = absurd (text_not Tells play.end ended f.text script left out after old new u f.ends)

  pub usage_only : (Tells DeskFailed OutFailed : Type 0) (status : ℕ) (asked : Option AskedLogged) (texts : List ℕ → Option (List ℕ)) (script left out after : Option (List ℕ)) (old new : D)
      → HasEndedLogged seen may_leave moment left_since Tells status asked texts script left out after old new DeskFailed OutFailed → status ≡ 2 → asked ≡ None
  usage_only Tells DeskFailed OutFailed status asked texts script left out after old new h s =
      job_not Tells DeskFailed h.ended asked texts script left out h.before_line old new (told_usage h.ended h.told h.is_told (two_usage h.told (sym h.status_is ∙ s))) h.ends

  pub usage_is : (Tells DeskFailed OutFailed : Type 0) (status : ℕ) (asked : Option AskedLogged) (texts : List ℕ → Option (List ℕ)) (script left out after : Option (List ℕ)) (old new : D)
      → HasEndedLogged seen may_leave moment left_since Tells status asked texts script left out after old new DeskFailed OutFailed → asked ≡ None → status ≡ 2
  usage_is Tells DeskFailed OutFailed status asked texts script left out after old new h none =
      let ends : JobLogs seen may_leave moment left_since Tells DeskFailed h.ended None texts script left out h.before_line old new =
      subst (λ (a : Option AskedLogged). JobLogs seen may_leave moment left_since Tells DeskFailed h.ended a texts script left out h.before_line old new) none h.ends in
      by (subst (λ (e : LogEnded). IsToldInLog e h.told) ends.0 h.is_told)
    where
      by : IsToldInLog Usage h.told → status ≡ 2
      by (inl same) = h.status_is ∙ ap log_status same
      by (inr less) = absurd less.0

-- ---- logs

no_empty_log : (text : List ℕ) (entries : List Entry) → IsLog text entries [] → ⊥
no_empty_log text entries h = omega (arith, ap length h.is, length-append (open_part text entries) (h.gate ∷ h.behind))

-- a file is found with these entries, and no others
found_same : (text : List ℕ) (kept others : List Entry) (file : List ℕ) → IsFound text kept file → IsFound text others file → kept ≡ others
found_same text kept others file (inl a) (inl b) = a.1 ∙ sym b.1
found_same text kept others file (inl a) (inr b) = absurd (no_empty_log text others (subst (IsLog text others) a.0 b))
found_same text kept others file (inr a) (inl b) = absurd (no_empty_log text kept (subst (IsLog text kept) b.0 a))
found_same text kept others file (inr a) (inr b) = (log_same text text kept others file a b).1

not_other : (text : List ℕ) (kept : List Entry) (file : List ℕ) → IsFound text kept file → IsOtherLog text file → ⊥
not_other text kept file (inl a) o = no_empty_log o.other o.entries (subst (IsLog o.other o.entries) a.0 o.log)
not_other text kept file (inr a) o = o.differs (log_same o.other text o.entries kept file o.log a).0

not_bad : (text : List ℕ) (kept : List Entry) (file : List ℕ) (place : ℕ) → IsFound text kept file → file ≢ [] → IsBadAt file place → ⊥
not_bad text kept file place (inl a) there bad = there a.0
not_bad text kept file place (inr a) there bad = log_not_bad text kept file place a bad

-- ---- completeness

abbrev OrMemory : ℕ → ℕ → Type 0
OrMemory status n = (status ≡ n) ⊎ (status ≡ 6)

bad_no_log : (Tells : Type 0) (status : ℕ) (ended : LogEnded) (text file : List ℕ) (place : ℕ) → Tells → file ≢ [] → IsBadAt file place → (status ≡ 10 → ⊥) → status ≡ log_status ended → HasNoLog Tells ended text file → OrMemory status 11
bad_no_log Tells status (Plain e) text file place told there bad no_disk s h = inr (s ∙ ap status_of h)
bad_no_log Tells status Usage text file place told there bad no_disk s h = absurd h
bad_no_log Tells status DiskFault text file place told there bad no_disk s h = absurd (no_disk s)
bad_no_log Tells status (BadLog at) text file place told there bad no_disk s h = inl s
bad_no_log Tells status OtherCampaign text file place told there bad no_disk s h = let o : IsOtherLog text file = h told in absurd (log_not_bad o.other o.entries file place o.log bad)
bad_no_log Tells status Full text file place told there bad no_disk s h = absurd h

other_no_log : (Tells : Type 0) (status : ℕ) (ended : LogEnded) (text file : List ℕ) → Tells → IsOtherLog text file → (status ≡ 10 → ⊥) → status ≡ log_status ended → HasNoLog Tells ended text file → OrMemory status 12
other_no_log Tells status (Plain e) text file told o no_disk s h = inr (s ∙ ap status_of h)
other_no_log Tells status Usage text file told o no_disk s h = absurd h
other_no_log Tells status DiskFault text file told o no_disk s h = absurd (no_disk s)
other_no_log Tells status (BadLog at) text file told o no_disk s h = absurd (log_not_bad o.other o.entries file at o.log (h told).1)
other_no_log Tells status OtherCampaign text file told o no_disk s h = inl s
other_no_log Tells status Full text file told o no_disk s h = absurd h

found_no_log : (Tells : Type 0) (status : ℕ) (ended : LogEnded) (text file : List ℕ) (kept : List Entry) → Tells → IsFound text kept file → (status ≡ 10 → ⊥) → status ≡ log_status ended → HasNoLog Tells ended text file → OrMemory status 0
found_no_log Tells status (Plain e) text file kept told found no_disk s h = inr (s ∙ ap status_of h)
found_no_log Tells status Usage text file kept told found no_disk s h = absurd h
found_no_log Tells status DiskFault text file kept told found no_disk s h = absurd (no_disk s)
found_no_log Tells status (BadLog at) text file kept told found no_disk s h = absurd (not_bad text kept file at found (h told).0 (h told).1)
found_no_log Tells status OtherCampaign text file kept told found no_disk s h = absurd (not_other text kept file found (h told))
found_no_log Tells status Full text file kept told found no_disk s h = absurd h

printed_done : (status : ℕ) (printed : Ended) (line : List ℕ) (out after : Option (List ℕ)) → (status ≡ 5 → ⊥) → status ≡ status_of printed → PrintsLine printed line out after → OrMemory status 0
printed_done status plain.Done line out after no_write s h = inl s
printed_done status plain.WriteFault line out after no_write s h = absurd (no_write s)
printed_done status plain.Memory line out after no_write s h = inr s
printed_done status e line out after no_write s h = absurd h

-- a script that ends as done ends no run otherwise
ends_done : (script left : Option (List ℕ)) (all : List ℕ) (of : List ℕ → Script) (answer : Played) (ending : Ending) (entries : List Entry) → script ≡ Some all → (of all).ending ≡ done
    → ((s : Script) → HasEntered answer s entries → s.ending ≡ ending) → WhereTold script left (λ text rest. HasEntered answer (of text) entries) → done ≡ ending
ends_done script left all of answer ending entries is ends says h = sym ends ∙ says (of all) (told_some left (subst (λ x. WhereTold x left (λ text rest. HasEntered answer (of text) entries)) is h))
  where
    told_some : (left : Option (List ℕ)) → WhereTold (Some all) left (λ text rest. HasEntered answer (of text) entries) → HasEntered answer (of all) entries
    told_some None h = absurd h
    told_some (Some rest) h = h

told_full : (script left : Option (List ℕ)) (all : List ℕ) (P : List ℕ → Type 0) → script ≡ Some all → WhereTold script left (λ text rest. P text) → P all
told_full script left all P is h = by left (subst (λ x. WhereTold x left (λ text rest. P text)) is h)
  where
    by : (left : Option (List ℕ)) → WhereTold (Some all) left (λ text rest. P text) → P all
    by None h = absurd h
    by (Some rest) h = h

module _ {D : Type 0} (seen : D → List ℕ) (may_leave : D → List ℕ → Type 0) (moment : D → ℕ) (left_since : D → ℕ → List ℕ → Type 0) where
  -- the words are these, the desk has the campaign and it is read: no log is there, or the script is played
  data Comes (Tells : Type 0) (ended : LogEnded) (text : List ℕ) (origin : World) (script left out after : Option (List ℕ)) (old new : D) : Type 0 where
    no_log : HasNoLog Tells ended text (seen old) → Comes Tells ended text origin script left out after old new
    runs : (end : Bool) (r : RunsOn seen may_leave moment left_since Tells end ended text script left out after old new) → r.origin ≡ origin → Comes Tells ended text origin script left out after old new

  comes : (Tells DeskFailed : Type 0) (ended : LogEnded) (asked : Option AskedLogged) (texts : List ℕ → Option (List ℕ)) (campaign : List ℕ) (origin : World) (script left out after : Option (List ℕ)) (old new : D)
      → IsAskedFor asked texts campaign origin → ¬ DeskFailed → JobLogs seen may_leave moment left_since Tells DeskFailed ended asked texts script left out after old new
      → Comes Tells ended campaign origin script left out after old new
  comes Tells DeskFailed ended asked texts campaign origin script left out after old new a no_desk h =
      by (subst (λ (x : Option AskedLogged). JobLogs seen may_leave moment left_since Tells DeskFailed ended x texts script left out after old new) a.is h)
    where
      unfetched_as : (want : Ended) → NotFetched DeskFailed want (Some campaign) → want ≡ plain.Memory
      unfetched_as plain.ReadFault n = absurd (no_desk n)
      unfetched_as plain.TooLarge n = absurd (omega (arith, n, a.small))
      unfetched_as plain.Memory n = refl
      unfetched_as want n = absurd n

      with_text : TextLogs seen may_leave moment left_since Tells a.play.end ended campaign script left out after old new → Comes Tells ended campaign origin script left out after old new
      with_text (inl (inl breaks, same)) = absurd (breach_world campaign breaks.0 origin a.world breaks.2)
      with_text (inl (inr none, same)) = no_log none
      with_text (inr r) = runs a.play.end r (some_same r.origin origin (sym r.is ∙ a.world))

      by : FileLogs seen may_leave moment left_since Tells DeskFailed a.play.end ended (texts a.play.file) script left out after old new → Comes Tells ended campaign origin script left out after old new
      by (inl none) =
          let e : none.0 ≡ plain.Memory = unfetched_as none.0 (subst (NotFetched DeskFailed none.0) a.told none.2) in
          no_log (subst (λ (x : LogEnded). HasNoLog Tells x campaign (seen old)) (sym (none.1 ∙ ap Plain e)) refl)
      by (inr f) =
          let same : f.text ≡ campaign = subst (λ c. IfSome c (λ told. f.text ≡ told)) a.told f.told in
          with_text (subst (λ (t : List ℕ). TextLogs seen may_leave moment left_since Tells a.play.end ended t script left out after old new) same f.ends)

  module _ (Tells DeskFailed OutFailed : Type 0) (status : ℕ) (asked : Option AskedLogged) (texts : List ℕ → Option (List ℕ)) (script left out after : Option (List ℕ)) (old new : D)
      (h : HasEndedLogged seen may_leave moment left_since Tells status asked texts script left out after old new DeskFailed OutFailed)
      (campaign : List ℕ) (origin : World) (a : IsAskedFor asked texts campaign origin) (told : Tells) (no_desk : ¬ DeskFailed) (no_disk : status ≡ 10 → ⊥) where
    pub bad_completes : (place : ℕ) → seen old ≢ [] → IsBadAt (seen old) place → OrMemory status 11
    bad_completes place there bad = by (as_told status h.ended h.told h.status_is h.is_told) (comes Tells DeskFailed h.ended asked texts campaign origin script left out h.before_line old new a no_desk h.ends)
      where
        by : (status ≡ log_status h.ended) ⊎ (status ≡ 6) → Comes Tells h.ended campaign origin script left out h.before_line old new → OrMemory status 11
        by (inr six) c = inr six
        by (inl s) (no_log none) = bad_no_log Tells status h.ended campaign (seen old) place told there bad no_disk s none
        by (inl s) (runs end r is) = absurd (not_bad campaign r.plays.kept (seen old) place (r.plays.log told).begins.found there bad)

    pub other_completes : IsOtherLog campaign (seen old) → OrMemory status 12
    other_completes other = by (as_told status h.ended h.told h.status_is h.is_told) (comes Tells DeskFailed h.ended asked texts campaign origin script left out h.before_line old new a no_desk h.ends)
      where
        by : (status ≡ log_status h.ended) ⊎ (status ≡ 6) → Comes Tells h.ended campaign origin script left out h.before_line old new → OrMemory status 12
        by (inr six) c = inr six
        by (inl s) (no_log none) = other_no_log Tells status h.ended campaign (seen old) told other no_disk s none
        by (inl s) (runs end r is) = absurd (not_other campaign r.plays.kept (seen old) (r.plays.log told).begins.found other)

    module _ (all : List ℕ) (kept : List Entry) (found : IsFound campaign kept (seen old)) (script_is : script ≡ Some all) (ends : (resumed (replay origin kept) all).ending ≡ done)
        (room : length (open_part campaign (kept ++ (resumed (replay origin kept) all).entries)) < 2 ^ 30) (no_read : status ≡ 4 → ⊥) (no_write : status ≡ 5 → ⊥) where
      run_done : (end : Bool) (r : RunsOn seen may_leave moment left_since Tells end h.ended campaign script left out h.before_line old new) → r.origin ≡ origin → status ≡ log_status h.ended → OrMemory status 0
      run_done end r is s = by_answer r.answer refl end r.follows
        where
          kept_is : r.plays.kept ≡ kept
          kept_is = found_same campaign r.plays.kept kept (seen old) (r.plays.log told).begins.found found

          ends_so : (resumed (replay r.origin r.plays.kept) all).ending ≡ done
          ends_so = (λ i. (resumed (replay (is i) (kept_is i)) all).ending) ∙ ends

          entered_as : (answer : Logged) (ending : Ending) → r.answer ≡ answer → ((x : Script) → HasEntered (as_played answer) x r.plays.entries → x.ending ≡ ending) → done ≡ ending
          entered_as answer ending same says =
              ends_done script left all (resumed (replay r.origin r.plays.kept)) (as_played answer) ending r.plays.entries script_is ends_so says
              (subst (λ (x : Logged). WhereTold script left (λ text rest. HasEntered (as_played x) (resumed (replay r.origin r.plays.kept) text) r.plays.entries)) same r.plays.entered)

          full_room : r.answer ≡ logged.Full → ⊥
          full_room same =
              has_room campaign r.plays.kept r.plays.entries (resumed (replay r.origin r.plays.kept) all).entries
              (subst (λ (n : ℕ). n < 2 ^ 30) (λ i. length (open_part campaign (sym kept_is i ++ (resumed (replay (sym is i) (sym kept_is i)) all).entries))) room)
              (told_full script left all (λ text. IsFull campaign r.plays.kept r.plays.entries (resumed (replay r.origin r.plays.kept) text).entries) script_is (r.plays.full told same))

          by_answer : (answer : Logged) → r.answer ≡ answer → (end : Bool) → FollowsLogged answer end h.ended (end_line r.origin (r.plays.kept ++ r.plays.entries)) r.before_end h.before_line → OrMemory status 0
          by_answer logged.Done same true f = printed_done status f.0 (end_line r.origin (r.plays.kept ++ r.plays.entries)) r.before_end h.before_line no_write (s ∙ ap log_status f.1) f.2
          by_answer logged.Done same false f = inl (s ∙ ap log_status f.0)
          by_answer logged.ReadFault same end f = absurd (no_read (s ∙ ap log_status f.0))
          by_answer logged.WriteFault same end f = absurd (no_write (s ∙ ap log_status f.0))
          by_answer (logged.BadLine number) same end f = let z : done ≡ bad_line number = entered_as (logged.BadLine number) (bad_line number) same (λ x e. ap (λ (y : Script). y.ending) e) in cc
          by_answer logged.TooLarge same end f = let z : done ≡ too_large = entered_as logged.TooLarge too_large same (λ x e. ap (λ (y : Script). y.ending) e) in cc
          by_answer logged.DiskFault same end f = absurd (no_disk (s ∙ ap log_status f.0))
          by_answer logged.Full same end f = absurd (full_room same)
          by_answer logged.Memory same end f = inr (s ∙ ap log_status f.0)

      pub log_play_completes : OrMemory status 0
      log_play_completes = by (as_told status h.ended h.told h.status_is h.is_told) (comes Tells DeskFailed h.ended asked texts campaign origin script left out h.before_line old new a no_desk h.ends)
        where
          by : (status ≡ log_status h.ended) ⊎ (status ≡ 6) → Comes Tells h.ended campaign origin script left out h.before_line old new → OrMemory status 0
          by (inr six) c = inr six
          by (inl s) (no_log none) = found_no_log Tells status h.ended campaign (seen old) kept told found no_disk s none
          by (inl s) (runs end r is) = run_done end r is s
