-- A script that is played behind the entries of a log, from where the log was made or recovered.
use Rattle.std.proofs.Common.{◌≡◌, ◌≤◌, ℕ, List, [], ◌++◌, refl, sym, ◌∙◌, ap, subst}
use Rattle.std.specs.Prelude.{Option}
use Rattle.std.proofs.lemmas.List.{append-nil}
use Rattle.line_io.specs.Told.{WhereTold}
use Rattle.campaign_law.specs.declared.entry.Entry.{Entry}
use Rattle.campaign_law.specs.World.{World, replay, sent}
use Rattle.campaign_law.specs.Player.{opening, trace, machine}
use Rattle.campaign_law.specs.Law.{Course, IsOpening, world_of}
use Rattle.campaign_law.proofs.Simulation.{sent_is_machine}
use Rattle.crash_log.specs.Disk.{LeavesOnly}
use Rattle.crash_log.specs.Log.{HoldsLog}
use Rattle.script_play.specs.declared.run.Played.{Played}
use Rattle.script_play.specs.declared.run.Played.TheVariants as played
use Rattle.script_play.specs.Tagged.{lines_behind}
use Rattle.script_play.specs.Played.{GoesOn, HasEntered, HasRead, HasWritten, AreWrittenOf, IsPartSent, Writes, entries_since}
use Rattle.script_play.proofs.Fronts.{prefix_part, wrote_nothing}
use Rattle.script_play.proofs.AfterEntry.{nothing_since, stays}
use Rattle.script_play.proofs.Reading.{told_same, told_weaker}
use Rattle.script_play.proofs.Written.{writes}
use Rattle.log_play.specs.declared.logged.Logged.{Logged}
use Rattle.log_play.specs.declared.logged.Logged.TheVariants.{Done, Full, Memory}
use Rattle.log_play.specs.Logged.{as_played, UnlessDiskFault}
use Rattle.log_play.specs.Kept.{HasFront, HasNoRoom, Keeps}
use Rattle.log_play.proofs.KeptLemmas.{keeps_nothing}
use Rattle.tabletop.specs.Logged.{Begins, IsFull, PlayedTo, behind_leaves, resumed, start_of}
use Rattle.tabletop.proofs.OpenParts.{is_full}
use Rattle.tabletop.proofs.Resuming.{told_both}

-- ---- the campaign behind the log's entries

module _ (first now last : Course) (kept : List Entry) (none : first.history ≡ []) (origin : now.origin ≡ first.origin) (history : now.history ≡ first.history ++ kept) (opens : IsOpening first.origin) where
  all_kept : now.history ≡ kept
  all_kept = history ∙ ap (λ h. h ++ kept) none

  world_kept : world_of now ≡ replay first.origin kept
  world_kept = λ i. replay (origin i) (all_kept i)

  opens_now : IsOpening now.origin
  opens_now = subst IsOpening (sym origin) opens

  module _ (g : GoesOn now last) where
    all_entries : last.history ≡ kept ++ entries_since now last
    all_entries = g.history ∙ ap (λ h. h ++ entries_since now last) all_kept

    origin_last : last.origin ≡ first.origin
    origin_last = g.origin ∙ origin

    pub world_last : world_of last ≡ replay first.origin (kept ++ entries_since now last)
    world_last = λ i. replay (origin_last i) (all_entries i)

    players_of : (answer : Played) (out after : Option (List ℕ)) (w : Writes answer now last out after) (p : ℕ) → 1 ≤ p → p ≤ 32
        → AreWrittenOf answer (sent first.origin kept p ++ lines_behind p w.bytes.text) (machine (opening first.origin p) (trace first.origin (kept ++ entries_since now last) p))
    players_of answer out after w p player small =
        subst (λ (o : World). AreWrittenOf answer (sent o kept p ++ lines_behind p w.bytes.text) (machine (opening first.origin p) (trace first.origin (kept ++ entries_since now last) p))) origin
        (subst (λ (h : List Entry). AreWrittenOf answer (sent now.origin h p ++ lines_behind p w.bytes.text) (machine (opening first.origin p) (trace first.origin (kept ++ entries_since now last) p))) all_kept
        (subst (λ (ls : List (List ℕ)). AreWrittenOf answer (sent now.origin now.history p ++ lines_behind p w.bytes.text) ls) (λ i. machine (opening (origin_last i) p) (trace (origin_last i) (all_entries i) p)) (w.players p player small)))

    module _ {D : Type 0} (seen : D → List ℕ) (may_leave : D → List ℕ → Type 0) (moment : D → ℕ) (left_since : D → ℕ → List ℕ → Type 0) where
      pub played_to : (Tells : Type 0) (answer : Logged) (text : List ℕ) (script left out after : Option (List ℕ)) (old began new : D) (began_end new_end : ℕ)
          → WhereTold script left (λ all rest. HasEntered (as_played answer) (resumed (world_of now) all) (entries_since now last))
          → WhereTold script left (λ all rest. HasRead (as_played answer) (start_of (world_of now)) (behind_leaves (world_of now) (entries_since now last)) all rest)
          → HasWritten (as_played answer) (world_of now) (entries_since now last) out after
          → (Tells → Begins seen may_leave moment left_since text kept old began began_end)
          → (Tells → (front : List Entry) → HoldsLog seen may_leave began began_end text front → WhereTold script left (λ all rest. Keeps seen may_leave moment left_since answer text front (entries_since now last) (resumed (world_of now) all).entries began new new_end))
          → (answer ≡ Full → WhereTold script left (λ all rest. HasNoRoom new_end (entries_since now last) (resumed (world_of now) all).entries))
          → PlayedTo seen may_leave moment left_since Tells answer text script left out after old new first last
      played_to Tells answer text script left out after old began new began_end new_end entered read wrote begins log full =
          let es : List Entry = entries_since now last in
          let w : World = replay first.origin kept in
          let told_as : Writes (as_played answer) now last out after = writes (as_played answer) now last out after opens_now g wrote in
          record {
            plays = record {
              opens = opens;
              kept = kept;
              entries = es;
              entered = subst (λ (v : World). WhereTold script left (λ all rest. HasEntered (as_played answer) (resumed v all) es)) world_kept entered;
              read = subst (λ (v : World). WhereTold script left (λ all rest. HasRead (as_played answer) (start_of v) (behind_leaves v es) all rest)) world_kept read;
              written = record { text = told_as.bytes.text; written = told_as.bytes.written; part = subst (λ (v : World). IsPartSent (as_played answer) v es told_as.bytes.text) world_kept told_as.bytes.part };
              players = players_of (as_played answer) out after told_as;
              machines = λ p. sent_is_machine first.origin (kept ++ es) p opens;
              log = λ told.
                  let begun : Begins seen may_leave moment left_since text kept old began began_end = begins told in
                  let keeps : List ℕ → List ℕ → Type 0 = λ all rest. Keeps seen may_leave moment left_since answer text kept es (resumed (world_of now) all).entries began new new_end in
                  record {
                    began = began;
                    end = began_end;
                    begins = begun;
                    any_moment = told_weaker keeps (λ all rest. LeavesOnly moment left_since began new (HasFront text kept [] (resumed w all).entries)) script left (log told kept begun.holds)
                        (λ all rest k. subst (λ (v : World). LeavesOnly moment left_since began new (HasFront text kept [] (resumed v all).entries)) world_kept k.any_moment);
                    now = told_weaker keeps (λ all rest. (file : List ℕ) → may_leave new file → HasFront text kept es (resumed w all).entries file) script left (log told kept begun.holds)
                        (λ all rest k. subst (λ (v : World). (file : List ℕ) → may_leave new file → HasFront text kept es (resumed v all).entries file) world_kept k.kept);
                  };
              full = λ told is.
                  let begun : Begins seen may_leave moment left_since text kept old began began_end = begins told in
                  told_both (λ all rest. Keeps seen may_leave moment left_since answer text kept es (resumed (world_of now) all).entries began new new_end)
                  (λ all rest. HasNoRoom new_end es (resumed (world_of now) all).entries)
                  (λ all rest. IsFull text kept es (resumed w all).entries) script left (log told kept begun.holds) (full is)
                  (λ all rest k room. subst (λ (v : World). IsFull text kept es (resumed v all).entries) world_kept
                  (is_full text kept es (resumed (world_of now) all).entries new_end
                  (subst (λ (a : Logged). UnlessDiskFault a (HoldsLog seen may_leave new new_end text (kept ++ es))) is k.holds).end_at room));
            };
            world = λ is. world_last;
          }

-- ---- memory was wanting before the log's entries were entered again

module _ (first last : Course) (kept : List Entry) (opens : IsOpening first.origin) where
  abbrev kept_course : Course
  kept_course = record first { history = kept }

  nothing_more : entries_since kept_course kept_course ≡ []
  nothing_more = nothing_since kept_course

  module _ {D : Type 0} (seen : D → List ℕ) (may_leave : D → List ℕ → Type 0) (moment : D → ℕ) (left_since : D → ℕ → List ℕ → Type 0) where
    pub not_entered : (Tells : Type 0) (text : List ℕ) (script out : Option (List ℕ)) (old began : D) (end : ℕ)
        → (Tells → Begins seen may_leave moment left_since text kept old began end) → ((c : List ℕ) → left_since began (moment began) c → may_leave began c)
        → PlayedTo seen may_leave moment left_since Tells Memory text script script out out old began first last
    not_entered Tells text script out old began end begins only_now =
        let w : World = replay first.origin kept in
        let told_as : Writes played.Memory kept_course kept_course out out =
        writes played.Memory kept_course kept_course out out opens (stays kept_course) (wrote_nothing played.Memory w (entries_since kept_course kept_course) out nothing_more) in
        record {
          plays = record {
            opens = opens;
            kept = kept;
            entries = [];
            entered = told_same (λ all rest. HasEntered played.Memory (resumed w all) []) script (λ all. prefix_part [] (resumed w all).entries);
            read = told_same (λ all rest. HasRead played.Memory (start_of w) (behind_leaves w []) all rest) script (λ all. tt);
            written = record { text = told_as.bytes.text; written = told_as.bytes.written; part = subst (λ (es : List Entry). IsPartSent played.Memory w es told_as.bytes.text) nothing_more told_as.bytes.part };
            players = λ p player small.
                subst (λ (es : List Entry). AreWrittenOf played.Memory (sent first.origin kept p ++ lines_behind p told_as.bytes.text) (machine (opening first.origin p) (trace first.origin es p))) (sym (append-nil kept)) (told_as.players p player small);
            machines = λ p. sent_is_machine first.origin (kept ++ []) p opens;
            log = λ told.
                let begun : Begins seen may_leave moment left_since text kept old began end = begins told in
                let keeps : (all : List ℕ) → Keeps seen may_leave moment left_since Memory text kept [] (resumed w all).entries began began end =
                λ all. keeps_nothing seen may_leave moment left_since Memory [] (resumed w all).entries began end refl only_now text kept begun.holds in
                record {
                  began = began;
                  end = end;
                  begins = begun;
                  any_moment = told_same (λ all rest. LeavesOnly moment left_since began began (HasFront text kept [] (resumed w all).entries)) script (λ all. (keeps all).any_moment);
                  now = told_same (λ all rest. (file : List ℕ) → may_leave began file → HasFront text kept [] (resumed w all).entries file) script (λ all. (keeps all).kept);
                };
            full = λ told is. let z : Memory ≡ Full = is in cc;
          };
          world = λ is. let z : Memory ≡ Done = is in cc;
        }
