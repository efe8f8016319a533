use Rattle.std.proofs.Common.{rules, ◌≡◌, ◌≤◌, ◌++◌, ◌∷◌, [], ◌∙◌, sym, subst, List, ℕ}
use Rattle.std.proofs.lemmas.List.{append-nil}
use Rattle.campaign_law.specs.declared.entry.Entry.{Entry}
use Rattle.campaign_law.specs.Law.{Course}
use Rattle.crash_log.specs.Disk.{LeavesOnly}
use Rattle.crash_log.specs.Log.{HoldsLog, IsBeforeOrAfter}
use Rattle.script_play.specs.Played.{entries_since}
use Rattle.script_play.proofs.AfterEntry.{since_is}
use Rattle.log_play.specs.declared.logged.Logged.TheVariants.{Done, DiskFault, Full, Memory}
use Rattle.log_play.specs.Kept.{Keeps, KeepsLog}
use Rattle.log_play.proofs.KeptLemmas.{keeps_nothing, keeps_entry, keeps_fault}
use Rattle.log_play.proofs.entering.log_entry.Goals as goal

none_since : (old new : Course) → new.history ≡ old.history → entries_since old new ≡ []
none_since old new same = since_is old new [] (same ∙ sym (append-nil old.history))

pub returns-then-is_err-clause-log : goal.returns-then-is_err-clause-log
returns-then-is_err-clause-log g c = λ told.
    let same : c.prepare.new.self.history ≡ c.args.campaign.now.history = search rules in
    keeps_nothing g.K.Disk.seen g.K.Disk.may_leave g.K.Disk.moment g.K.Disk.left_since Memory (entries_since c.args.campaign.now c.prepare.new.self) (c.args.entry ∷ []) c.args.disk.now c.args.journal.now
    (none_since c.args.campaign.now c.prepare.new.self same) (g.met.K.Disk.only_now c.args.disk.now)

pub returns-in-Ok-clause-log : goal.returns-in-Ok-clause-log
returns-in-Ok-clause-log g c = λ told text before holds.
    let e : Entry = c.args.entry in
    let old = c.args.campaign.now in
    let new = c.commit.new.self in
    let grown : new.history ≡ old.history ++ e ∷ [] = search rules in
    let same : c.in-Some.staged.now ≡ e = search rules in
    let held = subst (λ (x : Entry). HoldsLog g.K.Disk.seen g.K.Disk.may_leave c.append.new.disk c.append.new.journal text (before ++ x ∷ [])) same (c.in-Ok.ensures.acknowledged told text before holds) in
    let run = subst (λ (x : Entry). LeavesOnly g.K.Disk.moment g.K.Disk.left_since c.args.disk.now c.append.new.disk (IsBeforeOrAfter text before x)) same (c.in-Ok.ensures.any_moment told text before holds) in
    subst (λ (es : List Entry). Keeps g.K.Disk.seen g.K.Disk.may_leave g.K.Disk.moment g.K.Disk.left_since Done text before es (e ∷ []) c.args.disk.now c.append.new.disk c.append.new.journal) (sym (since_is old new (e ∷ []) grown))
    (keeps_entry g.K.Disk.seen g.K.Disk.may_leave g.K.Disk.moment g.K.Disk.left_since text before e c.args.disk.now c.append.new.disk c.append.new.journal held run)

pub returns-in-Err-DiskFault-clause-log : goal.returns-in-Err-DiskFault-clause-log
returns-in-Err-DiskFault-clause-log g c = λ told text before holds.
    let e : Entry = c.args.entry in
    let unchanged : c.prepare.new.self.history ≡ c.args.campaign.now.history = search rules in
    let same : c.in-Some.staged.now ≡ e = search rules in
    let run = subst (λ (x : Entry). LeavesOnly g.K.Disk.moment g.K.Disk.left_since c.args.disk.now c.append.new.disk (IsBeforeOrAfter text before x)) same (c.append.ensures.any_moment told text before holds) in
    subst (λ (es : List Entry). Keeps g.K.Disk.seen g.K.Disk.may_leave g.K.Disk.moment g.K.Disk.left_since DiskFault text before es (e ∷ []) c.args.disk.now c.append.new.disk c.append.new.journal) (sym (none_since c.args.campaign.now c.prepare.new.self unchanged))
    (keeps_fault g.K.Disk.seen g.K.Disk.may_leave g.K.Disk.moment g.K.Disk.left_since text before e c.args.disk.now c.append.new.disk c.append.new.journal run
    (λ file later left. g.met.K.Disk.counts_now c.append.new.disk (g.K.Disk.moment c.args.disk.now) file later left))

pub returns-in-Err-Full-clause-log : goal.returns-in-Err-Full-clause-log
returns-in-Err-Full-clause-log g c = λ told.
    let unchanged : c.prepare.new.self.history ≡ c.args.campaign.now.history = search rules in
    let disk : c.append.new.disk ≡ c.args.disk.now = search rules in
    let end : c.append.new.journal ≡ c.args.journal.now = search rules in
    let put = entries_since c.args.campaign.now c.prepare.new.self in
    subst (λ (n : ℕ). KeepsLog g.K.Disk.seen g.K.Disk.may_leave g.K.Disk.moment g.K.Disk.left_since Full put (c.args.entry ∷ []) c.args.disk.now c.append.new.disk c.args.journal.now n) (sym end)
    (subst (λ d. KeepsLog g.K.Disk.seen g.K.Disk.may_leave g.K.Disk.moment g.K.Disk.left_since Full put (c.args.entry ∷ []) c.args.disk.now d c.args.journal.now c.args.journal.now) (sym disk)
    (keeps_nothing g.K.Disk.seen g.K.Disk.may_leave g.K.Disk.moment g.K.Disk.left_since Full put (c.args.entry ∷ []) c.args.disk.now c.args.journal.now
    (none_since c.args.campaign.now c.prepare.new.self unchanged) (g.met.K.Disk.only_now c.args.disk.now)))

pub returns-in-Err-Memory-clause-log : goal.returns-in-Err-Memory-clause-log
returns-in-Err-Memory-clause-log g c = λ told.
    let unchanged : c.prepare.new.self.history ≡ c.args.campaign.now.history = search rules in
    let disk : c.append.new.disk ≡ c.args.disk.now = search rules in
    let end : c.append.new.journal ≡ c.args.journal.now = search rules in
    let put = entries_since c.args.campaign.now c.prepare.new.self in
    subst (λ (n : ℕ). KeepsLog g.K.Disk.seen g.K.Disk.may_leave g.K.Disk.moment g.K.Disk.left_since Memory put (c.args.entry ∷ []) c.args.disk.now c.append.new.disk c.args.journal.now n) (sym end)
    (subst (λ d. KeepsLog g.K.Disk.seen g.K.Disk.may_leave g.K.Disk.moment g.K.Disk.left_since Memory put (c.args.entry ∷ []) c.args.disk.now d c.args.journal.now c.args.journal.now) (sym disk)
    (keeps_nothing g.K.Disk.seen g.K.Disk.may_leave g.K.Disk.moment g.K.Disk.left_since Memory put (c.args.entry ∷ []) c.args.disk.now c.args.journal.now
    (none_since c.args.campaign.now c.prepare.new.self unchanged) (g.met.K.Disk.only_now c.args.disk.now)))
