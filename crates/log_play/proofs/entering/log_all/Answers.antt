use Rattle.std.proofs.Common.{rules, arith, ◌≡◌, ◌++◌, ◌∷◌, [], ◌∙◌, sym, subst, ap, append_assoc, refl, length, List}
use Rattle.std.proofs.lemmas.List.{append-nil}
use Rattle.std.specs.Vec.Iter.{into_iter_items}
use Rattle.campaign_law.specs.declared.entry.Entry.{Entry}
use Rattle.campaign_law.specs.Law.{Course}
use Rattle.script_play.specs.Played.{entries_since, IsPrefix}
use Rattle.script_play.proofs.AfterEntry.{since_is}
use Rattle.log_play.specs.declared.logged.Logged.TheVariants.{Done}
use Rattle.log_play.specs.Kept.{HasNoRoom}
use Rattle.log_play.proofs.KeptLemmas.{keeps_then, keeps_same, keeps_log_wider, keeps_nothing, still_disks, room_behind, room_wider, room_one}
use Rattle.log_play.proofs.Sizes.{next_short}
use Rattle.log_play.proofs.entering.log_all.Goals as goal

none_since : (old new : Course) → new.history ≡ old.history → entries_since old new ≡ []
none_since old new same = since_is old new [] (same ∙ sym (append-nil old.history))

pub loop-entry-init : goal.loop-entry-init
loop-entry-init g c = record {
  origin = refl;
  history = sym (append-nil c.args.campaign.now.history);
  whole = search rules;
  log = λ told. keeps_nothing g.K.Disk.seen g.K.Disk.may_leave g.K.Disk.moment g.K.Disk.left_since Done [] [] c.args.disk.now c.args.journal.now refl (g.met.K.Disk.only_now c.args.disk.now);
  disk_count = omega arith;
}

pub log_entry-requires-clause-short : goal.log_entry-requires-clause-short
log_entry-requires-clause-short g c =
    next_short c.loop-entry.yielded (into_iter_items c.next.new.self) c.in-Some.entry c.args.entries.items (ap (λ r. c.loop-entry.yielded ++ r) (sym c.in-Some.ensures.steps.0) ∙ c.loop-entry.invariant.whole) c.requires.short

pub log_entry-requires-clause-journal : goal.log_entry-requires-clause-journal
log_entry-requires-clause-journal g c = λ told.
    still_disks g.K.Disk.seen g.K.Disk.may_leave g.K.Disk.moment g.K.Disk.left_since c.loop-entry.yielded c.loop-entry.yielded c.args.disk.now c.loop-entry.disk c.args.journal.now c.loop-entry.journal (c.requires.journal told) (c.loop-entry.invariant.log told)

pub loop-entry-preserved-in-Ok : goal.loop-entry-preserved-in-Ok
loop-entry-preserved-in-Ok g c =
    let inv = c.loop-entry.invariant in
    let old = c.args.campaign.now in
    let now = c.loop-entry.campaign in
    let new = c.log_entry.new.campaign in
    let ys : List Entry = c.loop-entry.yielded in
    let e : Entry = c.in-Some.entry in
    record {
      origin = c.in-Ok.ensures.origin ∙ inv.origin;
      history = c.in-Ok.ensures.history ∙ ap (λ h. h ++ e ∷ []) inv.history ∙ append_assoc old.history ys (e ∷ []);
      whole = append_assoc ys (e ∷ []) (into_iter_items c.next.new.self) ∙ ap (λ r. ys ++ r) (sym c.in-Some.ensures.steps.0) ∙ inv.whole;
      log = λ told.
          keeps_then g.K.Disk.seen g.K.Disk.may_leave g.K.Disk.moment g.K.Disk.left_since Done ys (e ∷ []) (e ∷ []) c.args.disk.now c.loop-entry.disk c.log_entry.new.disk c.args.journal.now c.loop-entry.journal c.log_entry.new.journal
          (inv.log told)
          (keeps_same g.K.Disk.seen g.K.Disk.may_leave g.K.Disk.moment g.K.Disk.left_since Done (entries_since now new) (e ∷ []) (e ∷ []) (e ∷ []) c.loop-entry.disk c.log_entry.new.disk c.loop-entry.journal c.log_entry.new.journal (since_is now new (e ∷ []) c.in-Ok.ensures.history) refl (c.in-Ok.ensures.log told));
      disk_count = omega (arith, inv.disk_count, c.in-Ok.ensures.disk_count);
    }

pub loop-entry-preserved-in-Ok-2 : goal.loop-entry-preserved-in-Ok-2
loop-entry-preserved-in-Ok-2 g c =
    let inv = c.loop-entry.invariant in
    let old = c.args.campaign.now in
    let now = c.loop-entry.campaign in
    let new = c.log_entry.new.campaign in
    let ys : List Entry = c.loop-entry.yielded in
    let e : Entry = c.in-Some.entry in
    record {
      origin = c.in-Ok.ensures.origin ∙ inv.origin;
      history = c.in-Ok.ensures.history ∙ ap (λ h. h ++ e ∷ []) inv.history ∙ append_assoc old.history ys (e ∷ []);
      whole = append_assoc ys (e ∷ []) (into_iter_items c.next.new.self) ∙ ap (λ r. ys ++ r) (sym c.in-Some.ensures.steps.0) ∙ inv.whole;
      log = λ told.
          keeps_then g.K.Disk.seen g.K.Disk.may_leave g.K.Disk.moment g.K.Disk.left_since Done ys (e ∷ []) (e ∷ []) c.args.disk.now c.loop-entry.disk c.log_entry.new.disk c.args.journal.now c.loop-entry.journal c.log_entry.new.journal
          (inv.log told)
          (keeps_same g.K.Disk.seen g.K.Disk.may_leave g.K.Disk.moment g.K.Disk.left_since Done (entries_since now new) (e ∷ []) (e ∷ []) (e ∷ []) c.loop-entry.disk c.log_entry.new.disk c.loop-entry.journal c.log_entry.new.journal (since_is now new (e ∷ []) c.in-Ok.ensures.history) refl (c.in-Ok.ensures.log told));
      disk_count = omega (arith, inv.disk_count, c.in-Ok.ensures.disk_count);
    }

-- the entries up to the one that stopped are the first of them
up_to : (ys rest all : List Entry) (e : Entry) → ys ++ e ∷ rest ≡ all → IsPrefix (ys ++ e ∷ []) all
up_to ys rest all e is = record { rest = rest; is = sym (append_assoc ys (e ∷ []) rest ∙ is) }

pub returns-in-Err-clause-log : goal.returns-in-Err-clause-log
returns-in-Err-clause-log g c = λ told.
    let inv = c.loop-entry.invariant in
    let old = c.args.campaign.now in
    let now = c.loop-entry.campaign in
    let new = c.log_entry.new.campaign in
    let ys : List Entry = c.loop-entry.yielded in
    let e : Entry = c.in-Some.entry in
    let none : entries_since now new ≡ [] = none_since now new c.in-Err.ensures.unchanged in
    let since : entries_since old new ≡ ys = since_is old new ys (c.in-Err.ensures.unchanged ∙ inv.history) in
    let whole = ap (λ r. ys ++ r) (sym c.in-Some.ensures.steps.0) ∙ inv.whole in
    keeps_log_wider g.K.Disk.seen g.K.Disk.may_leave g.K.Disk.moment g.K.Disk.left_since c.in-Err.stop (entries_since old new) (ys ++ e ∷ []) c.args.entries.items c.args.disk.now c.log_entry.new.disk c.args.journal.now c.log_entry.new.journal
    (up_to ys (into_iter_items c.next.new.self) c.args.entries.items e whole)
    (keeps_same g.K.Disk.seen g.K.Disk.may_leave g.K.Disk.moment g.K.Disk.left_since c.in-Err.stop (ys ++ entries_since now new) (entries_since old new) (ys ++ e ∷ []) (ys ++ e ∷ []) c.args.disk.now c.log_entry.new.disk c.args.journal.now c.log_entry.new.journal
    (ap (λ xs. ys ++ xs) none ∙ append-nil ys ∙ sym since) refl
    (keeps_then g.K.Disk.seen g.K.Disk.may_leave g.K.Disk.moment g.K.Disk.left_since c.in-Err.stop ys (entries_since now new) (e ∷ []) c.args.disk.now c.loop-entry.disk c.log_entry.new.disk c.args.journal.now c.loop-entry.journal c.log_entry.new.journal
    (inv.log told) (c.in-Err.ensures.log told)))

pub returns-in-Err-clause-full : goal.returns-in-Err-clause-full
returns-in-Err-clause-full g c = λ full.
    let inv = c.loop-entry.invariant in
    let old = c.args.campaign.now in
    let new = c.log_entry.new.campaign in
    let ys : List Entry = c.loop-entry.yielded in
    let e : Entry = c.in-Some.entry in
    let since : entries_since old new ≡ ys = since_is old new ys (c.in-Err.ensures.unchanged ∙ inv.history) in
    let whole = ap (λ r. ys ++ r) (sym c.in-Some.ensures.steps.0) ∙ inv.whole in
    subst (λ (es : List Entry). HasNoRoom c.log_entry.new.journal es c.args.entries.items) (append-nil ys ∙ sym since)
    (room_wider c.log_entry.new.journal (ys ++ []) (ys ++ e ∷ []) c.args.entries.items (up_to ys (into_iter_items c.next.new.self) c.args.entries.items e whole)
    (room_behind c.log_entry.new.journal ys [] (e ∷ []) (room_one c.log_entry.new.journal [] e refl (c.in-Err.ensures.full full))))

none_left : (xs : List Entry) → length xs ≡ 0 → xs ≡ []
none_left [] h = refl
none_left (x ∷ xs) h = absurd (omega (arith, h))

pub returns-clause-log : goal.returns-clause-log
returns-clause-log g c = λ told.
    let inv = c.loop-entry.invariant in
    let old = c.args.campaign.now in
    let now = c.loop-entry.campaign in
    let ys : List Entry = c.loop-entry.yielded in
    let none : into_iter_items c.loop-entry.entry-iterator ≡ [] = none_left (into_iter_items c.loop-entry.entry-iterator) (sym c.loop-entry.entry-iterator.rest.ok.0 ∙ c.in-None.ensures.steps.0) in
    let all : ys ≡ c.args.entries.items = sym (append-nil ys) ∙ ap (λ r. ys ++ r) (sym none) ∙ inv.whole in
    let since : entries_since old now ≡ ys = since_is old now ys inv.history in
    keeps_same g.K.Disk.seen g.K.Disk.may_leave g.K.Disk.moment g.K.Disk.left_since Done ys (entries_since old now) ys c.args.entries.items c.args.disk.now c.loop-entry.disk c.args.journal.now c.loop-entry.journal (sym since) all (inv.log told)
