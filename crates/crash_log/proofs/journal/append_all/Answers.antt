use Rattle.std.proofs.Common.{◌+◌, ◌<◌, ◌^◌, ◌∙◌, ℕ, ap, length, arith, sym}
use Rattle.std.specs.List.{flat_map}
use Rattle.crash_log.specs.Log.{record_bytes}
use Rattle.crash_log.proofs.Crash.{first_gate}
use Rattle.crash_log.proofs.Writes.{wrote_record, record_safe, wrote_gate, gate_safe, put_log}
use Rattle.crash_log.proofs.journal.append_all.Goals as goal

pub returns-in_err-write_at-clause-any_moment : goal.returns-in_err-write_at-clause-any_moment
returns-in_err-write_at-clause-any_moment g c = λ told text entries holds.
    let piece_is = first_gate c.args.entries.now c.deref.result.now (sym c.is_empty.ensures ∙ c.if-is_empty.false) (c.deref.ensures.value ∙ c.in_ok-group.ensures) in
    let fits = c.in-Some.ensures.fit in
    let place : c.args.journal.now + length (flat_map record_bytes c.args.entries.now) < 2 ^ 30 = omega (arith, c.end-gate.ensures.value, c.in-Some.ensures.place, c.in-Some.ensures.low) in
    wrote_record g.K.Disk.seen g.K.Disk.may_leave g.K.Disk.moment g.K.Disk.left_since c.args.disk.now c.args.journal.now text entries c.args.entries.now (g.met.K.Disk.only_now c.args.disk.now) holds
    _ c.end-gate.result piece_is c.end-gate.ensures.value fits place
    c.write_at.new.self (c.write_at.ensures.crash told) (c.write_at.ensures.time told)

pub returns-in_err-sync-clause-any_moment : goal.returns-in_err-sync-clause-any_moment
returns-in_err-sync-clause-any_moment g c = λ told text entries holds.
    let piece_is = first_gate c.args.entries.now c.deref.result.now (sym c.is_empty.ensures ∙ c.if-is_empty.false) (c.deref.ensures.value ∙ c.in_ok-group.ensures) in
    let fits = c.in-Some.ensures.fit in
    let place : c.args.journal.now + length (flat_map record_bytes c.args.entries.now) < 2 ^ 30 = omega (arith, c.end-gate.ensures.value, c.in-Some.ensures.place, c.in-Some.ensures.low) in
    record_safe g.K.Disk.seen g.K.Disk.may_leave g.K.Disk.moment g.K.Disk.left_since c.args.disk.now c.args.journal.now text entries c.args.entries.now (g.met.K.Disk.only_now c.args.disk.now) holds
    _ c.end-gate.result piece_is c.end-gate.ensures.value fits place
    c.write_at.new.self (c.write_at.ensures.crash told) (c.write_at.ensures.time told) c.sync.new.self (c.sync.ensures.crash told) (c.sync.ensures.time told)

pub returns-in_err-write_at-2-clause-any_moment : goal.returns-in_err-write_at-2-clause-any_moment
returns-in_err-write_at-2-clause-any_moment g c = λ told text entries holds.
    let piece_is = first_gate c.args.entries.now c.deref.result.now (sym c.is_empty.ensures ∙ c.if-is_empty.false) (c.deref.ensures.value ∙ c.in_ok-group.ensures) in
    let fits = c.in-Some.ensures.fit in
    let place : c.args.journal.now + length (flat_map record_bytes c.args.entries.now) < 2 ^ 30 = omega (arith, c.end-gate.ensures.value, c.in-Some.ensures.place, c.in-Some.ensures.low) in
    wrote_gate g.K.Disk.seen g.K.Disk.may_leave g.K.Disk.moment g.K.Disk.left_since c.args.disk.now c.args.journal.now text entries c.args.entries.now (g.met.K.Disk.only_now c.args.disk.now) holds
    _ c.end-gate.result piece_is c.end-gate.ensures.value fits place
    c.write_at.new.self (c.write_at.ensures.crash told) (c.write_at.ensures.time told)
    c.sync.new.self (c.sync.ensures.crash told) (c.sync.ensures.time told)
    (c.in_ok-write_at.ensures.written told) (c.sync.ensures.same told) (c.in_ok-sync.ensures.durable told)
    c.write_at-2.new.self (c.write_at-2.ensures.crash told) (c.write_at-2.ensures.time told)

pub returns-in_err-sync-2-clause-any_moment : goal.returns-in_err-sync-2-clause-any_moment
returns-in_err-sync-2-clause-any_moment g c = λ told text entries holds.
    let piece_is = first_gate c.args.entries.now c.deref.result.now (sym c.is_empty.ensures ∙ c.if-is_empty.false) (c.deref.ensures.value ∙ c.in_ok-group.ensures) in
    let fits = c.in-Some.ensures.fit in
    let place : c.args.journal.now + length (flat_map record_bytes c.args.entries.now) < 2 ^ 30 = omega (arith, c.end-gate.ensures.value, c.in-Some.ensures.place, c.in-Some.ensures.low) in
    gate_safe g.K.Disk.seen g.K.Disk.may_leave g.K.Disk.moment g.K.Disk.left_since c.args.disk.now c.args.journal.now text entries c.args.entries.now (g.met.K.Disk.only_now c.args.disk.now) holds
    _ c.end-gate.result piece_is c.end-gate.ensures.value fits place
    c.write_at.new.self (c.write_at.ensures.crash told) (c.write_at.ensures.time told)
    c.sync.new.self (c.sync.ensures.crash told) (c.sync.ensures.time told)
    (c.in_ok-write_at.ensures.written told) (c.sync.ensures.same told) (c.in_ok-sync.ensures.durable told)
    c.write_at-2.new.self (c.write_at-2.ensures.crash told) (c.write_at-2.ensures.time told)
    c.sync-2.new.self (c.sync-2.ensures.crash told) (c.sync-2.ensures.time told)

pub returns-clause-any_moment : goal.returns-clause-any_moment
returns-clause-any_moment g c = λ told text entries holds.
    let piece_is = first_gate c.args.entries.now c.deref.result.now (sym c.is_empty.ensures ∙ c.if-is_empty.false) (c.deref.ensures.value ∙ c.in_ok-group.ensures) in
    let fits = c.in-Some.ensures.fit in
    let place : c.args.journal.now + length (flat_map record_bytes c.args.entries.now) < 2 ^ 30 = omega (arith, c.end-gate.ensures.value, c.in-Some.ensures.place, c.in-Some.ensures.low) in
    gate_safe g.K.Disk.seen g.K.Disk.may_leave g.K.Disk.moment g.K.Disk.left_since c.args.disk.now c.args.journal.now text entries c.args.entries.now (g.met.K.Disk.only_now c.args.disk.now) holds
    _ c.end-gate.result piece_is c.end-gate.ensures.value fits place
    c.write_at.new.self (c.write_at.ensures.crash told) (c.write_at.ensures.time told)
    c.sync.new.self (c.sync.ensures.crash told) (c.sync.ensures.time told)
    (c.in_ok-write_at.ensures.written told) (c.sync.ensures.same told) (c.in_ok-sync.ensures.durable told)
    c.write_at-2.new.self (c.write_at-2.ensures.crash told) (c.write_at-2.ensures.time told)
    c.sync-2.new.self (c.sync-2.ensures.crash told) (c.sync-2.ensures.time told)

pub returns-clause-acknowledged : goal.returns-clause-acknowledged
returns-clause-acknowledged g c = λ told text entries holds.
    let piece_is = first_gate c.args.entries.now c.deref.result.now (sym c.is_empty.ensures ∙ c.if-is_empty.false) (c.deref.ensures.value ∙ c.in_ok-group.ensures) in
    let fits = c.in-Some.ensures.fit in
    let place : c.args.journal.now + length (flat_map record_bytes c.args.entries.now) < 2 ^ 30 = omega (arith, c.end-gate.ensures.value, c.in-Some.ensures.place, c.in-Some.ensures.low) in
    put_log g.K.Disk.seen g.K.Disk.may_leave g.K.Disk.moment g.K.Disk.left_since c.args.disk.now c.args.journal.now text entries c.args.entries.now (g.met.K.Disk.only_now c.args.disk.now) holds
    _ c.end-gate.result piece_is c.end-gate.ensures.value fits place
    c.write_at.new.self (c.write_at.ensures.crash told) (c.write_at.ensures.time told)
    c.sync.new.self (c.sync.ensures.crash told) (c.sync.ensures.time told)
    (c.in_ok-write_at.ensures.written told) (c.sync.ensures.same told) (c.in_ok-sync.ensures.durable told)
    c.write_at-2.new.self (c.write_at-2.ensures.crash told) (c.write_at-2.ensures.time told)
    c.sync-2.new.self _ (c.in_ok-write_at-2.ensures.written told) (c.sync-2.ensures.same told) (c.in_ok-sync-2.ensures.durable told)
    (c.at.ensures ∙ c.in-Some.ensures.place ∙ ap (λ (n : ℕ). n + length (flat_map record_bytes c.args.entries.now)) c.end-gate.ensures.value)
