use Rattle.std.proofs.Common.{ap, ◌∙◌, ◌++◌, ◌∷◌, []}
use Rattle.crash_log.specs.Memory.{MemoryDisk}
use Rattle.crash_log.specs.declared.calls.Call.TheVariants.{Synced}
use Rattle.crash_log.proofs.Kept.{inv_push, only_synced, seen_synced, no_more_synced, passes_push, passes_same}
use Rattle.crash_log.proofs.mem_disk.MemDiskDisk.sync.Goals as goal

pub invariant_of-self : goal.invariant_of-self
invariant_of-self c = inv_push _ c.self.inside.calls.items c.sync_unless.new.calls.items Synced _ c.in-Ok.ensures.ok c.self.invariant

pub returns-in-Ok-clause-durable : goal.returns-in-Ok-clause-durable
returns-in-Ok-clause-durable c =
    let new : MemoryDisk = record { start = c.self.inside.start; calls = c.sync_unless.new.calls.items; failing = c.self.inside.failing.items; stop = c.self.inside.stop; made = c.counted-self-inside.result; faults = c.self.inside.faults } in
    only_synced c.args.self.now new (ap (λ (d : MemoryDisk). d.start) c.self.view_is) (c.in-Ok.ensures.ok ∙ ap (λ (d : MemoryDisk). d.calls ++ Synced ∷ []) c.self.view_is)

pub returns-in-Ok-clause-same : goal.returns-in-Ok-clause-same
returns-in-Ok-clause-same c =
    let new : MemoryDisk = record { start = c.self.inside.start; calls = c.sync_unless.new.calls.items; failing = c.self.inside.failing.items; stop = c.self.inside.stop; made = c.counted-self-inside.result; faults = c.self.inside.faults } in
    seen_synced c.args.self.now new (ap (λ (d : MemoryDisk). d.start) c.self.view_is) (c.in-Ok.ensures.ok ∙ ap (λ (d : MemoryDisk). d.calls ++ Synced ∷ []) c.self.view_is)

pub returns-in-Ok-clause-crash : goal.returns-in-Ok-clause-crash
returns-in-Ok-clause-crash c =
    let new : MemoryDisk = record { start = c.self.inside.start; calls = c.sync_unless.new.calls.items; failing = c.self.inside.failing.items; stop = c.self.inside.stop; made = c.counted-self-inside.result; faults = c.self.inside.faults } in
    no_more_synced c.args.self.now new (ap (λ (d : MemoryDisk). d.start) c.self.view_is) (c.in-Ok.ensures.ok ∙ ap (λ (d : MemoryDisk). d.calls ++ Synced ∷ []) c.self.view_is)

pub returns-in-Ok-clause-time : goal.returns-in-Ok-clause-time
returns-in-Ok-clause-time c =
    let new : MemoryDisk = record { start = c.self.inside.start; calls = c.sync_unless.new.calls.items; failing = c.self.inside.failing.items; stop = c.self.inside.stop; made = c.counted-self-inside.result; faults = c.self.inside.faults } in
    passes_push c.args.self.now new (ap (λ (d : MemoryDisk). d.start) c.self.view_is) Synced (c.in-Ok.ensures.ok ∙ ap (λ (d : MemoryDisk). d.calls ++ Synced ∷ []) c.self.view_is)

pub returns-in-Err-clause-time : goal.returns-in-Err-clause-time
returns-in-Err-clause-time c = passes_same c.args.self.now _ (ap (λ (d : MemoryDisk). d.start) c.self.view_is) (c.in-Err.ensures.err ∙ ap (λ (d : MemoryDisk). d.calls) c.self.view_is)
