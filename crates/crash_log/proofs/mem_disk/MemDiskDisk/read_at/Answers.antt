use Rattle.std.proofs.Common.{ap, ◌∙◌, ◌++◌, ◌∷◌, []}
use Rattle.crash_log.specs.Memory.{MemoryDisk}
use Rattle.crash_log.specs.declared.calls.Call.TheVariants.{Asked}
use Rattle.crash_log.proofs.Kept.{inv_push, stays_asked, passes_push, passes_same}
use Rattle.crash_log.proofs.mem_disk.MemDiskDisk.read_at.Goals as goal

pub invariant_of-self : goal.invariant_of-self
invariant_of-self c = inv_push _ c.self.inside.calls.items c.ask_unless.new.calls.items Asked _ c.in-Ok.ensures.ok c.self.invariant

pub returns-in-Ok-clause-stays : goal.returns-in-Ok-clause-stays
returns-in-Ok-clause-stays c =
    let new : MemoryDisk = record { start = c.self.inside.start; calls = c.ask_unless.new.calls.items; failing = c.self.inside.failing.items; stop = c.self.inside.stop; made = c.counted-self-inside.result; faults = c.self.inside.faults } in
    stays_asked c.args.self.now new (ap (λ (d : MemoryDisk). d.start) c.self.view_is) (c.in-Ok.ensures.ok ∙ ap (λ (d : MemoryDisk). d.calls ++ Asked ∷ []) c.self.view_is)

pub returns-in-Ok-clause-time : goal.returns-in-Ok-clause-time
returns-in-Ok-clause-time c =
    let new : MemoryDisk = record { start = c.self.inside.start; calls = c.ask_unless.new.calls.items; failing = c.self.inside.failing.items; stop = c.self.inside.stop; made = c.counted-self-inside.result; faults = c.self.inside.faults } in
    passes_push c.args.self.now new (ap (λ (d : MemoryDisk). d.start) c.self.view_is) Asked (c.in-Ok.ensures.ok ∙ ap (λ (d : MemoryDisk). d.calls ++ Asked ∷ []) c.self.view_is)

pub returns-in-Err-clause-time : goal.returns-in-Err-clause-time
returns-in-Err-clause-time c = passes_same c.args.self.now _ (ap (λ (d : MemoryDisk). d.start) c.self.view_is) (c.in-Err.ensures.err ∙ ap (λ (d : MemoryDisk). d.calls) c.self.view_is)
