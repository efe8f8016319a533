use Rattle.std.proofs.Common.{ap, ◌∙◌, ◌++◌, ◌∷◌, []}
use Rattle.crash_log.specs.Memory.{MemoryDisk}
use Rattle.crash_log.specs.declared.calls.Call.TheVariants.{Wrote}
use Rattle.crash_log.proofs.Kept.{inv_wrote, wrote_there, wrote_torn, passes_push}
use Rattle.crash_log.proofs.mem_disk.MemDiskDisk.write_at.Goals as goal

pub invariant_of-self : goal.invariant_of-self
invariant_of-self c = inv_wrote _ c.self.inside.calls.items c.write_unless.new.calls.items c.args.at c.args.bytes.now _ _ c.in-Ok.ensures.calls c.self.invariant c.in-Ok.ensures.ok

pub returns-in-Ok-clause-written : goal.returns-in-Ok-clause-written
returns-in-Ok-clause-written c =
    let new : MemoryDisk = record { start = c.self.inside.start; calls = c.write_unless.new.calls.items; failing = c.self.inside.failing.items; stop = c.self.inside.stop; made = c.counted-self-inside.result; faults = c.self.inside.faults } in
    wrote_there c.args.self.now new (ap (λ (d : MemoryDisk). d.start) c.self.view_is) c.args.at c.args.bytes.now (c.in-Ok.ensures.calls ∙ ap (λ (d : MemoryDisk). d.calls ++ (Wrote c.args.at c.args.bytes.now) ∷ []) c.self.view_is)

pub returns-in-Ok-clause-crash : goal.returns-in-Ok-clause-crash
returns-in-Ok-clause-crash c =
    let new : MemoryDisk = record { start = c.self.inside.start; calls = c.write_unless.new.calls.items; failing = c.self.inside.failing.items; stop = c.self.inside.stop; made = c.counted-self-inside.result; faults = c.self.inside.faults } in
    wrote_torn c.args.self.now new (ap (λ (d : MemoryDisk). d.start) c.self.view_is) c.args.at c.args.bytes.now (c.in-Ok.ensures.calls ∙ ap (λ (d : MemoryDisk). d.calls ++ (Wrote c.args.at c.args.bytes.now) ∷ []) c.self.view_is) c.requires

pub returns-in-Ok-clause-time : goal.returns-in-Ok-clause-time
returns-in-Ok-clause-time c =
    let new : MemoryDisk = record { start = c.self.inside.start; calls = c.write_unless.new.calls.items; failing = c.self.inside.failing.items; stop = c.self.inside.stop; made = c.counted-self-inside.result; faults = c.self.inside.faults } in
    passes_push c.args.self.now new (ap (λ (d : MemoryDisk). d.start) c.self.view_is) (Wrote c.args.at c.args.bytes.now) (c.in-Ok.ensures.calls ∙ ap (λ (d : MemoryDisk). d.calls ++ (Wrote c.args.at c.args.bytes.now) ∷ []) c.self.view_is)
