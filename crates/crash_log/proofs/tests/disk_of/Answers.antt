use Rattle.std.proofs.Common.{◌≡◌, ◌∙◌, [], ap, sym, refl}
use Rattle.crash_log.specs.Memory.{MemoryDisk, state_of}
use Rattle.crash_log.proofs.Kept.{inv_none}
use Rattle.crash_log.proofs.tests.disk_of.Goals as goal

pub returns : goal.returns
returns g c = ap (λ (d : MemoryDisk). (state_of d).seen) c.new-2.ensures ∙ sym (inv_none c.text-held.result [] refl) ∙ c.text-held.ensures
