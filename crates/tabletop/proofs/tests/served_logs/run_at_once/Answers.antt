use Rattle.tabletop.proofs.tests.served_logs.run_at_once.Goals as goal

pub invariant_of-result : goal.invariant_of-result
invariant_of-result g c = record { ran = ∣ rw c.of-kept.ensures c.run-done.ensures ∣₁ }
