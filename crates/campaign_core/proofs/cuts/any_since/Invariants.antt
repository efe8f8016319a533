use Rattle.std.proofs.Common.{◌≡◌, drop}
use Rattle.campaign_core.specs.CutList.{any_since}
use Rattle.campaign_core.proofs.cuts.any_since.Given as goal

-- those that are left answer for all
abbrev pub invariant-loop-cut : goal.invariant-loop-cut
invariant-loop-cut l = any_since l.place l.seat l.reader l.writer (drop l.cut-index l.cuts) ≡ any_since l.place l.seat l.reader l.writer l.cuts
