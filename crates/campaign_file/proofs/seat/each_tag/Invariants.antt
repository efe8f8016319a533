use Rattle.campaign_file.specs.Macros.{unfilled}
use Rattle.campaign_file.specs.Seats.{used_tag}
use Rattle.campaign_json.proofs.Each.{IsReadTo}
use Rattle.campaign_file.proofs.seat.each_tag.Given as goal

abbrev pub invariant-loop-place : goal.invariant-loop-place
invariant-loop-place l = IsReadTo (λ place. used_tag) unfilled l.values l.fn.book l.place l.book
