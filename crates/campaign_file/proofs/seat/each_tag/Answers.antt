use Rattle.campaign_file.specs.Macros.{unfilled}
use Rattle.campaign_file.specs.Seats.{used_tag}
use Rattle.campaign_json.proofs.Each.{read_more}
use Rattle.campaign_file.proofs.seat.each_tag.Goals as goal

pub loop-place-preserved : goal.loop-place-preserved
loop-place-preserved c = read_more (λ place. used_tag) unfilled c.args.values.now c.args.book.now c.loop-place.place c.loop-place.book c.read_tag.new.book c.index-values-place.result c.loop-place.invariant c.loop-place-test.true c.index-values-place.is c.in-Ok.ensures.exact c.in-Ok.ensures.rest
