use Rattle.std.proofs.Common.{flat_map, sym, ap, ◌∙◌, map-id}
use Rattle.std.proofs.lemmas.Iterator.{YieldsList-from_chars}
use Rattle.std.proofs.lemmas.Iterator.Consumers.{YieldsList-end}
use Rattle.campaign_json.specs.Reading.{escaped, escaped_letter}
use Rattle.campaign_json.proofs.faults.escaped.Goals as goal

pub returns : goal.returns
unfolding escaped
returns c =
    let end = YieldsList-end (YieldsList-from_chars c.args.key.now c.utf8.key cc) c.loop-letter.yielded _ c.loop-letter.yielded_by _ _ c.in-None.is c.next.ensures.steps in
    c.loop-letter.invariant ∙ ap (flat_map escaped_letter) (sym (map-id c.loop-letter.yielded) ∙ end.0)
