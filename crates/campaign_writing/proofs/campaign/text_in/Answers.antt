use Rattle.std.proofs.Common.{◌≡◌, sym, ap, ◌∙◌, subst}
use Rattle.world.specs.World.{World, IsWorld}
use Rattle.serde_json.specs.View.{view}
use Rattle.campaign_writing.specs.Canonical.{campaign_tree_in}
use Rattle.campaign_writing.specs.Kept.{IsKept}
use Rattle.campaign_writing.proofs.Facts.{writable}
use Rattle.campaign_writing.proofs.Lines.{read_back, text_is}
use Rattle.campaign_writing.proofs.campaign.text_in.Goals as goal

pub returns-in-Ok-clause-text : goal.returns-in-Ok-clause-text
returns-in-Ok-clause-text c =
    let built : World = record { scene = c.scene.result.now; books = c.seats.result.now } in
    let same : built ≡ c.args.world.now = λ i. record { scene = c.scene.ensures.value i; books = c.seats.ensures.value i } in
    text_is c.compact_line.result (view c.in-Ok.value) c.args.format c.args.world.now (c.in-Ok.ensures.tree ∙ ap (campaign_tree_in c.args.format) same) c.compact_line.ensures.text

pub returns-in-Ok-clause-reads_back : goal.returns-in-Ok-clause-reads_back
returns-in-Ok-clause-reads_back c = λ written of.
    let built : World = record { scene = c.scene.result.now; books = c.seats.result.now } in
    let same : built ≡ c.args.world.now = λ i. record { scene = c.scene.ensures.value i; books = c.seats.ensures.value i } in
    let kept : IsKept c.args.world.now = subst IsKept same (c.in-Ok.ensures.kept (subst IsWorld (sym same) c.scene.ensures.fitting)) in
    read_back c.compact_line.result (view c.in-Ok.value) c.args.format c.args.world.now (c.in-Ok.ensures.tree ∙ ap (campaign_tree_in c.args.format) same) (writable c.args.format c.args.world.now kept written of) c.compact_line.ensures.reads_back
