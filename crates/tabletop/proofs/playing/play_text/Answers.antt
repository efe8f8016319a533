use Rattle.std.proofs.Common.{◌∙◌, ap, sym, refl}
use Rattle.campaign_core.specs.Opening.{world_of_text}
use Rattle.tabletop.proofs.EndsLemmas.{nothing_waits, campaign_ends}
use Rattle.tabletop.proofs.playing.play_text.Goals as goal

pub play-played-requires : goal.play-played-requires
play-played-requires g c = nothing_waits c.in-Ok.campaign c.in-Ok.ensures.opening c.in-Ok.ensures.history

pub returns-in-Ok-clause-ends : goal.returns-in-Ok-clause-ends
returns-in-Ok-clause-ends g c =
    campaign_ends _ c.args.end c.play-played.result c.after_play-ended.result c.args.text.now _ c.in-Ok.campaign c.play-played.new.campaign _ _ _ _ _ c.play-played.ensures.read_fault
    (ap world_of_text (sym c.bytes.ensures) ∙ c.in-Ok.ensures.world) c.in-Ok.ensures.opening c.in-Ok.ensures.history
    c.play-played.ensures.campaign c.play-played.ensures.entered c.play-played.ensures.read c.play-played.ensures.written c.play-played.ensures.sent (refl) c.after_play-ended.ensures.follows
