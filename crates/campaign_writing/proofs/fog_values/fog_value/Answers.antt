use Rattle.std.proofs.Common.{ap, sym, ◌∙◌}
use Rattle.serde_json.specs.Data.{object}
use Rattle.serde_json.specs.View.{members_view}
use Rattle.serde_json.proofs.Views.{view-Object}
use Rattle.campaign_writing.proofs.Exposed.{no_fog}
use Rattle.campaign_writing.proofs.fog_values.fog_value.Goals as goal

pub returns-else-is_player : goal.returns-else-is_player
returns-else-is_player c =
    view-Object c.new.result ∙ ap (λ es. object (members_view es)) c.new.ensures.empty ∙ sym (no_fog c.args.scene.now c.args.seat c.is_player.ensures.fitting (sym c.is_player.ensures.value ∙ c.if-is_player.false))
