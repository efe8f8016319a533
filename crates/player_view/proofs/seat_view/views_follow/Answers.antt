use Rattle.player_view.proofs.FollowLemmas.{views_follow}
use Rattle.player_view.proofs.seat_view.views_follow.Goals as goal

pub returns : goal.returns
returns c = views_follow c.args.before.now c.args.after.now c.open_tables.ensures c.open_tables-2.ensures c.requires
