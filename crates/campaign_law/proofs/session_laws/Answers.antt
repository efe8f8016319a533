use Rattle.std.proofs.lemmas.Option.{slice_get_within}
use Rattle.campaign_law.proofs.Joins.{join_seats}
use Rattle.campaign_law.proofs.Leaves.{leave_stands}
use Rattle.campaign_law.proofs.Cuts.{cut_frees}
use Rattle.campaign_law.proofs.CutSessions.{cut_ends_session, uncut_drops_by_leave}
use Rattle.campaign_law.proofs.JoinedSeats.{joined_keeps}
use Rattle.campaign_law.proofs.SessionFronts.{session_grows, session_stays}
use Rattle.campaign_law.proofs.SessionLaws.{still_held, lines_counted, lasts, taken_is_all, no_more_lines}
use Rattle.campaign_law.proofs.Queues.{entry_queues_few, queued_is_bounded}
use Rattle.campaign_law.proofs.session_laws.Goals as goal

pub returns-clause-begins : goal.returns-clause-begins
returns-clause-begins c = join_seats

pub returns-clause-leaves : goal.returns-clause-leaves
returns-clause-leaves c = leave_stands

pub returns-clause-cut : goal.returns-clause-cut
returns-clause-cut c = cut_frees

pub returns-clause-joined : goal.returns-clause-joined
returns-clause-joined c = joined_keeps

pub returns-clause-held : goal.returns-clause-held
returns-clause-held c = λ w h place seat reader writer n sits lasts. record {
  held = still_held w h place seat reader writer sits n lasts.behind lasts.within lasts.open_;
  present = lines_counted w h place seat reader writer sits n lasts.behind lasts.within lasts.open_;
}

pub returns-clause-lasts : goal.returns-clause-lasts
returns-clause-lasts c = λ w h place seat reader writer n sits none behind within held. lasts w h place seat reader writer sits n behind within none held

pub returns-clause-grows : goal.returns-clause-grows
returns-clause-grows c = session_grows

pub returns-clause-stays : goal.returns-clause-stays
returns-clause-stays c = session_stays

pub returns-clause-taken : goal.returns-clause-taken
returns-clause-taken c = λ w h place seat reader writer n e s opening sits last is. taken_is_all w h place seat reader writer sits n last.behind (slice_get_within h n e last.there) opening last.lasted last.ended e last.there last.kept s is

pub returns-clause-bounded : goal.returns-clause-bounded
returns-clause-bounded c = λ w h place seat reader writer count opening sits each drops ended. no_more_lines w h place seat reader writer sits count (slice_get_within h place _ sits.join) opening each drops ended

pub returns-clause-cut_ends : goal.returns-clause-cut_ends
returns-clause-cut_ends c = cut_ends_session

pub returns-clause-uncut : goal.returns-clause-uncut
returns-clause-uncut c = uncut_drops_by_leave

pub returns-clause-few : goal.returns-clause-few
returns-clause-few c = entry_queues_few

pub returns-clause-queued : goal.returns-clause-queued
returns-clause-queued c = queued_is_bounded
