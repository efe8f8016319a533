-- What a trace gives its callers.
use Rattle.std.proofs.Common.{◌≡◌, ℕ, ◌≤◌, List, length, Some, ◌∙◌}
use Rattle.player_view.specs.Tables.{HasTables}
use Rattle.campaign_core.specs.Opening.{world_of_text}
use Rattle.campaign_law.specs.Worlds.{FitsTogether}
use Rattle.campaign_law.specs.Law.{Course, IsOpening}
use Rattle.campaign_law.specs.Player.{Opening, opening, trace}
use Rattle.player_machine.specs.Items.{items_in}
use Rattle.script_play.specs.Script.{done, script_of}
use Rattle.transcript_check.specs.declared.tracing.Follower.{Follower}
use Rattle.transcript_check.specs.Tracing.{Follows, IsTraced}

-- a script that was played to its end
pub traced_is : (text script : List ℕ) (p : ℕ) (old new : Course) (o : Opening) (f : Follower) → world_of_text text ≡ Some old.origin → IsOpening old.origin → FitsTogether old.origin → HasTables old.origin.scene → length old.origin.seats ≤ 33
    → o ≡ opening old.origin p → new.origin ≡ old.origin → script_of old.origin script ≡ record { entries = new.history; ending = done } → Follows new f → f.seat ≡ p → IsTraced text script p o (items_in f.items.items)
traced_is text script p old new o f opens fresh fits tables seats begins same played follows is = record {
  of = record {
    world = old.origin;
    history = new.history;
    played = record { opens = opens; ends = played };
    opening = begins;
    trace = follows.items ∙ (λ i. trace (same i) new.history (is i));
  };
  fresh = fresh;
  fits = fits;
  tables = tables;
  seats = seats;
}
