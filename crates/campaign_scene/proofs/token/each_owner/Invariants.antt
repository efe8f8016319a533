use Rattle.world.specs.Rules.{are_players}
use Rattle.campaign_scene.specs.Tokens.{owner}
use Rattle.campaign_json.proofs.Each.{IsReadTo}
use Rattle.campaign_scene.proofs.token.each_owner.Given as goal

abbrev pub invariant-loop-place : goal.invariant-loop-place
invariant-loop-place l = IsReadTo (λ place. owner l.players) (are_players l.players) l.values 0 l.place l.owners
