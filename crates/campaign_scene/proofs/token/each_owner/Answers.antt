use Rattle.std.proofs.Common.{◌≡◌, ℕ, true, sym, ◌∙◌}
use Rattle.world.proofs.TokenRules.{no_players}
use Rattle.world.specs.Rules.{are_players}
use Rattle.campaign_scene.specs.Tokens.{owner}
use Rattle.campaign_json.proofs.Each.{read_more}
use Rattle.campaign_scene.proofs.token.each_owner.Goals as goal

are : (players owners : ℕ) → are_players players owners ≡ are_players players 0 → are_players players owners ≡ true
are players owners same = same ∙ no_players players

pub returns-clause-players : goal.returns-clause-players
returns-clause-players c = are c.args.players c.loop-place.owners c.loop-place.invariant.kept

pub loop-place-preserved : goal.loop-place-preserved
loop-place-preserved c = read_more (λ place. owner c.args.players) (are_players c.args.players) c.args.values.now 0 c.loop-place.place c.loop-place.owners c.in-Ok.next c.index-values-place.result c.loop-place.invariant c.loop-place-test.true c.index-values-place.is c.in-Ok.ensures.exact (c.in-Ok.ensures.players (are c.args.players c.loop-place.owners c.loop-place.invariant.kept) ∙ sym (are c.args.players c.loop-place.owners c.loop-place.invariant.kept))
