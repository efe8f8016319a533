use Rattle.std.proofs.Common.{◌≡◌, ◌∙◌, ap, rules}
use Rattle.campaign_scene.specs.Tokens.{owners}
use Rattle.campaign_scene.proofs.token.read_owners.Goals as goal

pub returns-clause-exact : goal.returns-clause-exact
unfolding owners
returns-clause-exact c =
    let players : c.players.result ≡ c.args.scene.now.fog.players = c.players.ensures.value ∙ ap (λ f. f.players) c.fog.ensures.value in
    let read = rw players at c.each_owner.ensures.exact in
    search rules
