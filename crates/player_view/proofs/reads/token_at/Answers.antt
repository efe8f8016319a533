use Rattle.std.proofs.Common.{sym, ◌∙◌, ap, subst}
use Rattle.std.specs.Prelude.{slice_get}
use Rattle.maps.specs.Maps.{AreMaps}
use Rattle.player_view.proofs.SceneLemmas.{on_lattice}
use Rattle.player_view.proofs.reads.token_at.Goals as goal

pub returns-clause-column : goal.returns-clause-column
returns-clause-column c =
    (on_lattice c.args.scene.now c.args.place c.at.result.now c.maps.ensures.fitting
    (subst AreMaps c.maps.ensures.value c.len-count.ensures.valid)
    (ap (λ ts. slice_get ts c.args.place) (sym c.tokens.ensures.value) ∙ c.at.ensures)).0

pub returns-clause-row : goal.returns-clause-row
returns-clause-row c =
    (on_lattice c.args.scene.now c.args.place c.at.result.now c.maps.ensures.fitting
    (subst AreMaps c.maps.ensures.value c.len-count.ensures.valid)
    (ap (λ ts. slice_get ts c.args.place) (sym c.tokens.ensures.value) ∙ c.at.ensures)).1
