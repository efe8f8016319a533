use Rattle.std.proofs.Common.{get_or, refl, ap, ◌∙◌, arith}
use Rattle.names.specs.Letters.{is_letter}
use Rattle.campaign_scene.proofs.Maps.{there, on_map, good_at, laid_more, laid_all}
use Rattle.campaign_scene.proofs.map.set_letters.Goals as goal

pub set_ground-requires-clause-there : goal.set_ground-requires-clause-there
set_ground-requires-clause-there c = there c.args.name c.loop-x.scene c.args.size (ap (λ p. p.1) c.loop-x.invariant.kept ∙ c.requires.there)

pub set_ground-requires-clause-on : goal.set_ground-requires-clause-on
set_ground-requires-clause-on c = on_map c.args.name c.loop-x.scene c.args.size c.loop-x.x c.args.y (ap (λ p. p.1) c.loop-x.invariant.kept ∙ c.requires.there) (omega (arith, c.requires.count, c.loop-x-test.true)) c.requires.row

pub set_ground-requires-clause-letter : goal.set_ground-requires-clause-letter
set_ground-requires-clause-letter c = good_at is_letter c.args.letters.now c.loop-x.x 0 c.requires.good c.loop-x-test.true

pub loop-x-preserved : goal.loop-x-preserved
loop-x-preserved c = laid_more c.args.name c.args.y c.args.letters.now c.args.scene.now c.loop-x.x c.loop-x.scene c.set_ground.new.self (get_or c.args.letters.now c.loop-x.x 0) c.loop-x.invariant c.loop-x-test.true refl c.set_ground.ensures

pub returns-clause-value : goal.returns-clause-value
returns-clause-value c = laid_all c.args.name c.args.y c.args.letters.now c.args.scene.now c.loop-x.x c.loop-x.scene c.loop-x.invariant c.loop-x-test.false
