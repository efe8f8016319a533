use Rattle.std.proofs.Common.{◌∙◌}
use Rattle.tokens.specs.Owners.{has_owner}
use Rattle.tokens.specs.Tokens.{has_id}
use Rattle.view_marks.specs.Onlookers.{meets, meets_as}
use Rattle.view_marks.proofs.Meeting.{more, no_more, with_one, without_one}
use Rattle.view_marks.proofs.onlooking.with_met_at.Goals as goal

pub returns-then-eq : goal.returns-then-eq
returns-then-eq c = λ p h.
    let t = c.token_at-token.result.now in
    more (meets_as c.args.scene.now c.args.id.now p) c.args.scene.now.tokens c.args.place t (has_owner c.joined.result p) (has_owner c.args.players p) (has_owner c.met_by.result p) c.token_at-token.ensures.value
    (c.joined.ensures p) (c.requires.so_far p h) (c.met_by.ensures p h ∙ with_one (has_id c.args.id.now t) (meets c.args.scene.now p t) c.if-eq.ensures)

pub returns-else-eq : goal.returns-else-eq
returns-else-eq c = λ p h.
    let t = c.token_at-token.result.now in
    no_more (meets_as c.args.scene.now c.args.id.now p) c.args.scene.now.tokens c.args.place t (has_owner c.args.players p) c.token_at-token.ensures.value
    (c.requires.so_far p h) (without_one (has_id c.args.id.now t) (meets c.args.scene.now p t) c.if-eq.ensures)
