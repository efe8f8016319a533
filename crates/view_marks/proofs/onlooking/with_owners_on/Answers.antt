use Rattle.std.specs.Prelude.{not}
use Rattle.tokens.specs.Owners.{has_owner}
use Rattle.player_view.specs.Sight.{is_hidden, is_on}
use Rattle.view_marks.specs.Onlookers.{plays_on}
use Rattle.view_marks.proofs.Meeting.{more, no_more, with_both, without_both}
use Rattle.view_marks.proofs.onlooking.with_owners_on.Goals as goal

pub returns-then-stands_on : goal.returns-then-stands_on
returns-then-stands_on c = λ p h.
    let t = c.token_at-token.result.now in
    more (plays_on c.args.name p) c.args.scene.now.tokens c.args.place t (has_owner c.joined.result p) (has_owner c.args.players p) (has_owner t.owners p) c.token_at-token.ensures.value
    (c.joined.ensures p) (c.requires.so_far p h) (with_both (is_on c.args.name t) (not (is_hidden t.layer)) (has_owner t.owners p) c.if-stands_on.ensures)

pub returns-else-stands_on : goal.returns-else-stands_on
returns-else-stands_on c = λ p h.
    let t = c.token_at-token.result.now in
    no_more (plays_on c.args.name p) c.args.scene.now.tokens c.args.place t (has_owner c.args.players p) c.token_at-token.ensures.value
    (c.requires.so_far p h) (without_both (is_on c.args.name t) (not (is_hidden t.layer)) (has_owner t.owners p) c.if-stands_on.ensures)
