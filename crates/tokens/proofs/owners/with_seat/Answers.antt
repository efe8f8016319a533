use Rattle.std.proofs.Common.{ap, ◌∙◌, sym, ℕ, true, false}
use Rattle.tokens.specs.Owners.{with_owner}
use Rattle.tokens.proofs.OwnerLemmas.{added, added_lt, removed, removed_lt}
use Rattle.tokens.proofs.owners.with_seat.Goals as goal

pub returns-then-on : goal.returns-then-on
returns-then-on c = record {
  value =
      added c.args.seats c.number.result c.requires c.number.ensures.bound
      ∙ ap (λ (s : ℕ). with_owner c.args.seats s true) c.number.ensures.value
      ∙ ap (with_owner c.args.seats c.args.seat) (sym c.if-on.true);
  bound = added_lt c.args.seats c.number.result c.requires c.number.ensures.bound;
}

pub returns-else-on : goal.returns-else-on
returns-else-on c = record {
  value =
      removed c.args.seats c.number.result c.requires c.number.ensures.bound
      ∙ ap (λ (s : ℕ). with_owner c.args.seats s false) c.number.ensures.value
      ∙ ap (with_owner c.args.seats c.args.seat) (sym c.if-on.false);
  bound = removed_lt c.args.seats c.number.result c.requires;
}
