use Rattle.std.proofs.Common.{rules, ◌≡◌, ◌∙◌, ◌++◌, ℕ, sym, ap, subst}
use Rattle.std.proofs.lemmas.List.{append-nil}
use Rattle.campaign_law.specs.World.{World, seat_at}
use Rattle.campaign_law.specs.Law.{world_of}
use Rattle.tabletop.specs.Logged.{leave_of}
use Rattle.tabletop.proofs.Leaves.{none_leaves, one_leaves}
use Rattle.tabletop.proofs.log_start.add_leave.Goals as goal

pub returns-then-is_free : goal.returns-then-is_free
returns-then-is_free g c =
    let old = c.args.entries.now.items in
    let w : World = world_of c.args.campaign.now in
    let same : c.in-Some.seat ≡ c.args.number = search rules in
    subst (λ (n : ℕ). old ≡ old ++ leave_of n (seat_at w n)) same
    (sym (ap (λ es. old ++ es) (none_leaves c.in-Some.seat c.state.result (seat_at w c.in-Some.seat) c.state.ensures (sym c.is_free.ensures ∙ c.if-is_free.true)) ∙ append-nil old))

pub returns : goal.returns
returns g c =
    let old = c.args.entries.now.items in
    let w : World = world_of c.args.campaign.now in
    let same : c.in-Some.seat ≡ c.args.number = search rules in
    subst (λ (n : ℕ). c.put.new.entries.items ≡ old ++ leave_of n (seat_at w n)) same
    (c.in_ok-put.ensures ∙ ap (λ es. old ++ es) (sym (one_leaves c.in-Some.seat c.state.result (seat_at w c.in-Some.seat) c.state.ensures (sym c.is_free.ensures ∙ c.if-is_free.false))))
