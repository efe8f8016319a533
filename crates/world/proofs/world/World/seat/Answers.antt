use Rattle.std.proofs.Common.{◌<◌, ◌≡◌, ℕ, ◌+◌, ap, arith, length, subst, sym, ◌∙◌}
use Rattle.seats.specs.Book.{Book}
use Rattle.world.specs.World.{World}
use Rattle.world.proofs.Numbers.{numbered_at}
use Rattle.world.proofs.world.World.seat.Goals as goal

pub returns-clause-number : goal.returns-clause-number
returns-clause-number c =
    let low : c.args.seat < length c.self.inside.seats.items = subst (λ (w : World). c.args.seat < length w.books) (sym c.self.view_is) c.requires in
    let there : c.number.result < length c.self.inside.seats.items = subst (λ (k : ℕ). k < length c.self.inside.seats.items) (sym c.number.ensures.value) low in
    let e : 0 + c.number.result ≡ c.args.seat = omega (arith, c.number.ensures.value) in
    ap (λ (book : Book). book.seat) c.index.ensures
    ∙ numbered_at c.self.inside.seats.items 0 c.number.result c.index.result.now c.self.invariant.numbered there ∙ e
