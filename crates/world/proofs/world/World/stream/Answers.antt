use Rattle.std.proofs.Common.{◌≡◌, Option, refl, subst, sym, arith}
use Rattle.std.specs.Prelude.{IfSome}
use Rattle.seats.specs.Book.{Book, stream_of, with_stream}
use Rattle.world.proofs.Books.{is_changed, is_found, IsWorld-stored, keeps_all}
use Rattle.world.proofs.world.World.stream.Goals as goal

pub invariant_of-self-lent : goal.invariant_of-self-lent
invariant_of-self-lent c stream =
    IsWorld-stored c.self.inside.scene c.self.inside.seats.items c.args.self.now c.args.seat c.number.result c.index_mut-book.result.now c.self.view_is (omega (arith, c.number.ensures.value)) c.requires c.index_mut-book.ensures.value
    (λ book. with_stream book stream) (keeps_all (λ book. with_stream book stream) (λ book. refl) (λ book. refl)) (with_stream c.index_mut-book.result.now stream) refl c.self.invariant

pub returns : goal.returns
returns c = (
  (
    refl,
    λ stream. is_changed c.self.inside.scene c.self.inside.seats.items c.args.self.now c.args.seat c.number.result c.index_mut-book.result.now c.self.view_is (omega (arith, c.number.ensures.value)) c.requires c.index_mut-book.ensures.value
        (λ book. with_stream book stream) (with_stream c.index_mut-book.result.now stream) refl,
  ),
  record {
    lent = tt;
    value =
        subst (λ (o : Option Book). IfSome o (λ book. c.stream.result.now ≡ stream_of book))
        (sym (is_found c.self.inside.scene c.self.inside.seats.items c.args.self.now c.args.seat c.number.result c.index_mut-book.result.now c.self.view_is (omega (arith, c.number.ensures.value)) c.requires c.index_mut-book.ensures.value))
        c.stream.ensures.value;
  },
)
