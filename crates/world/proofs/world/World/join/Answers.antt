use Rattle.std.proofs.Common.{◌≡◌, Option, refl, subst, sym, arith}
use Rattle.std.specs.Prelude.{IfSome}
use Rattle.std.specs.Result.{result_err}
use Rattle.seats.specs.Book.{Book, join_refusal, joined}
use Rattle.world.proofs.Books.{is_found, changed_if_ok, IsWorld-if_ok, keeps_all}
use Rattle.world.proofs.world.World.join.Goals as goal

pub invariant_of-self : goal.invariant_of-self
invariant_of-self c =
    IsWorld-if_ok c.self.inside.scene c.self.inside.seats.items c.args.self.now c.args.seat c.number.result c.index_mut.result.now c.self.view_is (omega (arith, c.number.ensures.value)) c.requires c.index_mut.ensures.value
    c.join.result (λ book. joined book c.args.reader c.args.writer) (keeps_all (λ book. joined book c.args.reader c.args.writer) (λ book. refl) (λ book. refl)) c.join.new.self c.join.ensures.ok c.join.ensures.refused c.self.invariant

pub returns-clause-cause : goal.returns-clause-cause
returns-clause-cause c =
    subst (λ (o : Option Book). IfSome o (λ book. result_err c.join.result ≡ join_refusal book c.args.key.now))
    (sym (is_found c.self.inside.scene c.self.inside.seats.items c.args.self.now c.args.seat c.number.result c.index_mut.result.now c.self.view_is (omega (arith, c.number.ensures.value)) c.requires c.index_mut.ensures.value))
    c.join.ensures.cause

pub returns-clause-ok : goal.returns-clause-ok
returns-clause-ok c =
    changed_if_ok c.self.inside.scene c.self.inside.seats.items c.args.self.now c.args.seat c.number.result c.index_mut.result.now c.self.view_is (omega (arith, c.number.ensures.value)) c.requires c.index_mut.ensures.value
    c.join.result (λ book. joined book c.args.reader c.args.writer) c.join.new.self c.join.ensures.ok
