use Rattle.std.proofs.Common.{◌≡◌, Option, refl, subst, sym, arith}
use Rattle.std.specs.Prelude.{IfSome, is_some}
use Rattle.seats.specs.Book.{Book, macro_of, without_macro}
use Rattle.world.proofs.Books.{is_found, is_changed, IsWorld-stored, keeps_all}
use Rattle.world.proofs.world.World.drop_macro.Goals as goal

pub invariant_of-self : goal.invariant_of-self
invariant_of-self c =
    IsWorld-stored c.self.inside.scene c.self.inside.seats.items c.args.self.now c.args.seat c.number.result c.index_mut.result.now c.self.view_is (omega (arith, c.number.ensures.value)) c.requires c.index_mut.ensures.value
    (without_macro c.args.name) (keeps_all (without_macro c.args.name) (λ book. refl) (λ book. refl)) c.drop_macro.new.self c.drop_macro.ensures.value c.self.invariant

pub returns-clause-there : goal.returns-clause-there
returns-clause-there c =
    subst (λ (o : Option Book). IfSome o (λ book. c.drop_macro.result ≡ is_some (macro_of c.args.name book.macros)))
    (sym (is_found c.self.inside.scene c.self.inside.seats.items c.args.self.now c.args.seat c.number.result c.index_mut.result.now c.self.view_is (omega (arith, c.number.ensures.value)) c.requires c.index_mut.ensures.value))
    c.drop_macro.ensures.there

pub returns-clause-value : goal.returns-clause-value
returns-clause-value c =
    is_changed c.self.inside.scene c.self.inside.seats.items c.args.self.now c.args.seat c.number.result c.index_mut.result.now c.self.view_is (omega (arith, c.number.ensures.value)) c.requires c.index_mut.ensures.value
    (without_macro c.args.name) c.drop_macro.new.self c.drop_macro.ensures.value
