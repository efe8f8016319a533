use Rattle.std.proofs.Common.{◌≡◌, None, Option, refl, subst, sym, arith}
use Rattle.std.specs.Prelude.{IfSome, IfErr, OnOk}
use Rattle.seats.specs.Book.{Book, macro_fault, with_macro, IsBookFaultOf}
use Rattle.world.proofs.Books.{is_found, changed_if_ok, IsWorld-if_ok, keeps_all}
use Rattle.world.proofs.world.World.set_macro.Goals as goal

pub invariant_of-self : goal.invariant_of-self
invariant_of-self c =
    IsWorld-if_ok c.self.inside.scene c.self.inside.seats.items c.args.self.now c.args.seat c.number.result c.index_mut.result.now c.self.view_is (omega (arith, c.number.ensures.value)) c.requires c.index_mut.ensures.value
    c.set_macro.result (with_macro c.args.name c.args.text) (keeps_all (with_macro c.args.name c.args.text) (λ book. refl) (λ book. refl)) c.set_macro.new.self c.set_macro.ensures.ok c.set_macro.ensures.refused c.self.invariant

pub returns-clause-room : goal.returns-clause-room
returns-clause-room c =
    subst (λ (o : Option Book). IfSome o (λ book. OnOk c.set_macro.result (macro_fault book.macros c.args.name ≡ None)))
    (sym (is_found c.self.inside.scene c.self.inside.seats.items c.args.self.now c.args.seat c.number.result c.index_mut.result.now c.self.view_is (omega (arith, c.number.ensures.value)) c.requires c.index_mut.ensures.value))
    c.set_macro.ensures.room

pub returns-clause-fault : goal.returns-clause-fault
returns-clause-fault c =
    subst (λ (o : Option Book). IfSome o (λ book. IfErr c.set_macro.result (IsBookFaultOf (macro_fault book.macros c.args.name))))
    (sym (is_found c.self.inside.scene c.self.inside.seats.items c.args.self.now c.args.seat c.number.result c.index_mut.result.now c.self.view_is (omega (arith, c.number.ensures.value)) c.requires c.index_mut.ensures.value))
    c.set_macro.ensures.fault

pub returns-clause-ok : goal.returns-clause-ok
returns-clause-ok c =
    changed_if_ok c.self.inside.scene c.self.inside.seats.items c.args.self.now c.args.seat c.number.result c.index_mut.result.now c.self.view_is (omega (arith, c.number.ensures.value)) c.requires c.index_mut.ensures.value
    c.set_macro.result (with_macro c.args.name c.args.text) c.set_macro.new.self c.set_macro.ensures.ok
