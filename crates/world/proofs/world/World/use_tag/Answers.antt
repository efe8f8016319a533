use Rattle.std.proofs.Common.{◌≡◌, true, false, Option, Err, refl, subst, sym, arith}
use Rattle.std.specs.Prelude.{◌↔◌, IfSome}
use Rattle.seats.specs.Book.{Book, tag_used, tags_spent, with_tag}
use Rattle.seats.specs.declared.tag_fault.TagFault.TheVariants.{TagUsed, TagsSpent}
use Rattle.world.proofs.Books.{is_found, changed_if_ok, IsWorld-if_ok, keeps_with_tag}
use Rattle.world.proofs.world.World.use_tag.Goals as goal

pub invariant_of-self : goal.invariant_of-self
invariant_of-self c =
    IsWorld-if_ok c.self.inside.scene c.self.inside.seats.items c.args.self.now c.args.seat c.number.result c.index_mut.result.now c.self.view_is (omega (arith, c.number.ensures.value)) c.requires c.index_mut.ensures.value
    c.use_tag.result (λ book. with_tag book c.args.tag) (keeps_with_tag c.args.tag) c.use_tag.new.self c.use_tag.ensures.ok c.use_tag.ensures.refused c.self.invariant

pub returns-clause-tag_used : goal.returns-clause-tag_used
returns-clause-tag_used c =
    subst (λ (o : Option Book). IfSome o (λ book. (c.use_tag.result ≡ Err TagUsed) ↔ (tag_used book.tags c.args.tag ≡ true)))
    (sym (is_found c.self.inside.scene c.self.inside.seats.items c.args.self.now c.args.seat c.number.result c.index_mut.result.now c.self.view_is (omega (arith, c.number.ensures.value)) c.requires c.index_mut.ensures.value))
    c.use_tag.ensures.tag_used

pub returns-clause-tags_spent : goal.returns-clause-tags_spent
returns-clause-tags_spent c =
    subst (λ (o : Option Book). IfSome o (λ book. (c.use_tag.result ≡ Err TagsSpent) ↔ ((tag_used book.tags c.args.tag ≡ false) × (tags_spent book.seat book.tags ≡ true))))
    (sym (is_found c.self.inside.scene c.self.inside.seats.items c.args.self.now c.args.seat c.number.result c.index_mut.result.now c.self.view_is (omega (arith, c.number.ensures.value)) c.requires c.index_mut.ensures.value))
    c.use_tag.ensures.tags_spent

pub returns-clause-ok : goal.returns-clause-ok
returns-clause-ok c =
    changed_if_ok c.self.inside.scene c.self.inside.seats.items c.args.self.now c.args.seat c.number.result c.index_mut.result.now c.self.view_is (omega (arith, c.number.ensures.value)) c.requires c.index_mut.ensures.value
    c.use_tag.result (λ book. with_tag book c.args.tag) c.use_tag.new.self c.use_tag.ensures.ok
