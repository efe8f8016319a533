use Rattle.std.proofs.Common.{rules, arith, ap, sym, subst, ◌∙◌, ◌∷◌, [], List, length, length-append}
use Rattle.std.specs.Prelude.{All}
use Rattle.std.proofs.lemmas.List.Elements.{All-append, All-cons, All-nil}
use Rattle.campaign_law.specs.declared.entry.Entry.{Entry}
use Rattle.crash_log.specs.Entries.{IsShort}
use Rattle.evening_log.proofs.Keeping.{group_grows}
use Rattle.evening_log.proofs.chronicle.copy_group.Goals as goal

pub loop-place-preserved : goal.loop-place-preserved
loop-place-preserved g c =
    let inv = c.loop-place.invariant in
    let e = c.in_ok-entry.entry in
    let group = c.loop-place.list.items in
    let pushed = c.in_ok-pushed.ensures in
    let short : IsShort e = search rules in (
      omega (arith, inv.0),
      omega (arith, ap length pushed ∙ length-append group (e ∷ []), inv.0, inv.1),
      pushed ∙ group_grows (g.O.Object.history c.args.object.now) group c.args.from c.loop-place.place e inv.0
          (omega (arith, c.loop-place-test.true, c.group_end-place-end.ensures, c.length.ensures)) c.in_ok-entry.ensures inv.2,
      subst (λ (es : List Entry). All IsShort es) (sym pushed) (All-append IsShort group (e ∷ []) inv.3 (All-cons IsShort e [] short (All-nil IsShort))),
    )
