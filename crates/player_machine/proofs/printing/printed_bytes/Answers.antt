use Rattle.std.proofs.Common.{◌≡◌, ◌<◌, ◌+◌, ◌∷◌, ◌++◌, ◌∙◌, length, drop, ap, arith}
use Rattle.std.specs.List.{flat_map}
use Rattle.campaign_law.specs.Player.{after}
use Rattle.player_machine.specs.Items.{item_of, items_in}
use Rattle.player_machine.proofs.SameLoops.{rest_read}
use Rattle.player_machine.proofs.Printed.{feed_next, printed_on}
use Rattle.player_machine.proofs.printing.printed_bytes.Goals as goal

pub loop-item-preserved : goal.loop-item-preserved
loop-item-preserved c =
    let items = c.args.items.now in
    let place = c.loop-item.item-index in
    let item = c.item-item.result in
    let within : place < length items = omega (arith, c.loop-item-test.true) in
    let here : items_in (drop place items) ≡ item_of item ∷ items_in (drop (place + 1) items) = ap items_in (rest_read items place item within c.item-item.is) in
    record {
      feed = feed_next _ _ (item_of item) _ _ here c.in_ok-lines.ensures.next c.loop-item.invariant.feed;
      printed = printed_on _ _ (item_of item) _ _ _ _ _ c.in_ok-lines.lines.items here c.in_ok-lines.ensures.next (c.in_ok-add_texts.ensures ∙ ap (λ texts. c.loop-item.bytes.items ++ flat_map (λ text. text) texts) c.as_slice.ensures.value) c.in_ok-lines.ensures.lines c.loop-item.invariant.printed;
    }
