use Rattle.std.proofs.Common.{Some, ap, subst, sym, ◌≡◌, ◌∙◌, ◌+◌, ◌<◌, ℕ, List, drop, get_or, length, arith}
use Rattle.std.specs.Prelude.{IfSome}
use Rattle.cells.specs.declared.cell.Cell.{Cell}
use Rattle.maps.specs.Maps.{Grid, map_of}
use Rattle.tokens.specs.Tokens.{placed}
use Rattle.world.specs.Scene.{Scene, with_token}
use Rattle.command_effects.specs.Way.{along, exposed_from}
use Rattle.command_looks.specs.Fields.{AreKept}
use Rattle.command_looks.proofs.Along.{next_cell, maps_stay, placed_due, side_stays, kept_stay}
use Rattle.command_looks.proofs.way.show_way.Goals as goal

pub loop-cell-preserved : goal.loop-cell-preserved
loop-cell-preserved g c =
    let id = c.args.way.now.id in
    let name : List ℕ = c.args.way.now.map in
    let cells : List Cell = c.args.way.now.cells.items in
    let last : Cell = c.args.way.now.last in
    let i : ℕ = c.loop-cell.cell-index in
    let d : Cell = record { x = 0; y = 0 } in
    let s : Scene = c.loop-cell.scene in
    let new : Scene = c.stop_at.new.scene in
    let grid : Grid = c.requires.way.grid in
    let there : map_of name c.args.scene.now.maps ≡ Some grid = c.requires.way.there in
    let seen : List Cell → Scene = λ cs. with_token id (placed name (get_or cs i d)) s in
    let shown : IfSome (map_of name s.maps) (λ m. new ≡ exposed_from (seen c.deref-cell-items.result.now) name m (seen c.deref-cell-items.result.now)) = c.in_ok-stop_at.ensures.value in
    let here : new ≡ exposed_from (seen c.deref-cell-items.result.now) name grid (seen c.deref-cell-items.result.now) =
    subst (λ o. IfSome o (λ (m : Grid). new ≡ exposed_from (seen c.deref-cell-items.result.now) name m (seen c.deref-cell-items.result.now))) (ap (map_of name) c.loop-cell.invariant.maps ∙ there) shown in
    let made : new ≡ exposed_from (seen cells) name grid (seen cells) = subst (λ (cs : List Cell). new ≡ exposed_from (seen cs) name grid (seen cs)) c.deref-cell-items.ensures.value here in
    let before : along id name grid (drop i cells) (with_token id (placed name last) s) ≡ along id name grid cells c.args.scene.now =
    subst (λ o. IfSome o (λ (m : Grid). along id name m (drop i cells) (with_token id (placed name last) s) ≡ along id name m cells c.args.scene.now)) there c.loop-cell.invariant.rest in
    let inside : i < length cells = subst (λ (cs : List Cell). i < length cs) c.deref-cell-items.ensures.value c.loop-cell-test.true in
    let after = next_cell id name grid last cells i d s new (along id name grid cells c.args.scene.now) inside made before in
    let found : AreKept (seen cells) c.stop_at.new.fields = subst (λ (cs : List Cell). AreKept (seen cs) c.stop_at.new.fields) c.deref-cell-items.ensures.value c.in_ok-stop_at.ensures.kept in
    record {
      rest = subst (λ o. IfSome o (λ (m : Grid). along id name m (drop (i + 1) cells) (with_token id (placed name last) new) ≡ along id name m cells c.args.scene.now)) (sym there) after;
      maps = maps_stay id name grid (get_or cells i d) s new made ∙ c.loop-cell.invariant.maps;
      side = side_stays id name grid (get_or cells i d) s new made ∙ c.loop-cell.invariant.side;
      kept = kept_stay id name grid (get_or cells i d) s new made c.stop_at.new.fields (λ other apart. found.each other ∙ placed_due id name (get_or cells i d) s other apart);
      looks = omega (arith, c.stop_at.ensures.looks, c.loop-cell.invariant.looks);
    }
