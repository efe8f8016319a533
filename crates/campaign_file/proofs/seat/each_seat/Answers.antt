use Rattle.std.proofs.Common.{◌+◌, List, [], subst, sym}
use Rattle.std.specs.Prelude.{codes, is_ok}
use Rattle.seats.specs.Book.{Book}
use Rattle.campaign_file.proofs.Seats.{AreReadTo, seat_more, seat_is, pushed_is, seated_fails}
use Rattle.campaign_json.proofs.Each.{read_stops}
use Rattle.campaign_scene.specs.Kept.{kept}
use Rattle.campaign_file.specs.Seats.{seated}
use Rattle.campaign_file.proofs.seat.each_seat.Goals as goal

pub returns-in-Err-clause-exact : goal.returns-in-Err-clause-exact
returns-in-Err-clause-exact c =
    let number = seat_is c.new.result c.unwrap-seat.result c.loop-place.place c.unwrap-seat.ensures c.new.ensures.value in
    read_stops (codes "seats") seated (λ w. kept w.scene) c.args.values.now (record { scene = c.args.scene; books = [] }) c.loop-place.place (record { scene = c.loop-place.scene; books = c.loop-place.books.items }) c.index-values-place.result
    c.in-Err.fault c.under_item.result c.loop-place.invariant.read c.loop-place-test.true c.index-values-place.is (seated_fails c.loop-place.place c.loop-place.scene c.loop-place.books.items _ c.in-Err.fault (rw number at c.in-Err.ensures.exact)) c.under_item.ensures

pub loop-place-preserved : goal.loop-place-preserved
loop-place-preserved c =
    let place = c.loop-place.place in
    let books = c.loop-place.books.items in
    let number = seat_is c.new.result c.unwrap-seat.result place c.unwrap-seat.ensures c.new.ensures.value in
    let pushed = pushed_is (is_ok c.push.result) books c.push.new.self.items c.in-Ok.read.0 c.if-is_err.ensures.negation c.push.ensures.items in
    subst (λ (now : List Book). AreReadTo c.args.values.now c.args.scene (place + 1) c.in-Ok.read.1 now) (sym pushed)
    (seat_more c.args.values.now c.args.scene place c.loop-place.scene c.in-Ok.read.1 books c.index-values-place.result c.in-Ok.read.0 c.loop-place.invariant c.loop-place-test.true c.index-values-place.is (rw number at c.in-Ok.ensures.exact) (rw number at c.in-Ok.ensures.fresh) c.in-Ok.ensures.kept)
