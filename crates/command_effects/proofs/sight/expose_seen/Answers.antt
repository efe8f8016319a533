use Rattle.std.proofs.Common.{◌∙◌, ap}
use Rattle.fog_book.specs.Exposures.{Fog}
use Rattle.maps.specs.Maps.{has_map}
use Rattle.command_effects.proofs.Ways.{HasOtherSets, so_far, fields_still, lookout_still, maps_still, player_still, one_more_if}
use Rattle.command_effects.proofs.sight.expose_seen.Goals as goal

pub expose_to-requires-clause-there : goal.expose_to-requires-clause-there
expose_to-requires-clause-there c =
    let other : HasOtherSets c.args.scene.now c.loop-number.scene = so_far c.args.scene.now c.loop-number.scene c.args.map c.loop-number.number c.requires.there c.loop-number.invariant in
    ap (has_map c.args.map) (maps_still c.args.scene.now c.loop-number.scene other) ∙ c.requires.there

pub expose_to-requires-clause-player : goal.expose_to-requires-clause-player
expose_to-requires-clause-player c =
    let other : HasOtherSets c.args.scene.now c.loop-number.scene = so_far c.args.scene.now c.loop-number.scene c.args.map c.loop-number.number c.requires.there c.loop-number.invariant in
    player_still c.args.scene.now c.loop-number.scene other c.loop-number.number c.players-number-end.result c.in-Some.seat c.in-Some.ensures.value (c.players-number-end.ensures.value ∙ ap (λ (f : Fog). f.players) c.fog.ensures.value) c.loop-number-test.true

pub expose_to-requires-clause-fields : goal.expose_to-requires-clause-fields
expose_to-requires-clause-fields c =
    let other : HasOtherSets c.args.scene.now c.loop-number.scene = so_far c.args.scene.now c.loop-number.scene c.args.map c.loop-number.number c.requires.there c.loop-number.invariant in
    fields_still c.args.scene.now c.loop-number.scene c.args.fields.now other c.requires.fields

pub expose_to-requires-clause-lookout : goal.expose_to-requires-clause-lookout
expose_to-requires-clause-lookout c =
    let other : HasOtherSets c.args.scene.now c.loop-number.scene = so_far c.args.scene.now c.loop-number.scene c.args.map c.loop-number.number c.requires.there c.loop-number.invariant in
    lookout_still c.args.scene.now c.loop-number.scene c.in_ok-lookout.lookout other c.in_ok-lookout.ensures.value

pub loop-number-preserved : goal.loop-number-preserved
loop-number-preserved c = one_more_if c.args.scene.now c.loop-number.scene c.expose_to.new.scene c.args.map c.loop-number.number c.in-Some.seat c.in-Some.ensures.value c.requires.there c.loop-number.invariant c.in_ok-expose_to.ensures
