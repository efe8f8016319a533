use Rattle.std.proofs.Common.{◌≤◌, ◌<◌, List, length, sym, ◌∙◌, ap, subst, take}
use Rattle.std.specs.Prelude.{All, slice_get}
use Rattle.cells.specs.Cells.{Cells}
use Rattle.lights.specs.Lights.{AreLights}
use Rattle.vision.specs.declared.lamp.Lamp.{Lamp}
use Rattle.player_view.specs.Lookouts.{places_among}
use Rattle.player_view.specs.Sight.{lamps_on}
use Rattle.player_view.proofs.SightLemmas.{radii_few, fields_at, place_within, seen_next, size_visible, unseeing}
use Rattle.player_view.proofs.looks.add_sight.Goals as goal

pub token_at-token-requires : goal.token_at-token-requires
token_at-token-requires c =
    place_within c.args.scene.now c.args.lookout.now.name (length c.args.scene.now.tokens) c.args.number c.place_of.result
    (ap (λ ps. slice_get ps c.args.number) (sym c.requires.lookout.places) ∙ c.place_of.ensures)

pub seen_cells-requires-clause-radii : goal.seen_cells-requires-clause-radii
seen_cells-requires-clause-radii c =
    subst (λ (lamps : List Lamp). All (λ (lamp : Lamp). lamp.radius ≤ 20) lamps) (sym (c.deref.ensures.value ∙ c.requires.lookout.lamps))
    (radii_few c.args.scene.now c.args.lookout.now.name (subst AreLights c.lights.ensures.value c.len-count.ensures.valid))

pub seen_cells-requires-clause-fields : goal.seen_cells-requires-clause-fields
seen_cells-requires-clause-fields c = (
  c.args.map.now.walls,
  fields_at c.args.scene.now c.args.fields.now c.args.seat c.args.map.now c.place_of.result c.token_at-token.result.now c.in-Some.sight c.args.out.now
      c.eye.result c.deref.result.now c.requires.fields c.requires.there c.token_at-token.ensures.value (sym c.in-Some.ensures.value)
      (ap (λ (z : Cells). z.extent) c.requires.so_far ∙ size_visible c.args.scene.now c.args.seat c.args.map.now (take c.args.number c.args.lookout.now.places.items))
      c.eye.ensures (c.deref.ensures.value ∙ c.requires.lookout.lamps ∙ ap (lamps_on c.args.scene.now) c.requires.name),
)

pub returns-in-None : goal.returns-in-None
returns-in-None c =
    c.requires.so_far
    ∙ unseeing c.args.scene.now c.args.seat c.args.map.now c.args.lookout.now.places.items c.args.number c.place_of.result c.token_at-token.result.now
    c.place_of.ensures c.token_at-token.ensures.value (sym c.in-None.ensures.value)

pub returns-in-Some : goal.returns-in-Some
returns-in-Some c =
    let lamps = c.deref.ensures.value ∙ c.requires.lookout.lamps ∙ ap (lamps_on c.args.scene.now) c.requires.name in
    seen_next c.args.scene.now c.args.seat c.args.map.now c.args.lookout.now.places.items c.args.number c.place_of.result c.token_at-token.result.now c.in-Some.sight
    c.args.out.now c.seen_cells.new.out c.mode.result c.eye.result c.deref.result.now c.place_of.ensures c.token_at-token.ensures.value
    (sym c.in-Some.ensures.value) c.requires.so_far c.mode.ensures c.eye.ensures lamps
    (c.seen_cells.ensures.value c.args.map.now.walls
    (fields_at c.args.scene.now c.args.fields.now c.args.seat c.args.map.now c.place_of.result c.token_at-token.result.now c.in-Some.sight c.args.out.now
    c.eye.result c.deref.result.now c.requires.fields c.requires.there c.token_at-token.ensures.value (sym c.in-Some.ensures.value)
    (ap (λ (z : Cells). z.extent) c.requires.so_far ∙ size_visible c.args.scene.now c.args.seat c.args.map.now (take c.args.number c.args.lookout.now.places.items))
    c.eye.ensures lamps))
