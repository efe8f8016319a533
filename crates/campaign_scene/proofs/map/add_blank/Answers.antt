use Rattle.std.proofs.Common.{ap, ◌∙◌}
use Rattle.world.specs.Rules.{size_of}
use Rattle.campaign_scene.proofs.Maps.{there, new_size, moded_size, shown_size}
use Rattle.campaign_scene.proofs.map.add_blank.Goals as goal

pub set_mode-requires : goal.set_mode-requires
set_mode-requires c =
    let new = c.args.heading.now in
    there new.name c.add_map.new.self new.size (ap (λ s. size_of new.name s.maps) c.in-Ok.ensures.value ∙ new_size new.name new.size c.args.scene.now c.requires)

pub set_shown-requires : goal.set_shown-requires
set_shown-requires c =
    let new = c.args.heading.now in
    there new.name c.set_mode.new.self new.size
    (ap (λ s. size_of new.name s.maps) c.set_mode.ensures ∙ moded_size new.name new.mode c.add_map.new.self ∙ ap (λ s. size_of new.name s.maps) c.in-Ok.ensures.value ∙ new_size new.name new.size c.args.scene.now c.requires)

pub set_trail-requires : goal.set_trail-requires
set_trail-requires c =
    let new = c.args.heading.now in
    there new.name c.set_shown.new.self new.size
    (ap (λ s. size_of new.name s.maps) c.set_shown.ensures ∙ shown_size new.name new.shown c.set_mode.new.self
    ∙ ap (λ s. size_of new.name s.maps) c.set_mode.ensures ∙ moded_size new.name new.mode c.add_map.new.self ∙ ap (λ s. size_of new.name s.maps) c.in-Ok.ensures.value ∙ new_size new.name new.size c.args.scene.now c.requires)
