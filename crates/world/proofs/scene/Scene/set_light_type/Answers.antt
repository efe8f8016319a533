use mir.Syntax.{w32}
use mir.Val.{to_z, of_z}
use Rattle.world.specs.Scene.{Scene}
use Rattle.world.proofs.SceneRules.{IsScene-lights_if_ok}
use Rattle.world.proofs.scene.Scene.set_light_type.Goals as goal

pub invariant_of-self : goal.invariant_of-self
invariant_of-self c =
    let s : Scene = record { maps = c.self.inside.maps; tokens = c.self.inside.tokens; lights = c.self.inside.lights; sights = c.self.inside.sights; fog = c.self.inside.fog; fight = c.self.inside.fight } in
    IsScene-lights_if_ok c.set.result s c.args.name (to_z w32 (of_z w32 c.args.radius)) c.set.new.self c.set.ensures.set c.set.ensures.unchanged c.self.invariant
