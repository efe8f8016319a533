use Rattle.std.proofs.Common.{arith, ◌≤◌, sym, subst}
use Rattle.evening_log.proofs.Logged.{heard_back, away_less}
use Rattle.evening_log.proofs.logged_doors.LoggedDoorDoor.give_back.Goals as goal

pub invariant_of-self : goal.invariant_of-self
invariant_of-self g c =
    let some : 1 ≤ c.self.inside.away = subst (λ d. 1 ≤ d.away) (sym c.self.view_is) c.requires.away in (
      c.self.invariant.0,
      heard_back (λ ends. ends.value) c.self.inside.heard c.into_parts-output.result.1 c.max-self-inside.result c.self.inside.ended.items c.push_reserved.new.self.items c.of.result _
          c.push_reserved.ensures.items c.of.ensures c.max-self-inside.ensures c.self.invariant.1 c.into_parts-output.ensures.heard,
      omega (arith, c.self.invariant.2, c.push_reserved.ensures.len, c.push_reserved.ensures.capacity, some),
      away_less c.self.inside.away (g.L.Door.away c.self.inside.outer) (g.L.Door.away c.give_back.new.self) some c.self.invariant.3 c.give_back.ensures.away,
    )
