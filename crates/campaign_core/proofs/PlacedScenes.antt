-- The scene after a command that puts a token elsewhere.
use Rattle.std.proofs.Common.{◌≡◌, ℕ, Some, None, sym, ◌∙◌, ap, arith}
use Rattle.std.specs.Prelude.{Option, List, IfSome}
use Rattle.world.specs.Scene.{Scene}
use Rattle.player_view.specs.Tables.{HasTables}
use Rattle.player_view.specs.View.{view_of}
use Rattle.player_view.proofs.ViewIs.{view_is}
use Rattle.macro_eval.specs.declared.intent.Intent.{Intent}
use Rattle.command_json.specs.declared.command.Command.{Command}
use Rattle.command_effects.specs.Allowed.{IsAllowed}
use Rattle.command_effects.specs.Effects.{scene_by}
use Rattle.command_effects.specs.Settle.{settled}
use Rattle.command_effects.specs.Way.{IsWay, after_by, exposed_on, way_of}
use Rattle.command_effects.specs.declared.way.Way.{Way as Told}
use Rattle.view_change.specs.Change.{change_of}
use Rattle.view_marks.specs.declared.placed.Placed.{Placed}
use Rattle.view_marks.specs.Placed.{placed_by, placed_in}
use Rattle.view_marks.proofs.Placings.{one_token}
use Rattle.campaign_core.specs.Shown.{IsPlacing}
use Rattle.campaign_core.proofs.PlacedChanges.{changes_one}
use Rattle.campaign_core.proofs.OnlookedScenes.{no_way}

module _ (steps : ℕ) (intents : List Intent) (seat : ℕ) (s after walked : Scene) (c : Command) (told : Option Told)
    (tables : HasTables s) (may : IsAllowed s seat c)
    (made : after ≡ scene_by steps intents seat s (Some c)) (is : IsWay s (way_of steps seat s (Some c)) told)
    (walks : walked ≡ exposed_on (way_of steps seat s (Some c)) after) where
  view_there : (p : Placed) → placed_by after c ≡ Some p → told ≡ None → (now : Scene) → now ≡ settled walked → view_of now 0 ≡ placed_in p (view_of s 0)
  unfolding after_by
  view_there p placed none now stands =
      ap (λ (x : Scene). view_of x 0) (stands ∙ ap settled (walks ∙ ap (exposed_on (way_of steps seat s (Some c))) made))
      ∙ one_token steps intents seat s c p tables may (ap (λ (x : Scene). placed_by x c) (sym made) ∙ placed) (no_way s (way_of steps seat s (Some c)) told is none)

  pub placing : (placed : Option Placed) → IfSome placed (λ p. placed_by after c ≡ Some p) → IfSome placed (λ p. told ≡ None) → (now : Scene) → now ≡ settled walked
      → IfSome placed (λ p. IsPlacing p (view_of s 0) (view_of now 0))
  placing None there none now stands = tt
  placing (Some p) there none now stands =
      let same : view_of now 0 ≡ placed_in p (view_of s 0) = view_there p there none now stands in
      record { view = same; change = ap (change_of (view_of s 0)) same ∙ changes_one p (view_of s 0) (view_is s 0 tables (omega arith)) }
