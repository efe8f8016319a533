-- The scene after a command that shows some players nothing.
use Rattle.std.proofs.Common.{◌≡◌, ◌≤◌, ◌||◌, not, ℕ, Bool, true, false, Some, None, refl, sym, ◌∙◌, ap, subst, arith}
use Rattle.std.specs.Prelude.{Option, List, IfSome, nat_le, slice_get}
use Rattle.std.proofs.lemmas.Bool.Decides.{nat_tests}
use Rattle.tokens.specs.Owners.{has_owner}
use Rattle.campaign_core.specs.Changed.{ShowOthersTheSame}
use Rattle.world.specs.Scene.{Scene}
use Rattle.player_view.specs.View.{is_gm, view_of}
use Rattle.macro_eval.specs.declared.intent.Intent.{Intent}
use Rattle.command_json.specs.declared.command.Command.{Command}
use Rattle.command_effects.specs.Effects.{scene_by}
use Rattle.command_effects.specs.Settle.{is_among, settled, settled_set, IsSettled, OthersAreSettled}
use Rattle.command_effects.specs.Way.{Way, IsWay, after_by, exposed_on, way_of}
use Rattle.command_effects.specs.declared.way.Way.{Way as Told}
use Rattle.view_marks.specs.Onlookers.{looks_on, walked_by, AreWhere}
use Rattle.view_marks.proofs.LookingOn.{others_nothing, others_settled as settled_in_law}

pub no_way : (s : Scene) (way : Option Way) (told : Option Told) → IsWay s way told → told ≡ None → way ≡ None
no_way s None told is none = refl
no_way s (Some way) None is none = absurd is
no_way s (Some way) (Some told) is none = cc

module _ (steps : ℕ) (intents : List Intent) (seat : ℕ) (before s after walked : Scene) (c : Command) (players : ℕ) (settled_before : IsSettled s) (same : before ≡ s)
    (made : after ≡ scene_by steps intents seat s (Some c)) (walks : walked ≡ exposed_on (way_of steps seat s (Some c)) after) (are : AreWhere players (looks_on before after c)) where
  is_walked : walked ≡ walked_by steps intents seat s c
  is_walked = walks ∙ ap (exposed_on (way_of steps seat s (Some c))) made

  looks_not : (q : ℕ) → is_among players q ≡ false → looks_on s (scene_by steps intents seat s (Some c)) c q ≡ false
  looks_not q none = by (nat_le q 32) refl none
    where
      within : nat_le q 32 ≡ true → q ≤ 32
      within h = grind (arith, nat_tests, h)

      by : (b : Bool) → nat_le q 32 ≡ b → (not b || has_owner players q) ≡ false → looks_on s (scene_by steps intents seat s (Some c)) c q ≡ false
      by true e h = (λ i. looks_on (sym same i) (sym made i) c q) ∙ sym (are q (within e)) ∙ h
      by false e h = let no : true ≡ false = h in cc

  pub others_stay : OthersAreSettled (Some players) walked
  others_stay place set there apart =
      ap (λ (x : Scene). settled_set x set) is_walked
      ∙ settled_in_law steps intents seat s c settled_before place set (ap (λ (x : Scene). slice_get x.fog.sets place) (sym is_walked) ∙ there) (looks_not set.seat apart)

  pub others_shown : (now : Scene) → now ≡ settled walked → ShowOthersTheSame s now players
  unfolding after_by
  others_shown now stands q player apart =
      ap (λ (x : Scene). view_of x q) (stands ∙ ap settled is_walked) ∙ others_nothing steps intents seat s c q settled_before (looks_not q apart) player
