-- The way of an accepted move, on the scene that the move makes.
use Rattle.std.proofs.Common.{◌≡◌, ◌-◌, ℕ, Bool, true, false, cond, List, map, take, Some, None, refl, sym, ◌∙◌, ap, subst, ℤ}
use Rattle.std.specs.Prelude.{Option, option_map, IfSome}
use Rattle.std.specs.List.{AllByRecursion}
use Rattle.names.specs.declared.token_id.TokenId.{TokenId}
use Rattle.cells.specs.Cells.{Cells}
use Rattle.cells.specs.declared.cell.Cell.{Cell}
use Rattle.maps.specs.Maps.{Grid, map_of}
use Rattle.tokens.specs.declared.token.Token.{Token}
use Rattle.tokens.specs.Tokens.{placed, token_of}
use Rattle.tokens.proofs.LookupLaws.{token_of-changed}
use Rattle.world.specs.Scene.{Scene, with_token}
use Rattle.world.specs.Rules.{fits_on, size_of}
use Rattle.player_view.specs.Tables.{HasTables}
use Rattle.macro_eval.specs.declared.intent.Intent.{Intent}
use Rattle.command_json.specs.declared.command.Command.{Command}
use Rattle.command_json.specs.declared.command.Command.TheVariants.{Move}
use Rattle.command_rules.specs.Places.{cell_at}
use Rattle.command_effects.specs.Allowed.{IsAllowed, MayMove}
use Rattle.command_effects.specs.Effects.{after_steps, cell_after, own_token, scene_by}
use Rattle.command_effects.specs.Way.{Way, IsWay, along, exposed_on, way_by, way_of, way_on}
use Rattle.command_effects.specs.declared.way.Way.{Way as Told}
use Rattle.command_effects.proofs.Moves.{may_move, one_token, fits_after}
use Rattle.command_effects.proofs.Walking.{passed_fit}
use Rattle.command_effects.proofs.Ways.{HasOtherSets, exposed_on_sets}
use Rattle.command_looks.specs.Fields.{AreKept, field_for}
use Rattle.command_looks.specs.Ways.{IsWayOn}
use Rattle.command_looks.proofs.Along.{placed_over}
use Rattle.campaign_core.specs.Walked.{IsWalked}

-- ---- what is exposed on the way

-- the scene that is walked is the one in which the way's cells are exposed
pub walked_is : (s before walked : Scene) (way : Option Way) (told : Option Told) → before.maps ≡ s.maps → IsWay s way told → IsWalked told before walked → walked ≡ exposed_on way before
walked_is s before walked None None maps is made = made
walked_is s before walked None (Some t) maps is made = absurd is
walked_is s before walked (Some w) None maps is made = absurd is
walked_is s before walked (Some w) (Some t) maps is made =
    let there : map_of t.map before.maps ≡ Some w.map = (λ i. map_of (is.1 i) (maps i)) ∙ is.4 in
    subst (λ o. IfSome o (λ (m : Grid). walked ≡ along t.id t.map m t.cells.items before)) there made
    ∙ (λ i. along (is.0 i) (is.1 i) w.map (is.2 i) before)

-- with no way nothing is walked
pub no_way_walked : (s before walked : Scene) (told : Option Told) → IsWay s None told → IsWalked told before walked → walked ≡ before
no_way_walked s before walked None is made = made
no_way_walked s before walked (Some t) is made = absurd is

-- ---- what stays

stepped : (steps : ℕ) (id : TokenId) (path : List (ℤ × ℤ)) (t : Option Token) (s : Scene) → (after_steps steps id path t s).maps ≡ s.maps
stepped steps id path None s = refl
stepped steps id path (Some t) s = refl

-- the kept fields don't depend on what is exposed
sets_kept : (s : Scene) (sets : _) (fields : List (TokenId × Cells)) → AreKept s fields → AreKept (record s { fog = record s.fog { sets = sets } }) fields
unfolding field_for
sets_kept s sets fields h = record { each = h.each }

pub kept_exposed : (way : Option Way) (s : Scene) (fields : List (TokenId × Cells)) → AreKept s fields → AreKept (exposed_on way s) fields
kept_exposed way s fields h =
    let other : HasOtherSets s (exposed_on way s) = exposed_on_sets way s in
    subst (λ (x : Scene). AreKept x fields) (sym other.same) (sets_kept s other.sets fields h)

-- ---- the way stands on the scene that the move makes

module _ (s : Scene) (seat steps : ℕ) (id : TokenId) (path : List (ℤ × ℤ)) (tables : HasTables s) (may : MayMove s seat id path) (told : Told) where
  abbrev arrived : Scene
  arrived = with_token id (placed may.token.map (cell_after steps may.token.cell path)) s

  here : (m : Grid) → map_of may.token.map s.maps ≡ Some m → told.id ≡ id → told.map ≡ may.token.map → told.cells.items ≡ map cell_at (take (steps - 1) path) → told.last ≡ cell_after steps may.token.cell path → IsWayOn arrived told
  here m there is_id is_map is_cells is_last =
      let last : Cell = cell_after steps may.token.cell path in
      let sized : size_of told.map s.maps ≡ Some may.size = ap (λ name. size_of name s.maps) is_map ∙ may.there in
      record {
        grid = m;
        there = ap (λ name. map_of name s.maps) is_map ∙ there;
        token = placed may.token.map last may.token;
        found = ap (λ one. token_of one arrived.tokens) is_id ∙ token_of-changed (placed may.token.map last) (λ t. refl) id s.tokens
            ∙ ap (option_map (placed may.token.map last)) (one_token s seat id may.token tables.tokens may.found);
        fits = subst (λ o. AllByRecursion (λ cell. fits_on o cell may.token.size ≡ true) told.cells.items) (sym sized)
            (subst (λ cells. AllByRecursion (λ cell. fits_on (Some may.size) cell may.token.size ≡ true) cells) (sym is_cells) (passed_fit may.size may.token.size (steps - 1) path may.fits));
        ends = (λ i. fits_on (sized i) (is_last i) may.token.size) ∙ fits_after may.size may.token.size steps may.token.cell path may.stands may.fits;
        stands = (λ i. with_token (is_id i) (placed (is_map i) (is_last i)) arrived) ∙ placed_over id may.token.map last last s;
      }

  on_map : (o : Option Grid) → map_of may.token.map s.maps ≡ o → IsWay s (way_on steps id path may.token o) (Some told) → IsWayOn arrived told
  on_map None at is = absurd is
  on_map (Some m) at is = by m.trail is
    where
      by : (b : Bool) → IsWay s (cond b (Some (record { id = id; name = may.token.map; map = m; cells = map cell_at (take (steps - 1) path); last = cell_after steps may.token.cell path })) None) (Some told) → IsWayOn arrived told
      by true is = here m at is.0 is.1 is.2 is.3
      by false is = absurd is

  found : IsWay s (way_by s steps id path (own_token s seat id)) (Some told) → IsWayOn (after_steps steps id path (own_token s seat id) s) told
  found is =
      subst (λ o. IsWayOn (after_steps steps id path o s) told) (sym may.found)
      (on_map (map_of may.token.map s.maps) refl (subst (λ o. IsWay s (way_by s steps id path o) (Some told)) may.found is))

one_way : (steps : ℕ) (intents : List Intent) (seat : ℕ) (s : Scene) (c : Command) (told : Told) → HasTables s → IsAllowed s seat c → IsWay s (way_of steps seat s (Some c)) (Some told) → IsWayOn (scene_by steps intents seat s (Some c)) told
unfolding scene_by way_of
one_way steps intents seat s (Move token path) told tables allowed is = found s seat steps token path tables (may_move s seat token path tables.fitting tables.maps allowed) told is
one_way steps intents seat s c told tables allowed is = absurd is

pub stands_on : (steps : ℕ) (intents : List Intent) (seat : ℕ) (s after : Scene) (c : Command) (told : Option Told) → HasTables s → IsAllowed s seat c → after ≡ scene_by steps intents seat s (Some c) → IsWay s (way_of steps seat s (Some c)) told → IfSome told (IsWayOn after)
stands_on steps intents seat s after c None tables allowed made is = tt
stands_on steps intents seat s after c (Some told) tables allowed made is = subst (λ (x : Scene). IsWayOn x told) (sym made) (one_way steps intents seat s c told tables allowed is)

-- its map is the same before the move and after it
pub same_maps : (steps : ℕ) (intents : List Intent) (seat : ℕ) (s after : Scene) (c : Command) (way : Way) → after ≡ scene_by steps intents seat s (Some c) → way_of steps seat s (Some c) ≡ Some way → after.maps ≡ s.maps
unfolding scene_by way_of
same_maps steps intents seat s after (Move token path) way made is = ap (λ (x : Scene). x.maps) made ∙ stepped steps token path (own_token s seat token) s
same_maps steps intents seat s after c way made is = cc

-- so the scene that is walked is the one in which is exposed what is seen on the way
pub walked_by : (steps : ℕ) (intents : List Intent) (seat : ℕ) (s after walked : Scene) (c : Command) (told : Option Told) → after ≡ scene_by steps intents seat s (Some c) → IsWay s (way_of steps seat s (Some c)) told → IsWalked told after walked
    → walked ≡ exposed_on (way_of steps seat s (Some c)) after
walked_by steps intents seat s after walked c told made is walks = by (way_of steps seat s (Some c)) refl
  where
    by : (way : Option Way) → way_of steps seat s (Some c) ≡ way → walked ≡ exposed_on (way_of steps seat s (Some c)) after
    by None e = no_way_walked s after walked told (subst (λ w. IsWay s w told) e is) walks ∙ ap (λ w. exposed_on w after) (sym e)
    by (Some way) e = walked_is s after walked (way_of steps seat s (Some c)) told (same_maps steps intents seat s after c way made e) is walks
