use Rattle.std.proofs.Common.{◌≡◌, ◌∙◌, refl, sym, ap, subst, ◌+◌, length, map, arith}
use Rattle.std.proofs.lemmas.List.{length-replicate}
use Rattle.world.specs.Scene.{Scene}
use Rattle.view_keep.specs.Kept.{Kept}
use Rattle.command_effects.specs.Settle.{settled}
use Rattle.command_looks.specs.Fields.{AreKept}
use Rattle.command_looks.specs.Touched.{looks_of_opening}
use Rattle.campaign_law.specs.State.{State, world_in, state_of, opening_post, opening_state}
use Rattle.campaign_law.specs.World.{World}
use Rattle.campaign_law.specs.Worlds.{FitsTogether, opened_of}
use Rattle.campaign_writing.specs.Written.{IsWritten}
use Rattle.player_view.specs.Tables.{HasTables}
use Rattle.command_effects.proofs.KeptScenes.{settled_kept}
use Rattle.campaign_law.proofs.Worlds.{fits_opened}
use Rattle.campaign_law.proofs.WrittenWorlds.{written_opened}
use Rattle.campaign_law.specs.Law.{IsOpening}
use Rattle.campaign_law.proofs.States.{opened}
use Rattle.campaign_core.specs.Places.{law}
use Rattle.campaign_core.specs.Leaving.{cut_due, cut_due_of, due, due_of}
use Rattle.campaign_core.specs.Said.{last_messages}
use Rattle.campaign_core.proofs.CutLists.{none_yet}
use Rattle.campaign_core.proofs.Leaving.{due_fresh}
use Rattle.campaign_core.proofs.Openings.{opening_is, opened_seats}
use Rattle.campaign_law.proofs.Feeding.{settled_keeps}
use Rattle.campaign_core.proofs.Nexts.{kept_settled, settled_looks}
use Rattle.campaign_core.proofs.Running.{opening_shown}
use Rattle.campaign_core.proofs.campaign.Campaign.of_world.Goals as goal

pub opening-requires-clause-players : goal.opening-requires-clause-players
opening-requires-clause-players g c =
    ap length c.into_parts-scene.ensures.books
    ∙ sym c.into_parts-scene.ensures.fitting.players
    ∙ ap (λ (s : Scene). s.fog.players + 1) (sym c.into_parts-scene.ensures.scene)
    ∙ ap (λ n. n + 1) (sym (settled_keeps c.into_parts-scene.result.0))
    ∙ ap (λ (s : Scene). s.fog.players + 1) (sym c.in_ok-settle.ensures.settled)

pub returns-clause-world : goal.returns-clause-world
returns-clause-world g c =
    let is_opened : law c.in_ok-origin.origin ≡ opening_state c.args.world.books c.args.world.scene =
    c.in_ok-origin.ensures ∙ (λ i. record { posts = map opening_post (c.into_parts-scene.ensures.books i); scene = (c.in_ok-settle.ensures.settled ∙ ap settled c.into_parts-scene.ensures.scene) i }) in
    ap world_in is_opened ∙ (λ i. record { seats = opened_seats c.args.world.books i; scene = settled c.args.world.scene })

pub returns-clause-opening : goal.returns-clause-opening
returns-clause-opening g c =
    let is_opened : law c.in_ok-origin.origin ≡ opening_state c.args.world.books c.args.world.scene =
    c.in_ok-origin.ensures ∙ (λ i. record { posts = map opening_post (c.into_parts-scene.ensures.books i); scene = (c.in_ok-settle.ensures.settled ∙ ap settled c.into_parts-scene.ensures.scene) i }) in
    subst (λ (s : State). IsOpening (world_in s)) (sym is_opened) (opening_is c.args.world.books c.args.world.scene c.requires.opening)

pub returns-clause-fits : goal.returns-clause-fits
returns-clause-fits g c =
    let is_opened : law c.in_ok-origin.origin ≡ opening_state c.args.world.books c.args.world.scene =
    c.in_ok-origin.ensures ∙ (λ i. record { posts = map opening_post (c.into_parts-scene.ensures.books i); scene = (c.in_ok-settle.ensures.settled ∙ ap settled c.into_parts-scene.ensures.scene) i }) in
    subst FitsTogether (sym (ap world_in is_opened ∙ (λ i. record { seats = opened_seats c.args.world.books i; scene = settled c.args.world.scene }))) (fits_opened c.args.world c.into_parts-scene.ensures.fitting)

pub returns-clause-tables : goal.returns-clause-tables
returns-clause-tables g c = subst (λ (s : State). HasTables s.scene) (sym c.in_ok-origin.ensures) (subst HasTables (sym c.in_ok-settle.ensures.settled) (settled_kept c.into_parts-scene.result.0 c.open_tables.ensures))

pub invariant_of-result : goal.invariant_of-result
invariant_of-result g c =
    let is_opened : law c.in_ok-origin.origin ≡ opening_state c.args.world.books c.args.world.scene =
    c.in_ok-origin.ensures ∙ (λ i. record { posts = map opening_post (c.into_parts-scene.ensures.books i); scene = (c.in_ok-settle.ensures.settled ∙ ap settled c.into_parts-scene.ensures.scene) i }) in
    let opening : IsOpening (world_in (law c.in_ok-origin.origin)) = subst (λ (s : State). IsOpening (world_in s)) (sym is_opened) (opening_is c.args.world.books c.args.world.scene c.requires.opening) in
    let count : length c.put_fields.new.self.views ≡ length c.in_ok-state.state.posts =
    ap (λ (k : Kept). length k.views) c.put_fields.ensures ∙ ap (λ (k : Kept). length k.views) c.in_ok-keep.ensures ∙ length-replicate _ _ ∙ c.seats.ensures.value in
    let none : due (law c.in_ok-state.state).posts ≡ 0 = ap (λ (s : State). due s.posts) c.in_ok-state.ensures ∙ due_fresh due_of (law c.in_ok-origin.origin).posts refl opening.seats in
    let none_cut : cut_due (law c.in_ok-state.state).posts ≡ 0 = ap (λ (s : State). cut_due s.posts) c.in_ok-state.ensures ∙ due_fresh cut_due_of (law c.in_ok-origin.origin).posts refl opening.seats in
    record {
      now = c.in_ok-state.ensures ∙ is_opened ∙ opened c.args.world.books c.args.world.scene ∙ (λ i. state_of (world_in (sym is_opened i)) (sym c.new-3.ensures.items i));
      opening = opening;
      tables = subst (λ (s : State). HasTables s.scene) (sym c.in_ok-origin.ensures) (subst HasTables (sym c.in_ok-settle.ensures.settled) (settled_kept c.into_parts-scene.result.0 c.open_tables.ensures));
      fits = subst FitsTogether (sym (ap world_in is_opened ∙ (λ i. record { seats = opened_seats c.args.world.books i; scene = settled c.args.world.scene }))) (fits_opened c.args.world c.into_parts-scene.ensures.fitting);
      written = subst (λ (w : World). IsWritten (opened_of w)) (sym (ap world_in is_opened ∙ (λ i. record { seats = opened_seats c.args.world.books i; scene = settled c.args.world.scene }))) (written_opened c.args.world c.requires.written);
      fields = subst (λ (s : State). AreKept s.scene c.put_fields.new.self.fields) (sym (c.in_ok-state.ensures ∙ c.in_ok-origin.ensures))
          (subst (λ (s : Scene). AreKept s c.put_fields.new.self.fields) (sym c.in_ok-settle.ensures.settled)
          (subst (λ (k : Kept). AreKept (settled c.into_parts-scene.result.0) k.fields) (sym c.put_fields.ensures) (kept_settled c.into_parts-scene.result.0 c.in_ok-fields.fields c.in_ok-fields.ensures.kept)));
      views = opening_shown (world_in (law c.in_ok-state.state)) c.put_fields.new.self.views (subst (λ (s : State). IsOpening (world_in s)) (sym c.in_ok-state.ensures) opening);
      count = count;
      most = omega (arith, count, c.seats.ensures.value, c.seats.ensures.bound);
      cuts = none_yet (world_in (law c.in_ok-origin.origin)) _ _ c.new-3.ensures.items c.new-4.ensures.items;
      said = c.new-5.ensures.items ∙ ap (last_messages (world_in (law c.in_ok-origin.origin))) (sym c.new-3.ensures.items);
      owed = omega (arith, none);
      owed_cuts = omega (arith, none_cut);
      staged = tt;
    }

pub returns-clause-looks : goal.returns-clause-looks
returns-clause-looks g c =
    let same = ap (λ (s : State). looks_of_opening s.scene) c.in_ok-origin.ensures ∙ ap looks_of_opening c.in_ok-settle.ensures.settled ∙ settled_looks c.into_parts-scene.result.0 in
    omega (arith, c.fields_after-2.ensures.looks, same)
