use Rattle.std.proofs.Common.{◌≡◌, ℕ, List, map, Some, ap, sym, ◌∙◌, subst, arith, length, true}
use Rattle.std.specs.Prelude.{IsSome, slice_get, vec_len}
use Rattle.fog_book.specs.Exposures.{Fog, exposed_of}
use Rattle.maps.specs.Maps.{Grid, in_order}
use Rattle.serde_json.specs.Data.{array, object}
use Rattle.serde_json.specs.View.{items_of, view, members_view}
use Rattle.serde_json.proofs.Views.{view-Array, view-Object}
use Rattle.campaign_writing.specs.Scenes.{run_tree, runs_at, runs_in, runs_tree}
use Rattle.campaign_writing.specs.Trees.{named, with_member}
use Rattle.campaign_writing.proofs.Exposed.{set_there}
use Rattle.campaign_writing.proofs.Members.{entries_of, is_none, is_some, none_more, some_more}
use Rattle.campaign_writing.proofs.Parts.{length-map, whole_taken}
use Rattle.campaign_writing.proofs.fog_values.fog_of_player.Goals as goal
use Rattle.campaign_writing.proofs.fog_values.fog_of_player.Goals.{then-not-is_empty+in_ok-put_named, else-not-is_empty}

pub exposed-requires : goal.exposed-requires
exposed-requires c =
    let at : slice_get c.args.scene.now.maps c.loop-place.place ≡ Some c.at.result.now = ap (λ (maps : List Grid). slice_get maps c.loop-place.place) (sym c.maps-in-loop-place.ensures.value) ∙ c.at.ensures in
    subst (λ (f : Fog). IsSome (exposed_of f c.args.seat c.name-name.result)) (sym c.fog.ensures.value)
    (subst (λ (n : List ℕ). IsSome (exposed_of c.args.scene.now.fog c.args.seat n)) (sym c.name-name.ensures.value)
    (set_there c.args.scene.now c.args.seat c.loop-place.place c.at.result.now c.fog.ensures.fitting at c.requires))

pub loop-place-preserved : goal.loop-place-preserved
loop-place-preserved c =
    let at : slice_get c.args.scene.now.maps c.loop-place.place ≡ Some c.at.result.now = ap (λ (maps : List Grid). slice_get maps c.loop-place.place) (sym c.maps-in-loop-place.ensures.value) ∙ c.at.ensures in
    let seen : exposed_of c.args.scene.now.fog c.args.seat c.at.result.now.name ≡ Some c.exposed.result.now = (λ i. exposed_of (sym c.fog.ensures.value i) c.args.seat (sym c.name-name.ensures.value i)) ∙ c.exposed.ensures in
    let runs : map view c.in_ok-list.list.items ≡ map run_tree (runs_at c.args.scene.now c.args.seat c.at.result.now.name) = c.in_ok-list.ensures ∙ ap (λ o. map run_tree (runs_in o)) (sym seen) in
    let ordered : in_order c.args.scene.now.maps ≡ true = ap in_order (sym c.maps.ensures.value) ∙ c.len-place-end.ensures.valid.ordered in
    let count = length-map view c.in_ok-list.list.items in
    let len : vec_len c.in_ok-list.list ≡ length (map view c.in_ok-list.list.items) = c.in_ok-list.list.ok.0 ∙ sym count in
    elim c.if-not-is_empty.branch [
      | then-not-is_empty+in_ok-put_named w ↦
          let put : members_view w.put_named.new.members.entries ≡ with_member c.at.result.now.name (array (items_of (map view c.in_ok-list.list.items))) (members_view c.loop-place.members.entries) =
          w.in_ok-put_named.ensures.members ∙ (λ i. with_member (c.name-name.ensures.value i) (view-Array c.in_ok-list.list i) (members_view c.loop-place.members.entries)) in
          ap (λ members. members_view members.entries) w.members-is
          ∙ some_more c.args.scene.now c.args.seat c.loop-place.place c.at.result.now (map view c.in_ok-list.list.items) (members_view c.loop-place.members.entries) ordered at runs c.loop-place.invariant
          (is_some c.is_empty.result (vec_len c.in_ok-list.list) (length (map view c.in_ok-list.list.items)) c.is_empty.ensures w.if-not-is_empty.true len) (members_view w.put_named.new.members.entries) put
      | else-not-is_empty w ↦
          ap (λ members. members_view members.entries) w.members-is
          ∙ none_more c.args.scene.now c.args.seat c.loop-place.place c.at.result.now (map view c.in_ok-list.list.items) (members_view c.loop-place.members.entries) ordered at runs c.loop-place.invariant
          (is_none c.is_empty.result (vec_len c.in_ok-list.list) (length (map view c.in_ok-list.list.items)) c.is_empty.ensures w.if-not-is_empty.false len)
    ]

pub returns : goal.returns
returns c =
    let count : c.loop-place.place ≡ length c.args.scene.now.maps = (let len = ap length c.maps.ensures.value in omega (arith, len)) in
    view-Object c.loop-place.members ∙ ap object (c.loop-place.invariant ∙ ap (λ maps. named runs_tree (entries_of c.args.scene.now c.args.seat maps)) (whole_taken c.loop-place.place c.args.scene.now.maps count))
