use Rattle.std.proofs.Common.{◌≡◌, ◌+◌, ℕ, true, List, ap, sym, ◌∙◌}
use Rattle.seats.specs.Book.{Book}
use Rattle.world.specs.Scene.{bare}
use Rattle.world.specs.World.{are_used}
use Rattle.campaign_scene.specs.Kept.{kept}
use Rattle.campaign_file.proofs.Opening.{is_world}
use Rattle.campaign_file.proofs.root.read_root.Goals as goal

pub from_parts-requires : goal.from_parts-requires
from_parts-requires c =
    let books = c.in_ok-scene-5.books.items in
    let before : kept c.in_ok-scene-5.scene ≡ kept (bare c.players_in.result) =
    c.in_ok-scene-5.ensures.kept ∙ c.in_ok-scene-4.ensures.kept ∙ c.in_ok-scene-3.ensures.kept ∙ c.in_ok-scene-2.ensures.kept ∙ ap kept c.in_ok-scene.ensures in
    let players = ap (λ k. k.0) c.in_ok-scene-6.ensures.kept ∙ ap (λ k. k.0) before ∙ c.players_in.ensures.value in
    let used : are_used books c.in_ok-scene-6.scene.tokens ≡ true =
    sym (ap (λ (bs : List Book). are_used bs c.in_ok-scene-6.scene.tokens) c.deref.ensures.value) ∙ ap (λ k. k.1) c.in_ok-scene-6.ensures.kept ∙ ap (λ k. are_used c.deref.result.now k.1) before in
    is_world c.in_ok-scene-6.scene books c.in_ok-scene-5.ensures.opening (ap (λ (n : ℕ). n + 1) players ∙ c.in_ok-scene-5.ensures.count) used
