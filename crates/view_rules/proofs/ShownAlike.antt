-- What a seat is shown answers the rules as the scene does, with the whole scene besides for the game master.
use Rattle.std.proofs.Common.{◌≡◌, ℕ, cond, Some, None}
use Rattle.world.specs.Scene.{Scene}
use Rattle.player_view.specs.View.{is_gm, view_of}
use Rattle.player_view.specs.Asked.{asked_of}
use Rattle.player_view.proofs.Alike.{answers_alike as view_answers}
use Rattle.view_rules.specs.Asking.{asked_by}

pub answers_alike : (seats : ℕ) (s : Scene) (q : ℕ) → asked_by seats (view_of s q) (cond (is_gm q) (Some s) None) ≡ asked_of seats s q
answers_alike seats s q = view_answers seats s q
