-- The laws of what is shown.
use Rattle.std.specs.Prelude.{◌≡◌, ◌≤◌, ◌↔◌, ℕ, false, List, Option, IsTrue}
use Rattle.names.specs.declared.token_id.TokenId.{TokenId}
use Rattle.initiative.specs.declared.entry.Entry.{Entry}
use Rattle.initiative.specs.Fights.{Rounds}
use Rattle.maps.specs.Maps.{Grid}
use Rattle.tokens.specs.declared.token.Token.{Token}
use Rattle.player_view.specs.Sight.{sees, owns, visible_test}
use Rattle.player_view.specs.Shown.{is_shown}
use Rattle.player_view.specs.Relations.{Sees, Owns, IsVisible, IsShown}
use Rattle.views.specs.declared.view.TokenView.{TokenView}
use Rattle.player_view.specs.Fights.{entries_in, fight_in, turn_in}
use Rattle.player_view.specs.View.{is_gm, tokens_of, view_of}
use Rattle.player_view.specs.Asked.{asked_of, asked_of_view}
use Rattle.world.specs.Scene.{Scene}

-- what a player's rules ask of the scene is what they ask of its view
abbrev pub AskedAlike : Type 0
AskedAlike = (seats : ℕ) (s : Scene) (q : ℕ) → 1 ≤ q → asked_of_view seats (view_of s q) ≡ asked_of seats s q

-- the entries of the tokens that stand in the seat's view
abbrev pub shown_entries : Scene → ℕ → List Entry
shown_entries s q = entries_in (is_gm q) (tokens_of s q) s.fight.list

-- whose turn it is, by these entries
abbrev pub shown_turn : Scene → ℕ → Option TokenId
shown_turn s q = turn_in (is_gm q) (tokens_of s q) s.fight.list s.fight.turn

-- what a player sees of a fight is a function of the entries of tokens in its view, the round, and the turn by these entries
pub record ShownFightsAlike : Type 0 where
  pub parts : (tokens others : List TokenView) (r s : Rounds) → entries_in false tokens r.list ≡ entries_in false others s.list → r.round ≡ s.round
      → turn_in false tokens r.list r.turn ≡ turn_in false others s.list s.turn → fight_in false tokens r ≡ fight_in false others s
  -- so it is with the views of two scenes
  pub views : (s t : Scene) (q : ℕ) → shown_entries s q ≡ shown_entries t q → s.fight.round ≡ t.fight.round → shown_turn s q ≡ shown_turn t q
      → (view_of s q).fight ≡ (view_of t q).fight

-- the tests that compute what is seen and shown hold exactly where the relations do
pub record TestsTell : Type 0 where
  pub owns : (s : Scene) (p : ℕ) (t : Token) → IsTrue (owns s p t) ↔ Owns s p t
  pub sees : (s : Scene) (m : Grid) (t : Token) (x y : ℕ) → IsTrue (sees s m t x y) ↔ Sees s m t x y
  pub visible : (s : Scene) (p : ℕ) (m : Grid) (x y : ℕ) → IsTrue (visible_test s p m x y) ↔ IsVisible s p m x y
  pub shown : (s : Scene) (p : ℕ) (t : Token) → IsTrue (is_shown s p t) ↔ IsShown s p t
