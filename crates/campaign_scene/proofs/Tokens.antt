-- Tokens while they are read: what belongs to a scene.
use Rattle.std.proofs.Common.{◌≡◌, ℕ, ◌≤◌, true, ◌&&◌, List, Option, Some, ap, ◌∙◌, arith}
use Rattle.maps.proofs.NameLemmas.{and_first, both}
use Rattle.cells.specs.Cells.{Extent}
use Rattle.cells.specs.declared.cell.Cell.{Cell}
use Rattle.seats.specs.Book.{Book}
use Rattle.tokens.specs.Owners.{with_owner}
use Rattle.tokens.specs.Tokens.{put}
use Rattle.tokens.specs.declared.token.Token.{Token}
use Rattle.world.specs.Rules.{are_players, belongs, fits, fits_on, is_known, is_player, size_of}
use Rattle.world.specs.Scene.{Scene}
use Rattle.world.specs.World.{are_used, is_used}
use Rattle.world.proofs.TokenRules.{list_all-put, no_players, players_with}
use Rattle.campaign_scene.specs.Kept.{kept_by}

player : (players seat : ℕ) → 1 ≤ seat → seat ≤ players → is_player players seat ≡ true
player players seat low high = grind arith

pub owner_more : (players owners seat : ℕ) → 1 ≤ seat → seat ≤ players → are_players players owners ≡ true → are_players players (with_owner owners seat true) ≡ true
owner_more players owners seat low high are = players_with players owners seat true (player players seat low high) are

-- a token without types and owners belongs where it fits
pub bare_belongs : (s : Scene) (map : List ℕ) (cell : Cell) (side owners : ℕ) (size : Extent) → size_of map s.maps ≡ Some size → fits size cell side ≡ true → owners ≡ 0
    → (fits_on (size_of map s.maps) cell side && are_players s.fog.players owners) ≡ true
bare_belongs s map cell side owners size sized fitting none =
    let on : fits_on (size_of map s.maps) cell side ≡ true = ap (λ (o : Option Extent). fits_on o cell side) sized ∙ fitting in
    both _ _ on (ap (are_players s.fog.players) none ∙ no_players s.fog.players)

-- a token that stands where it stood belongs with types that are there and owners that are players
pub marked_belongs : (s : Scene) (t u : Token) → belongs s t ≡ true → u.map ≡ t.map → u.cell ≡ t.cell → u.size ≡ t.size → is_known s.sights u.sight ≡ true → is_known s.lights u.light ≡ true
    → are_players s.fog.players u.owners ≡ true → belongs s u ≡ true
marked_belongs s t u before map cell size sight light owners =
    let stands : fits_on (size_of u.map s.maps) u.cell u.size ≡ true =
    rw (map, cell, size) (and_first (fits_on (size_of t.map s.maps) t.cell t.size) _ before) in
    both _ _ stands (both _ _ sight (both _ _ light owners))

-- a token more, whose maker used its tag
pub kept_with : (books : List Book) (s : Scene) (t : Token) → is_used books t.id ≡ true → kept_by books (record s { tokens = put t s.tokens }) ≡ kept_by books s
kept_with books s t used = ap (λ b. (s.fog.players, b)) (list_all-put (λ u. is_used books u.id) t s.tokens ∙ ap (λ b. b && are_used books s.tokens) used)
