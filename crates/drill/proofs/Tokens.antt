-- A drill's tokens fit into its world.
use Rattle.std.proofs.Common.{◌≡◌, ℕ, zero, suc, ◌+◌, ◌*◌, ◌%◌, ◌≤◌, ◌<◌, List, [], ◌∷◌, Some, None, refl, sym, ap, ◌∙◌, arith, true, false, Bool, not, ◌&&◌, cond, nat_lt, nat_le, ◌==◌, subst}
use Rattle.std.specs.Prelude.{codes, is_some}
use Rattle.std.specs.List.{list_all}
use Rattle.std.proofs.lemmas.Bool.Decides.{nat_tests}
use Rattle.names.specs.declared.token_id.TokenId.{TokenId}
use Rattle.topology.specs.declared.wall.Wall.{Wall}
use Rattle.tokens.specs.Owners.{with_owner}
use Rattle.tokens.specs.Tokens.{has_id, has_token, put, token_of}
use Rattle.tokens.specs.declared.token.Token.{Token}
use Rattle.world.specs.Rules.{are_players, belongs, is_known, is_player}
use Rattle.world.specs.World.{World, is_used}
use Rattle.world.proofs.TokenRules.{all_put, no_players, players_with}
use Rattle.maps.proofs.NameLemmas.{both}
use Rattle.cells.specs.declared.cell.Cell.{Cell}
use Rattle.drill.specs.Numbered.{cell_at, tag_at}
use Rattle.drill.specs.Script.{IsOnMap}
use Rattle.drill.specs.Campaign.{book_at, drill_lights, drill_sights, token_at, tokens_up_to, walls_up_to, world_with}
use Rattle.drill.specs.Draws.{draw}
use Rattle.drill.proofs.TagLemmas.{one_used, tags_differ}

-- ---- no token stands there twice

abbrev is_other : TokenId → Token → Bool
is_other id t = not (has_id id t)

all_others : (id : TokenId) (ts : List Token) → list_all (is_other id) ts ≡ true → has_token id ts ≡ false
all_others id [] h = refl
all_others id (t ∷ ts) h = by (has_id id t) h (all_others id ts)
  where
    by : (b : Bool) → (not b && list_all (is_other id) ts) ≡ true → (list_all (is_other id) ts ≡ true → has_token id ts ≡ false) → is_some (cond b (Some t) (token_of id ts)) ≡ false
    by true h rest = absurd cc
    by false h rest = rest h

abbrev id_at : ℕ → TokenId
id_at k = record { maker = 0; tag = tag_at k }

other_at : (n j k : ℕ) → j < k → k < 40 → is_other (id_at k) (token_at n j) ≡ true
unfolding token_at
other_at n j k low high = ap not (tags_differ j k (omega (arith, low, high)) high (λ e. absurd (omega (arith, low, e))))

others_before : (n k j : ℕ) → j ≤ k → k < 40 → list_all (is_other (id_at k)) (tokens_up_to n j) ≡ true
unfolding tokens_up_to
others_before n k zero low high = refl
others_before n k (suc j) low high = all_put (is_other (id_at k)) (token_at n j) (tokens_up_to n j) (other_at n j k (omega (arith, low)) high) (others_before n k j (omega (arith, low)) high)

pub absent : (n k : ℕ) (t : Token) → t ≡ token_at n k → k < 40 → has_token t.id (tokens_up_to n k) ≡ false
unfolding token_at
absent n k t is high = ap (λ (t : Token). has_token t.id (tokens_up_to n k)) is ∙ all_others (id_at k) (tokens_up_to n k) (others_before n k k (omega arith) high)

-- ---- its maker used its tag

pub used : (n k : ℕ) (walls : List Wall) (ts : List Token) (t : Token) → t ≡ token_at n k → k < 40 → (let w : World = world_with walls ts in is_used w.books t.id) ≡ true
unfolding world_with token_at book_at
used n k walls ts t is high = ap (λ (t : Token). (let w : World = world_with walls ts in is_used w.books t.id)) is ∙ one_used k 0 40 (omega arith) (omega (arith, high)) high

-- ---- it belongs to the scene

on_side : (x : ℕ) → x < 96 → nat_le (x + 1) 96 ≡ true
on_side x lt = grind (arith, nat_tests)

known_sight : (owned even : Bool) → is_known drill_sights (cond owned (cond even (Some (codes "human")) (Some (codes "dark"))) None) ≡ true
known_sight true true = refl
known_sight true false = refl
known_sight false even = refl

known_light : (lit : Bool) → is_known drill_lights (cond lit (Some (codes "torch")) None) ≡ true
known_light true = refl
known_light false = refl

own : (k : ℕ) (owned : Bool) → are_players 4 (cond owned (with_owner 0 (1 + k % 4) true) 0) ≡ true
own k true = players_with 4 0 (1 + k % 4) true (one_of k) (no_players 4)
  where
    one_of : (k : ℕ) → is_player 4 (1 + k % 4) ≡ true
    one_of k = grind (arith, nat_tests)
own k false = no_players 4

pub fits : (n k : ℕ) (walls : List Wall) (ts : List Token) (t : Token) → t ≡ token_at n k → t.cell.x < 96 → t.cell.y < 96 → (let w : World = world_with walls ts in belongs w.scene t) ≡ true
unfolding world_with token_at
fits n k walls ts t is left above =
    let x : draw n (2400 + 2 * k) 96 < 96 = subst (λ (t : Token). t.cell.x < 96) is left in
    let y : draw n (2401 + 2 * k) 96 < 96 = subst (λ (t : Token). t.cell.y < 96) is above in
    ap (λ (t : Token). (let w : World = world_with walls ts in belongs w.scene t)) is
    ∙ both _ _ (both _ _ (on_side (draw n (2400 + 2 * k) 96) x) (on_side (draw n (2401 + 2 * k) 96) y))
    (both _ _ (known_sight (nat_lt k 8) (k % 2 == 0)) (both _ _ (known_light (nat_lt k 4)) (own k (nat_lt k 8))))

-- ---- one token more

pub one_token : (n k : ℕ) (w new : World) (t : Token) → w ≡ world_with (walls_up_to n 600) (tokens_up_to n k) → t ≡ token_at n k → new ≡ record w { scene = record w.scene { tokens = put t w.scene.tokens } } → new ≡ world_with (walls_up_to n 600) (tokens_up_to n (k + 1))
unfolding world_with tokens_up_to
one_token n k w new t is token e =
    let more : suc k ≡ k + 1 = omega arith in
    e ∙ (λ i. record (is i) { scene = record (is i).scene { tokens = put (token i) (is i).scene.tokens } }) ∙ ap (λ k. world_with (walls_up_to n 600) (tokens_up_to n k)) more

pub no_token : (n : ℕ) (w : World) → w ≡ world_with (walls_up_to n 600) [] → w ≡ world_with (walls_up_to n 600) (tokens_up_to n 0)
unfolding tokens_up_to
no_token n w is = is

pub absent_from : (n k : ℕ) (walls : List Wall) (w : World) (t : Token) → w ≡ world_with walls (tokens_up_to n k) → t ≡ token_at n k → k < 40 → has_token t.id w.scene.tokens ≡ false
unfolding world_with
absent_from n k walls w t is token few = ap (λ (w : World). has_token t.id w.scene.tokens) is ∙ absent n k t token few

pub used_by_maker : (n k : ℕ) (walls : List Wall) (ts : List Token) (w : World) (t : Token) → w ≡ world_with walls ts → t ≡ token_at n k → k < 40 → is_used w.books t.id ≡ true
used_by_maker n k walls ts w t is token few = ap (λ (w : World). is_used w.books t.id) is ∙ used n k walls ts t token few

pub fits_scene : (n k : ℕ) (walls : List Wall) (ts : List Token) (w : World) (t : Token) → w ≡ world_with walls ts → t ≡ token_at n k → t.cell.x < 96 → t.cell.y < 96 → belongs w.scene t ≡ true
fits_scene n k walls ts w t is token x y = ap (λ (w : World). belongs w.scene t) is ∙ fits n k walls ts t token x y

pub cell_of_token : (n k : ℕ) (cell : Cell) (t : Token) → cell ≡ cell_at n k → t ≡ token_at n k → IsOnMap cell → IsOnMap t.cell
unfolding token_at
cell_of_token n k cell t place is on = subst IsOnMap (place ∙ sym (ap (λ (t : Token). t.cell) is)) on
