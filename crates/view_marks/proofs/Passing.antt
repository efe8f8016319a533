-- A way that a token takes exposes nothing to a player who isn't shown the token, and doesn't see by it.
use Rattle.std.proofs.Common.{◌≡◌, ℕ, zero, suc, Bool, true, false, cond, ◌&&◌, ◌||◌, not, List, [], ◌∷◌, Some, refl, sym, ◌∙◌, ap, subst}
use Rattle.std.specs.Prelude.{All, nat_eq}
use Rattle.std.specs.List.{list_any}
use Rattle.std.specs.Str.{bytes_eq}
use Rattle.std.proofs.lemmas.Bool.{and_parts}
use Rattle.std.proofs.lemmas.List.Elements.{All-cons, All-head, All-nil, All-tail}
use Rattle.std.proofs.lemmas.Slice.Eq.{bytes_eq-Decides}
use Rattle.names.specs.declared.token_id.TokenId.{TokenId}
use Rattle.cells.specs.Cells.{Cells}
use Rattle.cells.specs.declared.cell.Cell.{Cell}
use Rattle.maps.specs.Maps.{Grid, map_of}
use Rattle.fog_book.specs.declared.exposure.Exposure.{Exposure}
use Rattle.fog_book.specs.Exposures.{changed_at, is_of, joined}
use Rattle.tokens.specs.declared.token.Token.{Token}
use Rattle.tokens.specs.Owners.{has_owner}
use Rattle.tokens.specs.Tokens.{changed, has_id, placed}
use Rattle.world.specs.Scene.{Scene, with_token}
use Rattle.player_view.specs.Sight.{is_hidden, visible}
use Rattle.command_effects.specs.Settle.{settled_set, with_sight, IsSettled}
use Rattle.command_effects.specs.Way.{along, exposed_from, exposed_to, exposed_to_first}
use Rattle.command_effects.proofs.Ways.{both_sets, itself, to_first, HasOtherSets}
use Rattle.view_marks.specs.Onlookers.{has_token_on, lies, meets_any, meets_as, plays_on}
use Rattle.view_marks.proofs.Bystanders.{own_sets, own_settled, same_number, still_seen}

-- ---- one set is changed

-- of another player
pub own_other : (p q : ℕ) (name : List ℕ) (change : Cells → Cells) → nat_eq q p ≡ false → (sets : List Exposure) → own_sets p (changed_at (is_of q name) change sets) ≡ own_sets p sets
own_other p q name change other [] = refl
own_other p q name change other (set ∷ sets) = by (is_of q name set) refl (own_other p q name change other sets)
  where
    by : (b : Bool) → is_of q name set ≡ b → own_sets p (changed_at (is_of q name) change sets) ≡ own_sets p sets
        → own_sets p (cond b (record { seat = set.seat; map = set.map; cells = change set.cells } ∷ sets) (set ∷ changed_at (is_of q name) change sets)) ≡ own_sets p (set ∷ sets)
    by true e rest =
        let none : nat_eq set.seat p ≡ false = ap (λ n. nat_eq n p) (same_number set.seat q (and_parts _ _ e).0) ∙ other in
        ap (λ b. cond b (record { seat = set.seat; map = set.map; cells = change set.cells } ∷ own_sets p sets) (own_sets p sets)) none
        ∙ sym (ap (λ b. cond b (set ∷ own_sets p sets) (own_sets p sets)) none)
    by false e rest = λ i. cond (nat_eq set.seat p) (set ∷ rest i) (rest i)

-- of the player, to what it was
Stays : ℕ → List ℕ → (Cells → Cells) → Exposure → Type 0
Stays p name change set = is_of p name set ≡ true → change set.cells ≡ set.cells

own_same : (p : ℕ) (name : List ℕ) (change : Cells → Cells) (sets : List Exposure) → All (Stays p name change) (own_sets p sets) → changed_at (is_of p name) change sets ≡ sets
unfolding Stays
own_same p name change [] all = refl
own_same p name change (set ∷ sets) all = by (is_of p name set) refl (nat_eq set.seat p) refl all (own_same p name change sets)
  where
    tail : (c : Bool) → All (Stays p name change) (cond c (set ∷ own_sets p sets) (own_sets p sets)) → All (Stays p name change) (own_sets p sets)
    tail true rest = All-tail (Stays p name change) set (own_sets p sets) rest
    tail false rest = rest

    by : (b : Bool) → is_of p name set ≡ b → (c : Bool) → nat_eq set.seat p ≡ c → All (Stays p name change) (cond c (set ∷ own_sets p sets) (own_sets p sets))
        → (All (Stays p name change) (own_sets p sets) → changed_at (is_of p name) change sets ≡ sets)
        → cond b (record { seat = set.seat; map = set.map; cells = change set.cells } ∷ sets) (set ∷ changed_at (is_of p name) change sets) ≡ set ∷ sets
    by true e true f held rest =
        ap (λ cells. record { seat = set.seat; map = set.map; cells = cells } ∷ sets) (All-head (Stays p name change) set (own_sets p sets) held e)
    by true e false f held rest = let never : true ≡ false = sym (and_parts _ _ e).0 ∙ f in cc
    by false e c f held rest = ap (λ xs. set ∷ xs) (rest (tail c held))

-- ---- where the token stands on the map doesn't matter

seen_alike : (test : Token → Bool) (id : TokenId) (name : List ℕ) (c d : Cell) → ((t : Token) → test (placed name c t) ≡ test (placed name d t)) → (ts : List Token)
    → list_any test (changed id (placed name c) ts) ≡ list_any test (changed id (placed name d) ts)
seen_alike test id name c d same [] = refl
seen_alike test id name c d same (t ∷ ts) = λ i. by (has_id id t) i || seen_alike test id name c d same ts i
  where
    by : (b : Bool) → test (cond b (placed name c t) t) ≡ test (cond b (placed name d t) t)
    by true = same t
    by false = refl

near_alike : (s : Scene) (p : ℕ) (id : TokenId) (name other : List ℕ) (c d : Cell) → has_token_on (with_token id (placed name c) s) p other ≡ has_token_on (with_token id (placed name d) s) p other
near_alike s p id name other c d = seen_alike (plays_on other p) id name c d (λ t. refl) s.tokens

meets_alike : (s : Scene) (p : ℕ) (id : TokenId) (name : List ℕ) (c d : Cell) → meets_any (with_token id (placed name c) s) id p ≡ meets_any (with_token id (placed name d) s) id p
meets_alike s p id name c d =
    seen_alike (meets_as (with_token id (placed name c) s) id p) id name c d (λ t. refl) s.tokens
    ∙ each (changed id (placed name d) s.tokens)
  where
    each : (ts : List Token) → list_any (meets_as (with_token id (placed name c) s) id p) ts ≡ list_any (meets_as (with_token id (placed name d) s) id p) ts
    each [] = refl
    each (t ∷ ts) = λ i. (has_id id t && (not (is_hidden t.layer) && (lies t.layer || (has_owner t.owners p || near_alike s p id name t.map c d i)))) || each ts i

placed_twice : (id : TokenId) (name : List ℕ) (c d : Cell) (ts : List Token) → changed id (placed name d) (changed id (placed name c) ts) ≡ changed id (placed name d) ts
placed_twice id name c d [] = refl
placed_twice id name c d (t ∷ ts) = λ i. by (has_id id t) refl i ∷ placed_twice id name c d ts i
  where
    by : (b : Bool) → has_id id t ≡ b → cond (has_id id (cond b (placed name c t) t)) (placed name d (cond b (placed name c t) t)) (cond b (placed name c t) t) ≡ cond b (placed name d t) t
    by true e = ap (λ b. cond b (placed name d t) (placed name c t)) e
    by false e = ap (λ b. cond b (placed name d t) t) e

-- ---- the way

module _ (p : ℕ) (s : Scene) (id : TokenId) (name : List ℕ) (m : Grid) (last : Cell) (there : map_of name s.maps ≡ Some m) (settled_before : IsSettled s)
    (none : meets_any s id p ≡ false) (then : meets_any (with_token id (placed name last) s) id p ≡ false) where
  abbrev after : Scene
  after = with_token id (placed name last) s

  -- what the player sees where the token stands at a cell of it
  fog_apart : (x : Scene) (sets : List Exposure) → visible (record x { fog = record x.fog { sets = sets } }) p m ≡ visible x p m
  unfolding visible
  fog_apart x sets = refl

  sees_same : (x : Scene) (cell : Cell) → HasOtherSets after x → visible (with_token id (placed name cell) x) p m ≡ visible s p m
  sees_same x cell other =
      ap (λ (y : Scene). visible (with_token id (placed name cell) y) p m) other.same ∙ fog_apart (with_token id (placed name cell) after) other.sets
      ∙ ap (λ ts. visible (record s { tokens = ts }) p m) (placed_twice id name last cell s.tokens)
      ∙ still_seen p s id (placed name cell) (λ t. refl) none (meets_alike s p id name cell last ∙ then) m

  has_all : (cells : Cells) → cells ≡ visible s p m → All (Stays p name (λ c. joined c cells)) (own_sets p s.fog.sets)
  unfolding Stays
  has_all cells is = from (own_sets p s.fog.sets) (own_settled s p settled_before)
    where
      one : (set : Exposure) → settled_set s set ≡ set → is_of p name set ≡ true → joined set.cells cells ≡ set.cells
      one set held e =
          let seat : set.seat ≡ p = same_number set.seat p (and_parts (nat_eq set.seat p) (bytes_eq set.map name) e).0 in
          let named : set.map ≡ name = (bytes_eq-Decides set.map name).0 (and_parts (nat_eq set.seat p) (bytes_eq set.map name) e).1 in
          ap (joined set.cells) (is ∙ ap (λ q. visible s q m) (sym seat))
          ∙ sym (ap (λ o. (with_sight s set o).cells) (ap (λ n. map_of n s.maps) named ∙ there))
          ∙ ap (λ (k : Exposure). k.cells) held

      from : (sets : List Exposure) → All (λ set. settled_set s set ≡ set) sets → All (λ set. is_of p name set ≡ true → joined set.cells cells ≡ set.cells) sets
      from [] all = All-nil (λ set. is_of p name set ≡ true → joined set.cells cells ≡ set.cells)
      from (set ∷ sets) all =
          All-cons (λ set. is_of p name set ≡ true → joined set.cells cells ≡ set.cells) set sets (one set (All-head (λ set. settled_set s set ≡ set) set sets all))
          (from sets (All-tail (λ set. settled_set s set ≡ set) set sets all))

  -- what a player sees there is exposed to it
  one_kept : (y : Scene) (q : ℕ) (x : Scene) → visible y p m ≡ visible s p m → own_sets p x.fog.sets ≡ own_sets p s.fog.sets → own_sets p (exposed_to y name m q x).fog.sets ≡ own_sets p s.fog.sets
  one_kept y q x sees own = by (nat_eq q p) refl
    where
      same_change : q ≡ p → changed_at (is_of q name) (λ cells. joined cells (visible y q m)) x.fog.sets ≡ x.fog.sets
      same_change e =
          (λ i. changed_at (is_of (e i) name) (λ cells. joined cells (visible y (e i) m)) x.fog.sets)
          ∙ own_same p name (λ cells. joined cells (visible y p m)) x.fog.sets (subst (λ sets. All (Stays p name (λ c. joined c (visible y p m))) sets) (sym own) (has_all (visible y p m) sees))

      by : (b : Bool) → nat_eq q p ≡ b → own_sets p (exposed_to y name m q x).fog.sets ≡ own_sets p s.fog.sets
      by true e = ap (own_sets p) (same_change (same_number q p e)) ∙ own
      by false e = own_other p q name (λ cells. joined cells (visible y q m)) e x.fog.sets ∙ own

  first_kept : (y : Scene) (n : ℕ) (x : Scene) → visible y p m ≡ visible s p m → own_sets p x.fog.sets ≡ own_sets p s.fog.sets → own_sets p (exposed_to_first y name m n x).fog.sets ≡ own_sets p s.fog.sets
  first_kept y zero x sees own = own
  first_kept y (suc n) x sees own = one_kept y (suc n) (exposed_to_first y name m n x) sees (first_kept y n x sees own)

  along_kept : (cells : List Cell) (x : Scene) → HasOtherSets after x → own_sets p x.fog.sets ≡ own_sets p s.fog.sets → own_sets p (along id name m cells x).fog.sets ≡ own_sets p s.fog.sets
  along_kept [] x other own = own
  along_kept (cell ∷ cells) x other own =
      let y : Scene = with_token id (placed name cell) x in
      along_kept cells (exposed_from y name m x) (both_sets after x (exposed_from y name m x) other (to_first y x name m x.fog.players))
      (first_kept y x.fog.players x (sees_same x cell other) own)

  pub way_kept : (cells : List Cell) → own_sets p (along id name m cells after).fog.sets ≡ own_sets p s.fog.sets
  way_kept cells = along_kept cells after (itself after) refl
