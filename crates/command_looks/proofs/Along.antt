-- A token that stands at one cell after another, in one scene.
use Rattle.std.proofs.Common.{◌+◌, ◌<◌, drop, get_or, length, ◌≡◌, ℕ, zero, suc, Bool, true, false, cond, List, [], ◌∷◌, Some, None, refl, sym, ◌∙◌, ap}
use Rattle.std.specs.Prelude.{Option, option_map}
use Rattle.std.proofs.lemmas.List.{drop_more}
use Rattle.names.specs.declared.token_id.TokenId.{TokenId}
use Rattle.names.specs.TokenId.{id_eq}
use Rattle.cells.specs.Cells.{Cells}
use Rattle.cells.specs.declared.cell.Cell.{Cell}
use Rattle.maps.specs.Maps.{Grid}
use Rattle.tokens.specs.declared.token.Token.{Token}
use Rattle.tokens.specs.Tokens.{changed, has_id, placed, token_of}
use Rattle.tokens.proofs.LookupLaws.{token_of-changed}
use Rattle.world.specs.Scene.{Scene, with_token}
use Rattle.command_effects.specs.Way.{exposed_to, exposed_to_first, exposed_from, along}
use Rattle.command_effects.proofs.Ways.{HasOtherSets, to_first}
use Rattle.command_looks.specs.Fields.{IsKeptBut, field_for}
use Rattle.command_looks.proofs.Lookups.{due_other-changed}

-- the later cell counts
tokens_over : (id : TokenId) (name : List ℕ) (c d : Cell) (ts : List Token) → changed id (placed name c) (changed id (placed name d) ts) ≡ changed id (placed name c) ts
tokens_over id name c d [] = refl
tokens_over id name c d (t ∷ ts) = λ i. one (has_id id t) refl i ∷ tokens_over id name c d ts i
  where
    one : (b : Bool) → has_id id t ≡ b → (let u : Token = cond b (placed name d t) t in cond (has_id id u) (placed name c u) u) ≡ cond b (placed name c t) t
    one true is = ap (λ b. cond b (placed name c t) (placed name d t)) is
    one false is = ap (λ b. cond b (placed name c t) t) is

pub placed_over : (id : TokenId) (name : List ℕ) (c d : Cell) (s : Scene) → with_token id (placed name c) (with_token id (placed name d) s) ≡ with_token id (placed name c) s
placed_over id name c d s = ap (λ ts. record s { tokens = ts }) (tokens_over id name c d s.tokens)

-- what is exposed stands apart from where the token is
exposed_apart : (id : TokenId) (f : Token → Token) (seen : Scene) (name : List ℕ) (m : Grid) (n : ℕ) (s : Scene)
    → with_token id f (exposed_to_first seen name m n s) ≡ exposed_to_first seen name m n (with_token id f s)
exposed_apart id f seen name m zero s = refl
exposed_apart id f seen name m (suc n) s = ap (exposed_to seen name m (suc n)) (exposed_apart id f seen name m n s)

-- one cell of the way
pub one_cell : (id : TokenId) (name : List ℕ) (m : Grid) (cell last : Cell) (s new : Scene) → new ≡ exposed_from (with_token id (placed name cell) s) name m (with_token id (placed name cell) s)
    → with_token id (placed name last) new ≡ exposed_from (with_token id (placed name cell) (with_token id (placed name last) s)) name m (with_token id (placed name last) s)
one_cell id name m cell last s new made =
    ap (with_token id (placed name last)) made
    ∙ exposed_apart id (placed name last) (with_token id (placed name cell) s) name m s.fog.players (with_token id (placed name cell) s)
    ∙ ap (exposed_to_first (with_token id (placed name cell) s) name m s.fog.players) (placed_over id name last cell s)
    ∙ ap (λ seen. exposed_to_first seen name m s.fog.players (with_token id (placed name last) s)) (sym (placed_over id name cell last s))

-- so it is from one place of the way to the next
pub next_cell : (id : TokenId) (name : List ℕ) (m : Grid) (last : Cell) (cells : List Cell) (i : ℕ) (d : Cell) (s new all : Scene) → i < length cells
    → new ≡ exposed_from (with_token id (placed name (get_or cells i d)) s) name m (with_token id (placed name (get_or cells i d)) s)
    → along id name m (drop i cells) (with_token id (placed name last) s) ≡ all
    → along id name m (drop (i + 1) cells) (with_token id (placed name last) new) ≡ all
next_cell id name m last cells i d s new all inside made rest =
    ap (along id name m (drop (i + 1) cells)) (one_cell id name m (get_or cells i d) last s new made)
    ∙ sym (ap (λ cs. along id name m cs (with_token id (placed name last) s)) (drop_more cells i d inside))
    ∙ rest

-- ---- what stays at each cell

-- to the other tokens the same fields are due
pub placed_due : (id : TokenId) (name : List ℕ) (cell : Cell) (s : Scene) (other : TokenId) → id_eq id other ≡ false → field_for (with_token id (placed name cell) s) other ≡ field_for s other
unfolding field_for
placed_due id name cell s other apart = due_other-changed s.maps (placed name cell) (λ t. refl) id other apart s.tokens

module _ (id : TokenId) (name : List ℕ) (m : Grid) (cell : Cell) (s new : Scene) (made : new ≡ exposed_from (with_token id (placed name cell) s) name m (with_token id (placed name cell) s)) where
  other_sets : HasOtherSets (with_token id (placed name cell) s) (exposed_from (with_token id (placed name cell) s) name m (with_token id (placed name cell) s))
  other_sets = to_first (with_token id (placed name cell) s) (with_token id (placed name cell) s) name m s.fog.players

  same : new ≡ record (with_token id (placed name cell) s) { fog = record s.fog { sets = other_sets.sets } }
  same = made ∙ other_sets.same

  pub maps_stay : new.maps ≡ s.maps
  maps_stay = ap (λ (x : Scene). x.maps) same

  pub side_stays : option_map (λ (t : Token). t.size) (token_of id new.tokens) ≡ option_map (λ (t : Token). t.size) (token_of id s.tokens)
  side_stays =
      ap (λ (x : Scene). option_map (λ (t : Token). t.size) (token_of id x.tokens)) same
      ∙ ap (option_map (λ (t : Token). t.size)) (token_of-changed (placed name cell) (λ t. refl) id s.tokens) ∙ sides (token_of id s.tokens)
    where
      sides : (o : Option Token) → option_map (λ (t : Token). t.size) (option_map (placed name cell) o) ≡ option_map (λ (t : Token). t.size) o
      sides None = refl
      sides (Some t) = refl

  due_stays : (sets : _) (other : TokenId) → id_eq id other ≡ false → field_for (record (with_token id (placed name cell) s) { fog = record s.fog { sets = sets } }) other ≡ field_for s other
  unfolding field_for
  due_stays sets other apart = due_other-changed s.maps (placed name cell) (λ t. refl) id other apart s.tokens

  pub kept_stay : (fields : List (TokenId × Cells)) → IsKeptBut id s fields → IsKeptBut id new fields
  kept_stay fields kept other apart = kept other apart ∙ sym (ap (λ (x : Scene). field_for x other) same ∙ due_stays other_sets.sets other apart)
