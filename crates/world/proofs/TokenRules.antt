-- Tests that each token of a table passes still after a change of the table.
use Rattle.std.proofs.Common.{◌≡◌, ℕ, zero, suc, ◌+◌, ◌<◌, Bool, true, false, cond, not, ◌&&◌, List, [], ◌∷◌, map, Some, refl, sym, ap, subst, inl, inr, ◌∙◌, arith}
use Rattle.std.specs.Prelude.{IfSome}
use Rattle.std.specs.List.{filter, list_all, range_with_len}
use Rattle.std.specs.Ordering.{is_lt}
use Rattle.std.specs.FinMap.Entries.{below_all}
use Rattle.std.proofs.lemmas.Bool.{and_parts, and_from, cases_eq, ne_eqb}
use Rattle.names.specs.declared.token_id.TokenId.{TokenId}
use Rattle.names.specs.TokenId.{id_cmp, id_eq}
use Rattle.tokens.specs.declared.token.Token.{Token}
use Rattle.tokens.specs.Owners.{has_owner, seat_limit, with_owner}
use Rattle.tokens.specs.Tokens.{changed, has_id, in_order, put, token_of, without}
use Rattle.tokens.proofs.OrderLemmas.{apart}
use Rattle.tokens.proofs.OwnerLemmas.{has_with}
use Rattle.world.specs.Rules.{is_player, are_players}

-- ---- another test

pub all_pass : (p q : Token → Bool) → ((t : Token) → p t ≡ true → q t ≡ true) → (ts : List Token) → list_all p ts ≡ true → list_all q ts ≡ true
all_pass p q keeps [] h = refl
all_pass p q keeps (t ∷ ts) h =
    let hs = and_parts (p t) (list_all p ts) h in
    and_from _ _ (keeps t hs.0) (all_pass p q keeps ts hs.1)

-- ---- one token more, and one less

pub list_all-put : (p : Token → Bool) (token : Token) (ts : List Token) → list_all p (put token ts) ≡ (p token && list_all p ts)
list_all-put p token [] = refl
list_all-put p token (t ∷ ts) = by (is_lt (id_cmp t.id token.id)) (list_all-put p token ts)
  where
    swapped : (a b c : Bool) → (a && (b && c)) ≡ (b && (a && c))
    swapped true b c = refl
    swapped false true c = refl
    swapped false false c = refl

    by : (b : Bool) → list_all p (put token ts) ≡ (p token && list_all p ts) → list_all p (cond b (t ∷ put token ts) (token ∷ t ∷ ts)) ≡ (p token && (p t && list_all p ts))
    by true rest = ap (λ c. p t && c) rest ∙ swapped (p t) (p token) (list_all p ts)
    by false rest = refl

pub all_put : (p : Token → Bool) (token : Token) (ts : List Token) → p token ≡ true → list_all p ts ≡ true → list_all p (put token ts) ≡ true
all_put p token ts one h = list_all-put p token ts ∙ and_from _ _ one h

pub all_without : (p : Token → Bool) (id : TokenId) (ts : List Token) → list_all p ts ≡ true → list_all p (without id ts) ≡ true
all_without p id [] h = refl
all_without p id (t ∷ ts) h =
    let hs = and_parts (p t) (list_all p ts) h in
    by (not (has_id id t)) hs.0 (all_without p id ts hs.1)
  where
    by : (b : Bool) → p t ≡ true → list_all p (without id ts) ≡ true → list_all p (cond b (t ∷ without id ts) (without id ts)) ≡ true
    by true first rest = and_from _ _ first rest
    by false first rest = rest

-- ---- one token changed

-- a change that keeps the test
pub all_changed : (p : Token → Bool) (f : Token → Token) → ((t : Token) → p t ≡ true → p (f t) ≡ true) → (id : TokenId) (ts : List Token) → list_all p ts ≡ true → list_all p (changed id f ts) ≡ true
all_changed p f keeps id [] h = refl
all_changed p f keeps id (t ∷ ts) h =
    let hs = and_parts (p t) (list_all p ts) h in
    and_from _ _ (by (has_id id t) hs.0) (all_changed p f keeps id ts hs.1)
  where
    by : (b : Bool) → p t ≡ true → p (cond b (f t) t) ≡ true
    by true ok = keeps t ok
    by false ok = ok

-- behind the token of that id there is no other
stays : (f : Token → Token) (id a : TokenId) (ts : List Token) → below_all id_cmp a (map (λ t. (t.id, t)) ts) ≡ true → id_eq a id ≡ true → changed id f ts ≡ ts
stays f id a [] h e = refl
stays f id a (t ∷ ts) h e =
    let hs = and_parts (is_lt (id_cmp a t.id)) (below_all id_cmp a (map (λ u. (u.id, u)) ts)) h in
    (λ i. cond (apart a t.id id hs.0 e i) (f t) t ∷ changed id f ts) ∙ ap (λ us. t ∷ us) (stays f id a ts hs.1 e)

-- a change of the token of that id that keeps the test
pub all_changed_at : (p : Token → Bool) (f : Token → Token) (id : TokenId) (ts : List Token) → in_order ts ≡ true → IfSome (token_of id ts) (λ t. p t ≡ true → p (f t) ≡ true)
    → list_all p ts ≡ true → list_all p (changed id f ts) ≡ true
all_changed_at p f id [] ordered one h = refl
all_changed_at p f id (t ∷ ts) ordered one h =
    let hs = and_parts (p t) (list_all p ts) h in
    let os = and_parts (below_all id_cmp t.id (map (λ u. (u.id, u)) ts)) (in_order ts) ordered in
    by (has_id id t) refl one os.0 hs.0 hs.1 (λ found. all_changed_at p f id ts os.1 found hs.1)
  where
    by : (b : Bool) → has_id id t ≡ b → IfSome (cond b (Some t) (token_of id ts)) (λ u. p u ≡ true → p (f u) ≡ true) → below_all id_cmp t.id (map (λ u. (u.id, u)) ts) ≡ true → p t ≡ true → list_all p ts ≡ true
        → (IfSome (token_of id ts) (λ u. p u ≡ true → p (f u) ≡ true) → list_all p (changed id f ts) ≡ true)
        → list_all p (cond b (f t) t ∷ changed id f ts) ≡ true
    by true e found behind first rest next = and_from _ _ (found first) (ap (list_all p) (stays f id t.id ts behind e) ∙ rest)
    by false e found behind first rest next = and_from _ _ first (next found)

-- ---- owners

-- where each seat that the one has is a player, or the other has no more than a player beside
kept_in_range : (p had has : ℕ → Bool) (n from : ℕ) → ((k : ℕ) → k < from + n → (had k ≡ true → p k ≡ true) → has k ≡ true → p k ≡ true)
    → list_all p (filter had (range_with_len from n)) ≡ true → list_all p (filter has (range_with_len from n)) ≡ true
kept_in_range p had has zero from keeps h = refl
kept_in_range p had has (suc n) from keeps h =
    by (had from) (has from) refl refl (kept_in_range p had has n (from + 1) (λ k low. keeps k (omega arith))) h
  where
    by : (b c : Bool) → had from ≡ b → has from ≡ c
        → (list_all p (filter had (range_with_len (from + 1) n)) ≡ true → list_all p (filter has (range_with_len (from + 1) n)) ≡ true)
        → list_all p (cond b (from ∷ filter had (range_with_len (from + 1) n)) (filter had (range_with_len (from + 1) n))) ≡ true
        → list_all p (cond c (from ∷ filter has (range_with_len (from + 1) n)) (filter has (range_with_len (from + 1) n))) ≡ true
    by true true b c rest all =
        let parts = and_parts (p from) (list_all p (filter had (range_with_len (from + 1) n))) all in
        and_from _ _ parts.0 (rest parts.1)
    by true false b c rest all =
        let parts = and_parts (p from) (list_all p (filter had (range_with_len (from + 1) n))) all in
        rest parts.1
    by false true b c rest all = and_from _ _ (keeps from (omega arith) (λ is. absurd (let both : true ≡ false = sym is ∙ b in cc)) c) (rest all)
    by false false b c rest all = rest all

-- with a player more or less the owners are players
pub players_with : (players owners seat : ℕ) (on : Bool) → is_player players seat ≡ true → are_players players owners ≡ true → are_players players (with_owner owners seat on) ≡ true
unfolding are_players
players_with players owners seat on player h =
    kept_in_range (is_player players) (has_owner owners) (has_owner (with_owner owners seat on)) seat_limit 0 keeps h
  where
    keeps : (k : ℕ) → k < 0 + seat_limit → (has_owner owners k ≡ true → is_player players k ≡ true) → has_owner (with_owner owners seat on) k ≡ true → is_player players k ≡ true
    keeps k low had has = elim (cases_eq k seat) [
      | inl e ↦ subst (λ j. is_player players j ≡ true) (sym e) player
      | inr ne ↦ had (sym (has_with owners seat k on (omega arith) ∙ ap (λ b. cond b on (has_owner owners k)) (ne_eqb k seat ne)) ∙ has)
    ]

-- ---- owners

-- none are players
pub no_players : (players : ℕ) → are_players players 0 ≡ true
unfolding are_players
no_players players = refl
