-- What is looked up in tables of tokens, after one token is changed, put or taken out.
use Rattle.std.proofs.Common.{◌≡◌, ◌≢◌, Bool, true, false, cond, not, List, [], ◌∷◌, Some, None, refl, sym, ◌∙◌, ap}
use Rattle.std.specs.Prelude.{option_map}
use Rattle.std.specs.Ordering.{is_lt}
use Rattle.names.specs.declared.token_id.TokenId.{TokenId}
use Rattle.names.specs.TokenId.{id_cmp, id_eq}
use Rattle.names.proofs.SameIds.{id_eq-Decides}
use Rattle.tokens.specs.declared.token.Token.{Token}
use Rattle.tokens.specs.Tokens.{changed, has_id, has_token, put, token_of, without}
use Rattle.tokens.proofs.TokenLemmas.{absent_first, absent_rest}

abbrev pub KeepsId : (Token → Token) → Type 0
KeepsId f = (t : Token) → let after : Token = f t in after.id ≡ t.id

same_id : (id : TokenId) → id_eq id id ≡ true
same_id id = (id_eq-Decides id id).1 refl

other_id : (id other : TokenId) → id ≢ other → id_eq id other ≡ false
other_id id other ne = by (id_eq id other) refl
  where
    by : (t : Bool) → id_eq id other ≡ t → t ≡ false
    by true e = absurd (ne ((id_eq-Decides id other).0 e))
    by false e = refl

-- a token of one id has no other id
not_other : (t : Token) (id other : TokenId) → other ≢ id → has_id id t ≡ true → has_id other t ≡ false
not_other t id other ne e = ap (λ (i : TokenId). id_eq i other) ((id_eq-Decides t.id id).0 e) ∙ other_id id other (λ s. ne (sym s))

pub token_of-changed : (f : Token → Token) → KeepsId f → (id : TokenId) (ts : List Token) → token_of id (changed id f ts) ≡ option_map f (token_of id ts)
token_of-changed f keeps id [] = refl
token_of-changed f keeps id (t ∷ ts) = by (has_id id t) refl (token_of-changed f keeps id ts)
  where
    by : (b : Bool) → has_id id t ≡ b → token_of id (changed id f ts) ≡ option_map f (token_of id ts)
        → token_of id (cond b (f t) t ∷ changed id f ts) ≡ option_map f (cond b (Some t) (token_of id ts))
    by true e rest = ap (λ b. cond b (Some (f t)) (token_of id (changed id f ts))) (ap (λ (i : TokenId). id_eq i id) (keeps t) ∙ e)
    by false e rest = ap (λ b. cond b (Some t) (token_of id (changed id f ts))) e ∙ rest

pub token_of_other-changed : (f : Token → Token) → KeepsId f → (id other : TokenId) → other ≢ id → (ts : List Token)
    → token_of other (changed id f ts) ≡ token_of other ts
token_of_other-changed f keeps id other ne [] = refl
token_of_other-changed f keeps id other ne (t ∷ ts) = by (has_id id t) refl (token_of_other-changed f keeps id other ne ts)
  where
    by : (b : Bool) → has_id id t ≡ b → token_of other (changed id f ts) ≡ token_of other ts
        → token_of other (cond b (f t) t ∷ changed id f ts) ≡ token_of other (t ∷ ts)
    by true e rest =
        ap (λ b. cond b (Some (f t)) (token_of other (changed id f ts))) (ap (λ (i : TokenId). id_eq i other) (keeps t) ∙ not_other t id other ne e)
        ∙ rest ∙ sym (ap (λ b. cond b (Some t) (token_of other ts)) (not_other t id other ne e))
    by false e rest = ap (λ o. cond (has_id other t) (Some t) o) rest

pub token_of-put : (token : Token) (ts : List Token) → has_token token.id ts ≡ false → token_of token.id (put token ts) ≡ Some token
token_of-put token [] absent = ap (λ b. cond b (Some token) None) (same_id token.id)
token_of-put token (t ∷ ts) absent =
    by (is_lt (id_cmp t.id token.id)) (token_of-put token ts (absent_rest (has_id token.id t) t (token_of token.id ts) absent))
  where
    by : (b : Bool) → token_of token.id (put token ts) ≡ Some token → token_of token.id (cond b (t ∷ put token ts) (token ∷ t ∷ ts)) ≡ Some token
    by true rest = ap (λ b. cond b (Some t) (token_of token.id (put token ts))) (absent_first (has_id token.id t) t (token_of token.id ts) absent) ∙ rest
    by false rest = ap (λ b. cond b (Some token) (token_of token.id (t ∷ ts))) (same_id token.id)

pub token_of_other-put : (token : Token) (other : TokenId) → other ≢ token.id → (ts : List Token) → token_of other (put token ts) ≡ token_of other ts
token_of_other-put token other ne [] = ap (λ b. cond b (Some token) None) (other_id token.id other (λ s. ne (sym s)))
token_of_other-put token other ne (t ∷ ts) = by (is_lt (id_cmp t.id token.id)) (token_of_other-put token other ne ts)
  where
    by : (b : Bool) → token_of other (put token ts) ≡ token_of other ts → token_of other (cond b (t ∷ put token ts) (token ∷ t ∷ ts)) ≡ token_of other (t ∷ ts)
    by true rest = ap (λ o. cond (has_id other t) (Some t) o) rest
    by false rest = ap (λ b. cond b (Some token) (token_of other (t ∷ ts))) (other_id token.id other (λ s. ne (sym s)))

pub token_of-without : (id : TokenId) (ts : List Token) → token_of id (without id ts) ≡ None
token_of-without id [] = refl
token_of-without id (t ∷ ts) = by (has_id id t) refl (token_of-without id ts)
  where
    by : (b : Bool) → has_id id t ≡ b → token_of id (without id ts) ≡ None → token_of id (cond (not b) (t ∷ without id ts) (without id ts)) ≡ None
    by true e rest = rest
    by false e rest = ap (λ b. cond b (Some t) (token_of id (without id ts))) e ∙ rest

pub token_of_other-without : (id other : TokenId) → other ≢ id → (ts : List Token) → token_of other (without id ts) ≡ token_of other ts
token_of_other-without id other ne [] = refl
token_of_other-without id other ne (t ∷ ts) = by (has_id id t) refl (token_of_other-without id other ne ts)
  where
    by : (b : Bool) → has_id id t ≡ b → token_of other (without id ts) ≡ token_of other ts
        → token_of other (cond (not b) (t ∷ without id ts) (without id ts)) ≡ token_of other (t ∷ ts)
    by true e rest = rest ∙ sym (ap (λ b. cond b (Some t) (token_of other ts)) (not_other t id other ne e))
    by false e rest = ap (λ o. cond (has_id other t) (Some t) o) rest
