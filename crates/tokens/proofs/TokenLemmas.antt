-- Tables of tokens after one token is put, changed or taken out.
use Rattle.std.proofs.Common.{◌≡◌, ℕ, suc, ◌+◌, ◌<◌, ◌≤◌, Bool, true, false, cond, not, ◌&&◌, nat_lt, List, [], ◌∷◌, length, map, get_or, set, Option, Some, None, is_some, Result, Ok, Err, is_ok, Bor, refl, sym, ◌∙◌, ap, arith}
use Rattle.std.specs.Prelude.{unwrap_or, OnOk, OnErr}
use Rattle.std.specs.Option.{option_copied}
use Rattle.std.specs.List.{find, insert, remove, position, position_or_len}
use Rattle.std.specs.Ordering.{is_lt}
use Rattle.std.specs.FinMap.Entries.{below_all}
use Rattle.std.proofs.lemmas.Bool.Decides.{nat_tests}
use Rattle.std.proofs.lemmas.List.Sums.{prefix_len-le-length}
use Rattle.names.specs.declared.token_id.TokenId.{TokenId}
use Rattle.names.specs.TokenId.{id_cmp, id_eq}
use Rattle.names.specs.declared.kinds.PropClass.{PropClass}
use Rattle.names.specs.declared.kinds.PropClass.TheVariants.{Public, Own, Secret}
use Rattle.tokens.specs.declared.token.Token.{Token}
use Rattle.tokens.specs.Tokens.{changed, has_id, has_token, in_order, is_behind, put, token_of, with_prop, without}
use Rattle.tokens.proofs.OrderLemmas.{and_first, and_second, both, apart, id_trans, behind}

-- ---- places

some_place : (a n i : ℕ) → Some i ≡ cond (nat_lt a n) (Some a) None → (i ≡ a) × (a < n)
some_place a n i e = by (nat_lt a n) refl e
  where
    by : (t : Bool) → nat_lt a n ≡ t → Some i ≡ cond t (Some a) None → (i ≡ a) × (a < n)
    by true h e = (ap (λ o. unwrap_or o i) e, low a n h)
      where
        low : (a n : ℕ) → nat_lt a n ≡ true → a < n
        low a n h = grind (arith, nat_tests)
    by false h e = cc

none_place : (a n : ℕ) → None ≡ cond (nat_lt a n) (Some a) None → n ≤ a
none_place a n e = by (nat_lt a n) refl e
  where
    by : (t : Bool) → nat_lt a n ≡ t → None ≡ cond t (Some a) None → n ≤ a
    by true h e = cc
    by false h e = high a n h
      where
        high : (a n : ℕ) → nat_lt a n ≡ false → n ≤ a
        high a n h = grind (arith, nat_tests)

-- the first that passes, where one does
pub first_place : (p : Token → Bool) (ts : List Token) (i : ℕ) → Some i ≡ position p ts → (i ≡ position_or_len p ts) × (position_or_len p ts < length ts)
first_place p ts i e = some_place (position_or_len p ts) (length ts) i e

pub no_place : (p : Token → Bool) (ts : List Token) → None ≡ position p ts → length ts ≤ position_or_len p ts
no_place p ts e = none_place (position_or_len p ts) (length ts) e

-- the token at the first place that passes is the one that is found
pub found_at : (p : Token → Bool) (ts : List Token) (d : Token) → position_or_len p ts < length ts → find p ts ≡ Some (get_or ts (position_or_len p ts) d)
found_at p [] d h = absurd (omega arith)
found_at p (t ∷ ts) d h = by (p t) (found_at p ts d) h
  where
    by : (b : Bool) → (position_or_len p ts < length ts → find p ts ≡ Some (get_or ts (position_or_len p ts) d))
        → cond (not b) (1 + position_or_len p ts) 0 < suc (length ts)
        → cond b (Some t) (find p ts) ≡ Some (get_or (t ∷ ts) (cond (not b) (1 + position_or_len p ts) 0) d)
    by true rest h = refl
    by false rest h =
        let e : suc (position_or_len p ts) ≡ 1 + position_or_len p ts = omega arith in
        rest (omega arith) ∙ ap (λ m. Some (get_or (t ∷ ts) m d)) e

pub none_found : (p : Token → Bool) (ts : List Token) → length ts ≤ position_or_len p ts → find p ts ≡ None
none_found p [] h = refl
none_found p (t ∷ ts) h = by (p t) (none_found p ts) h
  where
    by : (b : Bool) → (length ts ≤ position_or_len p ts → find p ts ≡ None) → suc (length ts) ≤ cond (not b) (1 + position_or_len p ts) 0
        → cond b (Some t) (find p ts) ≡ None
    by true rest h = absurd (omega arith)
    by false rest h = rest (omega arith)

-- a token that is there has a place
pub not_missing : (id : TokenId) (ts : List Token) → has_token id ts ≡ true → None ≡ position (has_id id) ts → ⊥
not_missing id ts there e =
    let none : has_token id ts ≡ false = ap is_some (none_found (has_id id) ts (no_place (has_id id) ts e)) in
    cc

pub end_place : (p : Token → Bool) (ts : List Token) → None ≡ position p ts → length ts ≡ position_or_len p ts
end_place p ts e = omega (arith, no_place p ts e, prefix_len-le-length (λ t. not (p t)) ts)

pub copied_too : (r : Option (Bor Token)) → is_some r ≡ is_some (option_copied r)
copied_too None = refl
copied_too (Some t) = refl

-- ---- order

abbrev below : TokenId → List Token → Bool
below id ts = below_all id_cmp id (map (λ t. (t.id, t)) ts)

below_behind : (a b : TokenId) (ts : List Token) → is_lt (id_cmp a b) ≡ true → below b ts ≡ true → below a ts ≡ true
below_behind a b [] less h = refl
below_behind a b (t ∷ ts) less h =
    both _ _ (id_trans a b t.id less (and_first _ _ h)) (below_behind a b ts less (and_second _ _ h))

-- ---- one token more

pub put_at : (token : Token) (ts : List Token) → insert ts (position_or_len (is_behind token.id) ts) token ≡ put token ts
put_at token [] = refl
put_at token (t ∷ ts) = by (is_lt (id_cmp t.id token.id)) (put_at token ts)
  where
    by : (b : Bool) → insert ts (position_or_len (is_behind token.id) ts) token ≡ put token ts
        → insert (t ∷ ts) (cond (not (not b)) (1 + position_or_len (is_behind token.id) ts) 0) token ≡ cond b (t ∷ put token ts) (token ∷ t ∷ ts)
    by true rest =
        let e : 1 + position_or_len (is_behind token.id) ts ≡ suc (position_or_len (is_behind token.id) ts) = omega arith in
        ap (λ m. insert (t ∷ ts) m token) e ∙ ap (λ us. t ∷ us) rest
    by false rest = refl

below_put : (id : TokenId) (token : Token) (ts : List Token) → is_lt (id_cmp id token.id) ≡ true → below id ts ≡ true → below id (put token ts) ≡ true
below_put id token [] less h = both _ _ less refl
below_put id token (t ∷ ts) less h = by (is_lt (id_cmp t.id token.id)) (below_put id token ts less (and_second _ _ h))
  where
    by : (b : Bool) → below id (put token ts) ≡ true → below id (cond b (t ∷ put token ts) (token ∷ t ∷ ts)) ≡ true
    by true rest = both _ _ (and_first _ _ h) rest
    by false rest = both _ _ less h

pub absent_first : (b : Bool) (t : Token) (o : Option Token) → is_some (cond b (Some t) o) ≡ false → b ≡ false
absent_first true t o h = cc
absent_first false t o h = refl

pub absent_rest : (b : Bool) (t : Token) (o : Option Token) → is_some (cond b (Some t) o) ≡ false → is_some o ≡ false
absent_rest true t o h = cc
absent_rest false t o h = h

pub in_order-put : (token : Token) (ts : List Token) → has_token token.id ts ≡ false → in_order ts ≡ true → in_order (put token ts) ≡ true
in_order-put token [] absent h = refl
in_order-put token (t ∷ ts) absent h =
    by (is_lt (id_cmp t.id token.id)) refl (in_order-put token ts (absent_rest (has_id token.id t) t (find (has_id token.id) ts) absent) (and_second _ _ h))
  where
    by : (b : Bool) → is_lt (id_cmp t.id token.id) ≡ b → in_order (put token ts) ≡ true → in_order (cond b (t ∷ put token ts) (token ∷ t ∷ ts)) ≡ true
    by true less rest = both _ _ (below_put t.id token ts less (and_first _ _ h)) rest
    by false more rest =
        let less : is_lt (id_cmp token.id t.id) ≡ true = behind t.id token.id more (absent_first (has_id token.id t) t (find (has_id token.id) ts) absent) in
        both _ _ (both _ _ less (below_behind token.id t.id ts less (and_first _ _ h))) h

-- ---- one token changed

unmatched : (f : Token → Token) (id a : TokenId) (ts : List Token) → below a ts ≡ true → id_eq a id ≡ true → changed id f ts ≡ ts
unmatched f id a [] h e = refl
unmatched f id a (t ∷ ts) h e = λ i. cond (apart a t.id id (and_first _ _ h) e i) (f t) t ∷ unmatched f id a ts (and_second _ _ h) e i

pub changed_at : (f : Token → Token) (id : TokenId) (ts : List Token) (d : Token) → in_order ts ≡ true → position_or_len (has_id id) ts < length ts
    → set ts (position_or_len (has_id id) ts) (f (get_or ts (position_or_len (has_id id) ts) d)) ≡ changed id f ts
changed_at f id [] d ordered h = absurd (omega arith)
changed_at f id (t ∷ ts) d ordered h = by (has_id id t) refl (changed_at f id ts d (and_second _ _ ordered)) h
  where
    by : (b : Bool) → has_id id t ≡ b
        → (position_or_len (has_id id) ts < length ts → set ts (position_or_len (has_id id) ts) (f (get_or ts (position_or_len (has_id id) ts) d)) ≡ changed id f ts)
        → cond (not b) (1 + position_or_len (has_id id) ts) 0 < suc (length ts)
        → set (t ∷ ts) (cond (not b) (1 + position_or_len (has_id id) ts) 0) (f (get_or (t ∷ ts) (cond (not b) (1 + position_or_len (has_id id) ts) 0) d))
        ≡ cond b (f t) t ∷ changed id f ts
    by true e rest h = ap (λ us. f t ∷ us) (sym (unmatched f id t.id ts (and_first _ _ ordered) e))
    by false e rest h =
        let s : 1 + position_or_len (has_id id) ts ≡ suc (position_or_len (has_id id) ts) = omega arith in
        ap (λ m. set (t ∷ ts) m (f (get_or (t ∷ ts) m d))) s ∙ ap (λ us. t ∷ us) (rest (omega arith))

kept_id : (f : Token → Token) → ((t : Token) → (f t).id ≡ t.id) → (b : Bool) (t : Token) → (let u : Token = cond b (f t) t in u.id) ≡ t.id
kept_id f keeps true t = keeps t
kept_id f keeps false t = refl

below_changed : (f : Token → Token) → ((t : Token) → (f t).id ≡ t.id) → (id a : TokenId) (ts : List Token) → below a (changed id f ts) ≡ below a ts
below_changed f keeps id a [] = refl
below_changed f keeps id a (t ∷ ts) = λ i. is_lt (id_cmp a (kept_id f keeps (has_id id t) t i)) && below_changed f keeps id a ts i

pub in_order-changed : (f : Token → Token) → ((t : Token) → (f t).id ≡ t.id) → (id : TokenId) (ts : List Token) → in_order (changed id f ts) ≡ in_order ts
in_order-changed f keeps id [] = refl
in_order-changed f keeps id (t ∷ ts) =
    (λ i. below (kept_id f keeps (has_id id t) t i) (changed id f ts) && in_order-changed f keeps id ts i)
    ∙ (λ i. below_changed f keeps id t.id ts i && in_order ts)

-- ---- one token out

unmatched_kept : (id a : TokenId) (ts : List Token) → below a ts ≡ true → id_eq a id ≡ true → without id ts ≡ ts
unmatched_kept id a [] h e = refl
unmatched_kept id a (t ∷ ts) h e =
    (λ i. cond (not (apart a t.id id (and_first _ _ h) e i)) (t ∷ without id ts) (without id ts)) ∙ ap (λ us. t ∷ us) (unmatched_kept id a ts (and_second _ _ h) e)

pub removed_at : (id : TokenId) (ts : List Token) → in_order ts ≡ true → position_or_len (has_id id) ts < length ts
    → remove ts (position_or_len (has_id id) ts) ≡ without id ts
removed_at id [] ordered h = absurd (omega arith)
removed_at id (t ∷ ts) ordered h = by (has_id id t) refl (removed_at id ts (and_second _ _ ordered)) h
  where
    by : (b : Bool) → has_id id t ≡ b → (position_or_len (has_id id) ts < length ts → remove ts (position_or_len (has_id id) ts) ≡ without id ts)
        → cond (not b) (1 + position_or_len (has_id id) ts) 0 < suc (length ts)
        → remove (t ∷ ts) (cond (not b) (1 + position_or_len (has_id id) ts) 0) ≡ cond (not b) (t ∷ without id ts) (without id ts)
    by true e rest h = sym (unmatched_kept id t.id ts (and_first _ _ ordered) e)
    by false e rest h =
        let s : 1 + position_or_len (has_id id) ts ≡ suc (position_or_len (has_id id) ts) = omega arith in
        ap (λ m. remove (t ∷ ts) m) s ∙ ap (λ us. t ∷ us) (rest (omega arith))

pub none_removed : (id : TokenId) (ts : List Token) → length ts ≤ position_or_len (has_id id) ts → without id ts ≡ ts
none_removed id [] h = refl
none_removed id (t ∷ ts) h = by (has_id id t) (none_removed id ts) h
  where
    by : (b : Bool) → (length ts ≤ position_or_len (has_id id) ts → without id ts ≡ ts) → suc (length ts) ≤ cond (not b) (1 + position_or_len (has_id id) ts) 0
        → cond (not b) (t ∷ without id ts) (without id ts) ≡ t ∷ ts
    by true rest h = absurd (omega arith)
    by false rest h = ap (λ us. t ∷ us) (rest (omega arith))

below_without : (id a : TokenId) (ts : List Token) → below a ts ≡ true → below a (without id ts) ≡ true
below_without id a [] h = refl
below_without id a (t ∷ ts) h = by (not (has_id id t)) (below_without id a ts (and_second _ _ h))
  where
    by : (b : Bool) → below a (without id ts) ≡ true → below a (cond b (t ∷ without id ts) (without id ts)) ≡ true
    by true rest = both _ _ (and_first _ _ h) rest
    by false rest = rest

pub in_order-without : (id : TokenId) (ts : List Token) → in_order ts ≡ true → in_order (without id ts) ≡ true
in_order-without id [] h = refl
in_order-without id (t ∷ ts) h = by (not (has_id id t)) (in_order-without id ts (and_second _ _ h))
  where
    by : (b : Bool) → in_order (without id ts) ≡ true → in_order (cond b (t ∷ without id ts) (without id ts)) ≡ true
    by true rest = both _ _ (below_without id t.id ts (and_first _ _ h)) rest
    by false rest = rest

-- ---- what the code writes: the token at the place that was looked up in the same tokens

-- the token at the place is the one of that id
pub is_found : (id : TokenId) (ts now seen : List Token) (place : ℕ) (t : Token) → ts ≡ now → seen ≡ ts
    → place ≡ position_or_len (has_id id) seen → place < length seen → t ≡ get_or ts place t → token_of id now ≡ Some t
is_found id ts now seen place t view same at within is =
    let e : position_or_len (has_id id) ts ≡ place = sym (at ∙ ap (position_or_len (has_id id)) same) in
    let h : position_or_len (has_id id) ts < length ts = omega (arith, ap length same) in
    sym (ap (token_of id) view) ∙ found_at (has_id id) ts t h ∙ ap (λ m. Some (get_or ts m t)) e ∙ ap Some (sym is)

stored : (f : Token → Token) (id : TokenId) (ts seen : List Token) (place : ℕ) (t u : Token) → in_order ts ≡ true → seen ≡ ts
    → place ≡ position_or_len (has_id id) seen → place < length seen → t ≡ get_or ts place t → u ≡ f t → set ts place u ≡ changed id f ts
stored f id ts seen place t u ordered same at within is new =
    let e : place ≡ position_or_len (has_id id) ts = at ∙ ap (position_or_len (has_id id)) same in
    let h : position_or_len (has_id id) ts < length ts = omega (arith, ap length same) in
    ap (set ts place) new ∙ (λ i. set ts (e i) (f (is i))) ∙ ap (λ m. set ts (position_or_len (has_id id) ts) (f (get_or ts m t))) e ∙ changed_at f id ts t ordered h

pub is_changed : (f : Token → Token) (id : TokenId) (ts now seen : List Token) (place : ℕ) (t u : Token) → in_order ts ≡ true → ts ≡ now → seen ≡ ts
    → place ≡ position_or_len (has_id id) seen → place < length seen → t ≡ get_or ts place t → u ≡ f t → set ts place u ≡ changed id f now
is_changed f id ts now seen place t u ordered view same at within is new =
    stored f id ts seen place t u ordered same at within is new ∙ ap (changed id f) view

pub in_order-is_changed : (f : Token → Token) → ((t : Token) → (f t).id ≡ t.id) → (id : TokenId) (ts seen : List Token) (place : ℕ) (t u : Token)
    → in_order ts ≡ true → seen ≡ ts → place ≡ position_or_len (has_id id) seen → place < length seen → t ≡ get_or ts place t → u ≡ f t
    → in_order (set ts place u) ≡ true
in_order-is_changed f keeps id ts seen place t u ordered same at within is new =
    ap in_order (stored f id ts seen place t u ordered same at within is new) ∙ in_order-changed f keeps id ts ∙ ordered

keeps_prop : (class : PropClass) (name value : List ℕ) (t : Token) → (let u : Token = with_prop class name value t in u.id) ≡ t.id
keeps_prop Public name value t = refl
keeps_prop Own name value t = refl
keeps_prop Secret name value t = refl

pub in_order-if_ok : {E : Type 0} (result : Result (Unit {0}) E) (class : PropClass) (name value : List ℕ) (id : TokenId) (ts seen : List Token) (place : ℕ) (t u : Token)
    → in_order ts ≡ true → seen ≡ ts → place ≡ position_or_len (has_id id) seen → place < length seen → t ≡ get_or ts place t
    → OnOk result (u ≡ with_prop class name value t) → OnErr result (u ≡ t) → in_order (set ts place u) ≡ true
in_order-if_ok (Ok x) class name value id ts seen place t u ordered same at within is ok err =
    in_order-is_changed (with_prop class name value) (keeps_prop class name value) id ts seen place t u ordered same at within is ok
in_order-if_ok (Err x) class name value id ts seen place t u ordered same at within is ok err =
    in_order-is_changed (λ t. t) (λ t. refl) id ts seen place t u ordered same at within is err

pub changed_if_ok : {E : Type 0} (result : Result (Unit {0}) E) (f : Token → Token) (id : TokenId) (ts now seen : List Token) (place : ℕ) (t u : Token)
    → in_order ts ≡ true → ts ≡ now → seen ≡ ts → place ≡ position_or_len (has_id id) seen → place < length seen → t ≡ get_or ts place t
    → OnOk result (u ≡ f t) → OnOk result (set ts place u ≡ changed id f now)
changed_if_ok (Ok x) f id ts now seen place t u ordered view same at within is ok = is_changed f id ts now seen place t u ordered view same at within is ok
changed_if_ok (Err x) f id ts now seen place t u ordered view same at within is ok = tt

-- ---- a token put, and one taken out

is_put : (token : Token) (ts now seen : List Token) (place : ℕ) → ts ≡ now → seen ≡ ts → place ≡ position_or_len (is_behind token.id) seen
    → insert ts place token ≡ put token now
is_put token ts now seen place view same at =
    ap (λ m. insert ts m token) (at ∙ ap (position_or_len (is_behind token.id)) same) ∙ put_at token ts ∙ ap (put token) view

pub put_if_ok : {E : Type 0} (result : Result (Unit {0}) E) (token : Token) (ts now seen new : List Token) (place : ℕ) → ts ≡ now → seen ≡ ts
    → place ≡ position_or_len (is_behind token.id) seen → new ≡ cond (is_ok result) (insert ts place token) ts → OnOk result (new ≡ put token now)
put_if_ok (Ok x) token ts now seen new place view same at e = e ∙ is_put token ts now seen place view same at
put_if_ok (Err x) token ts now seen new place view same at e = tt

pub in_order-made : (made : Bool) (token : Token) (ts now seen new : List Token) (place : ℕ) → in_order ts ≡ true → ts ≡ now → seen ≡ ts
    → has_token token.id now ≡ false → place ≡ position_or_len (is_behind token.id) seen → new ≡ cond made (insert ts place token) ts → in_order new ≡ true
in_order-made true token ts now seen new place ordered view same absent at e =
    ap in_order (e ∙ is_put token ts now seen place view same at) ∙ in_order-put token now absent (sym (ap in_order view) ∙ ordered)
in_order-made false token ts now seen new place ordered view same absent at e = ap in_order e ∙ ordered

seen_place : (p : Token → Bool) (ts seen : List Token) (place : ℕ) → seen ≡ ts → Some place ≡ position p seen
    → (place ≡ position_or_len p ts) × (position_or_len p ts < length ts)
seen_place p ts seen place same e = first_place p ts place (e ∙ ap (position p) same)

pub is_taken : (id : TokenId) (ts now seen : List Token) (place : ℕ) → in_order ts ≡ true → ts ≡ now → seen ≡ ts → Some place ≡ position (has_id id) seen
    → remove ts place ≡ without id now
is_taken id ts now seen place ordered view same e =
    let p = seen_place (has_id id) ts seen place same e in
    ap (remove ts) p.0 ∙ removed_at id ts ordered p.1 ∙ ap (without id) view

pub taken_is : (id : TokenId) (ts now seen : List Token) (place : ℕ) (t : Token) → ts ≡ now → seen ≡ ts → Some place ≡ position (has_id id) seen
    → t ≡ get_or ts place t → Some t ≡ token_of id now
taken_is id ts now seen place t view same e is =
    let p = seen_place (has_id id) ts seen place same e in
    ap Some is ∙ ap (λ m. Some (get_or ts m t)) p.0 ∙ sym (found_at (has_id id) ts t p.1) ∙ ap (token_of id) view

pub none_is : (id : TokenId) (ts now seen : List Token) → ts ≡ now → seen ≡ ts → None ≡ position (has_id id) seen → None ≡ token_of id now
none_is id ts now seen view same e =
    sym (none_found (has_id id) ts (no_place (has_id id) ts (e ∙ ap (position (has_id id)) same))) ∙ ap (token_of id) view

pub none_taken : (id : TokenId) (ts now seen : List Token) → ts ≡ now → seen ≡ ts → None ≡ position (has_id id) seen → now ≡ without id now
none_taken id ts now seen view same e =
    sym view ∙ sym (none_removed id ts (no_place (has_id id) ts (e ∙ ap (position (has_id id)) same))) ∙ ap (without id) view
