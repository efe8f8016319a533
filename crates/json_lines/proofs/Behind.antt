-- A member whose key stands behind all the others goes to the end.
use Rattle.std.proofs.Common.{◌≡◌, ◌∙◌, ℕ, List, [], ◌∷◌, ◌++◌, refl, sym, ap, subst}
use Rattle.std.specs.Prelude.{⊤}
use Rattle.std.specs.declared.cmp.Ordering.TheVariants.{Greater}
use Rattle.std.specs.Ordering.{nat_cmp, match_ordering, ordering_reverse}
use Rattle.std.specs.Cmp.{IsTotalOrder}
use Rattle.std.specs.Cmp.Lexicographic.{slice_cmp}
use Rattle.std.proofs.lemmas.Cmp.{nat_list_cmp_total}
use Rattle.json.specs.Token.{Token, begin_object, end_object, key}
use Rattle.serde_json.specs.Data.{Data, object, Members, no_members, member, put}
use Rattle.json_lines.specs.Tokens.{value_tokens, members_tokens}

-- the key k stands behind l by their bytes
abbrev pub IsBehind : List ℕ → List ℕ → Type 0
IsBehind k l = slice_cmp nat_cmp k l ≡ Greater

abbrev pub IsBehindAll : List ℕ → Members → Type 0
IsBehindAll k no_members = ⊤
IsBehindAll k (member l e ms) = IsBehind k l × IsBehindAll k ms

further : (m k l : List ℕ) → IsBehind m k → IsBehind k l → IsBehind m l
further m k l h g =
    bytes.antisymm m l ∙ ap ordering_reverse (bytes.trans l k m (bytes.antisymm l k ∙ ap ordering_reverse g) (bytes.antisymm k m ∙ ap ordering_reverse h))
  where
    bytes : IsTotalOrder (slice_cmp nat_cmp)
    bytes = nat_list_cmp_total

still_behind : (m k : List ℕ) (ms : Members) → IsBehind m k → IsBehindAll k ms → IsBehindAll m ms
still_behind m k no_members h g = tt
still_behind m k (member l e ms) h g = (further m k l h g.0, still_behind m k ms h g.1)

behind_more : (m k : List ℕ) (d : Data) (ms : Members) → IsBehind m k → IsBehindAll k ms → IsBehindAll m (put k d ms)
behind_more m k d no_members h g = (h, tt)
behind_more m k d (member l e ms) h g =
    subst (λ o. IsBehindAll m (match_ordering o (member k d (member l e ms)) (member l d ms) (member l e (put k d ms)))) (sym g.0)
    (further m k l h g.0, behind_more m k d ms h g.1)

-- the members' tokens, and then the rest
abbrev pub members_before : Members → List Token → List Token
members_before no_members rest = rest
members_before (member k d ms) rest = key k ∷ (value_tokens d ++ members_before ms rest)

put_behind : (k : List ℕ) (d : Data) (ms : Members) (rest : List Token) → IsBehindAll k ms → members_before (put k d ms) rest ≡ members_before ms (key k ∷ (value_tokens d ++ rest))
put_behind k d no_members rest h = refl
put_behind k d (member l e ms) rest h =
    ap (λ o. members_before (match_ordering o (member k d (member l e ms)) (member l d ms) (member l e (put k d ms))) rest) h.0
    ∙ ap (λ ts. key l ∷ (value_tokens e ++ ts)) (put_behind k d ms rest h.1)

-- the members have these tokens, and all their keys stand before the next
pub record Stand (next : List ℕ) (ms : Members) (before : List Token → List Token) : Type 0 where
  pub behind : IsBehindAll next ms
  pub told : (rest : List Token) → members_before ms rest ≡ before rest

pub none : (next : List ℕ) → Stand next no_members (λ rest. rest)
none next = record { behind = tt; told = λ rest. refl }

pub one_more : (k next : List ℕ) (d : Data) (ms : Members) (before : List Token → List Token) → IsBehind next k → Stand k ms before
    → Stand next (put k d ms) (λ rest. before (key k ∷ (value_tokens d ++ rest)))
one_more k next d ms before h s = record {
  behind = behind_more next k d ms h s.behind;
  told = λ rest. put_behind k d ms rest s.behind ∙ s.told (key k ∷ (value_tokens d ++ rest));
}

pub no_more : (k next : List ℕ) (ms : Members) (before : List Token → List Token) → IsBehind next k → Stand k ms before → Stand next ms before
no_more k next ms before h s = record { behind = still_behind next k ms h s.behind; told = s.told }

closed : (ms : Members) → members_tokens ms ≡ members_before ms (end_object ∷ [])
closed no_members = refl
closed (member k d ms) = ap (λ ts. key k ∷ (value_tokens d ++ ts)) (closed ms)

pub whole_object : (next : List ℕ) (ms : Members) (before : List Token → List Token) → Stand next ms before → value_tokens (object ms) ≡ begin_object ∷ before (end_object ∷ [])
whole_object next ms before s = ap (λ ts. begin_object ∷ ts) (closed ms ∙ s.told (end_object ∷ []))
