-- How many looks one token takes.
use Rattle.std.proofs.Common.{refl, ◌≡◌, ◌≤◌, Bool, true, false, cond, ◌&&◌, List, [], ◌∷◌, length, map, sym, ◌∙◌, arith}
use Rattle.std.specs.Prelude.{filter}
use Rattle.std.specs.Ordering.{is_lt}
use Rattle.std.specs.FinMap.Entries.{below_all}
use Rattle.std.proofs.lemmas.Bool.{and_parts}
use Rattle.names.specs.declared.token_id.TokenId.{TokenId}
use Rattle.names.specs.TokenId.{id_cmp, id_eq}
use Rattle.names.proofs.SameIds.{id_eq-Decides}
use Rattle.tokens.specs.declared.token.Token.{Token}
use Rattle.tokens.specs.Tokens.{in_order}
use Rattle.tokens.proofs.OrderLemmas.{apart}
use Rattle.player_view.specs.Fields.{needs_field}
use Rattle.command_looks.specs.declared.touching.Touched.TheVariants.{One}
use Rattle.command_looks.specs.Touched.{looks_for}

pub symmetric : (a b : TokenId) → id_eq a b ≡ true → id_eq b a ≡ true
symmetric a b h = (id_eq-Decides b a).1 (sym ((id_eq-Decides a b).0 h))

-- behind the token of an id there is no other of it
behind_none : (one a : TokenId) (tokens : List Token) → id_eq one a ≡ true → below_all id_cmp a (map (λ t. (t.id, t)) tokens) ≡ true → looks_for tokens (One one) ≤ 0
behind_none one a [] same h = omega arith
behind_none one a (t ∷ tokens) same h =
    let hs = and_parts _ _ h in
    by (id_eq one t.id) refl (behind_none one a tokens same hs.1) hs.0
  where
    by : (b : Bool) → id_eq one t.id ≡ b → looks_for tokens (One one) ≤ 0 → is_lt (id_cmp a t.id) ≡ true
        → length (cond (b && needs_field t) (t ∷ filter (λ u. id_eq one u.id && needs_field u) tokens) (filter (λ u. id_eq one u.id && needs_field u) tokens)) ≤ 0
    by true e rest less =
        let no : true ≡ false = sym (symmetric one t.id e) ∙ apart a t.id one less (symmetric one a same) in cc
    by false e rest less = rest

pub one_look : (one : TokenId) (tokens : List Token) → in_order tokens ≡ true → looks_for tokens (One one) ≤ 1
one_look one [] h = omega arith
one_look one (t ∷ tokens) h =
    let hs = and_parts _ _ h in
    by (id_eq one t.id) refl (needs_field t) (one_look one tokens hs.1) hs.0
  where
    by : (b : Bool) → id_eq one t.id ≡ b → (n : Bool) → looks_for tokens (One one) ≤ 1 → below_all id_cmp t.id (map (λ u. (u.id, u)) tokens) ≡ true
        → length (cond (b && n) (t ∷ filter (λ u. id_eq one u.id && needs_field u) tokens) (filter (λ u. id_eq one u.id && needs_field u) tokens)) ≤ 1
    by true e true rest below = omega (arith, behind_none one t.id tokens e below)
    by true e false rest below = rest
    by false e n rest below = rest
