-- A fight after an entry is set or goes, and after the turn has passed on.
use Rattle.std.proofs.Common.{◌≡◌, ◌≢◌, ℕ, suc, ◌+◌, ◌<◌, Bool, true, false, cond, not, ◌&&◌, ◌||◌, List, [], ◌∷◌, length, get_or, refl, sym, ap, subst, ◌∙◌, arith, rules}
use Rattle.std.specs.Prelude.{Option, Some, None, is_some, IfSome, All, AllPairs, if◌then◌else◌, min}
use Rattle.std.specs.List.{list_any, slice_get}
use Rattle.std.specs.List.Sorted.{IsStrictlySortedBy}
use Rattle.std.specs.Option.{option_map}
use Rattle.std.specs.declared.cmp.Ordering.{Ordering}
use Rattle.std.specs.declared.cmp.Ordering.TheVariants.{Less, Equal, Greater}
use Rattle.std.specs.Ordering.{eq_by_cmp, is_eq, ordering_then}
use Rattle.std.specs.Cmp.{IsEquivalence}
use Rattle.std.specs.Cmp.Rules.{comparing}
use Rattle.std.proofs.lemmas.Bool.{both_ways, false_from_ne_true, false≢true, not-true, true≢false}
use Rattle.std.proofs.lemmas.Option.{IfSome_then, get_or_from_slice_get, none-some, same_Some, slice_get_within}
use Rattle.std.proofs.lemmas.List.Elements.{All-weaker, filter_passes}
use Rattle.std.proofs.lemmas.List.Kept.{AllPairs-filter, IsStrictlySortedBy-filter}
use Rattle.std.proofs.lemmas.List.Sums.{position_or_len_is}
use Rattle.std.proofs.lemmas.Map.Keys.{any_passes_from_place}
use Rattle.std.proofs.lemmas.Map.Views.{any-filter_same}
use Rattle.names.specs.declared.token_id.TokenId.{TokenId}
use Rattle.names.specs.TokenId.{id_cmp, id_eq}
use Rattle.names.proofs.SameIds.{id_eq-Decides}
use Rattle.initiative.specs.declared.entry.Entry.{Entry}
use Rattle.initiative.specs.Fights.{IsFight, PassesTurn, Rounds, SetsEntry, begun_with, entry_cmp, following, has_turn, is_listed, is_of, left_with, list_with, no_fight, passed, passed_by, passed_to, place_of, token_at, with_list, without}
use Rattle.initiative.proofs.Placing.{apart_put, filter_twice, others_put, own_put}

abbrev pub Apart : Entry → Entry → Type 0
Apart one other = id_eq one.id other.id ≡ false

-- ---- ids

id_laws : IsEquivalence id_eq
id_laws = search (comparing, rules)

id_ties : (a b : TokenId) → id_eq a b ≡ eq_by_cmp id_cmp a b
id_ties = search (comparing, rules)

then_ties : (r s : Ordering) → ordering_then r s ≡ Equal → s ≡ Equal
then_ties Less s e = cc
then_ties Equal s e = e
then_ties Greater s e = cc

tied : (a b : Entry) → entry_cmp a b ≡ Equal → is_of a.id b ≡ true
tied a b e = id_laws.symm b.id a.id ∙ id_ties a.id b.id ∙ ap is_eq (then_ties _ _ e)

-- ---- whose entries a list has

listed_without : (q id : TokenId) (list : List Entry) → is_listed q (without id list) ≡ (not (id_eq q id) && is_listed q list)
listed_without q id list = any-filter_same (is_of q) (λ e. not (is_of id e)) (not (id_eq q id)) (λ e h. ap not (id_laws.congr e.id q id h)) list

pub gone : (id : TokenId) (list : List Entry) → is_listed id (without id list) ≡ false
gone id list = listed_without id id list ∙ ap (λ b. not b && is_listed id list) (id_laws.refl id)

kept : (q id : TokenId) (list : List Entry) → id_eq q id ≡ false → is_listed q list ≡ true → is_listed q (without id list) ≡ true
kept q id list other listed = listed_without q id list ∙ ap (λ b. not b && is_listed q list) other ∙ listed

far : (id : TokenId) (list : List Entry) → All (λ e. is_of id e ≡ false) (without id list)
far id list = All-weaker (λ e. not (is_of id e) ≡ true) (λ e. is_of id e ≡ false) (λ e h. not-true (is_of id e) h) (without id list) (filter_passes (λ e. not (is_of id e)) list)

-- ---- an entry is set

sets : (e : Entry) (r : Rounds) → SetsEntry e.id e.value r (with_list (list_with e r.list) r)
sets e r = record {
  own = own_put entry_cmp e (is_of e.id) (id_laws.refl e.id) (λ x h. tied e x h) (without e.id r.list) (far e.id r.list);
  others = others_put entry_cmp e (λ o. not (is_of e.id o)) (ap not (id_laws.refl e.id)) (without e.id r.list) ∙ filter_twice (λ o. not (is_of e.id o)) r.list;
  turn = refl;
  round = refl;
}

still_listed : (e : Entry) (r : Rounds) (q : TokenId) → is_listed q r.list ≡ true → is_listed q (list_with e r.list) ≡ true
still_listed e r q listed = by (id_eq q e.id) refl
  where
    new : List Entry
    new = list_with e r.list

    own : is_listed e.id new ≡ true
    own = sym (any-filter_same (is_of e.id) (is_of e.id) true (λ x h. h) new) ∙ ap (list_any (is_of e.id)) (sets e r).own ∙ ap (λ b. b || false) (id_laws.refl e.id)

    by : (b : Bool) → id_eq q e.id ≡ b → is_listed q new ≡ true
    by true same = subst (λ t. is_listed t new ≡ true) (sym ((id_eq-Decides q e.id).0 same)) own
    by false other =
        sym (ap (λ b. not b && is_listed q new) other) ∙ sym (listed_without q e.id new) ∙ ap (is_listed q) (sets e r).others ∙ kept q e.id r.list other listed

pub set_leaves : (e : Entry) (r : Rounds) (es : List Entry) → IsFight r → IsStrictlySortedBy entry_cmp es → es ≡ list_with e r.list
    → IsFight (with_list es r) × SetsEntry e.id e.value r (with_list es r)
set_leaves e r es f sorted is = (
  record {
    in_order = sorted;
    apart = subst (AllPairs Apart) (sym is) (apart_put entry_cmp e Apart (λ x y h. id_laws.symm y.id x.id ∙ h) (without e.id r.list)
        (All-weaker (λ x. is_of e.id x ≡ false) (Apart e) (λ x h. id_laws.symm e.id x.id ∙ h) (without e.id r.list) (far e.id r.list))
        (AllPairs-filter Apart (λ o. not (is_of e.id o)) r.list f.apart));
    turn = IfSome_then r.turn f.turn (λ q h. ap (is_listed q) is ∙ still_listed e r q h);
    begun = f.begun;
    limit = f.limit;
  },
  subst (λ (es : List Entry). SetsEntry e.id e.value r (with_list es r)) (sym is) (sets e r),
)

-- ---- places

entry_at : (list : List Entry) (place : ℕ) (id : TokenId) → token_at list place ≡ Some id → (e : Entry) × (slice_get list place ≡ Some e) × (e.id ≡ id)
entry_at list place id h = by (slice_get list place) refl h
  where
    by : (o : Option Entry) → slice_get list place ≡ o → option_map (λ (e : Entry). e.id) o ≡ Some id → (e : Entry) × (slice_get list place ≡ Some e) × (e.id ≡ id)
    by None is h = absurd (none-some id h)
    by (Some e) is h = (e, is, same_Some e.id id h)

listed_at : (list : List Entry) (place : ℕ) (id : TokenId) → token_at list place ≡ Some id → is_listed id list ≡ true
listed_at list place id h = let at = entry_at list place id h in any_passes_from_place (is_of id) list place at.0 at.1 ((id_eq-Decides at.0.id id).1 at.2)

-- a token's entry stands at one place
placed : (list : List Entry) → AllPairs Apart list → (place : ℕ) (id : TokenId) → token_at list place ≡ Some id → place_of id list ≡ place
placed list apart place id h =
    let at = entry_at list place id h in
    let within : place < length list = slice_get_within list place at.0 at.1 in
    let own : (get_or list place at.0).id ≡ id = ap (λ (e : Entry). e.id) (get_or_from_slice_get list place at.0 at.0 at.1) ∙ at.2 in
    position_or_len_is (is_of id) list place at.0 (omega (arith, within))
    (λ k below. subst (λ t. id_eq (get_or list k at.0).id t ≡ false) own (apart k place at.0 below within))
    (λ _. (id_eq-Decides (get_or list place at.0).id id).1 own)

-- ---- the turn passes on

begun_list : (o : Option TokenId) (r : Rounds) → (begun_with o r).list ≡ r.list
begun_list None r = refl
begun_list (Some first) r = refl

passed_list : (o : Option TokenId) (r : Rounds) → (passed_to o r).list ≡ r.list
passed_list None r = begun_list (token_at r.list 0) r
passed_list (Some next) r = refl

pub passes : (r : Rounds) → IsFight r → PassesTurn r (passed r)
passes r f = record {
  list = passed_list (following r.turn r.list) r;
  begins = λ none first is.
      let e : passed r ≡ begun_with (Some first) r = ap (λ t. passed_to (following t r.list) r) none ∙ ap (λ o. begun_with o r) is in
      let zero : r.round ≡ 0 = f.begun.0 (ap is_some none) in
      let new : (passed r).round ≡ min (r.round + 1) 999999999 = ap (λ (s : Rounds). s.round) e in
      (ap (λ (s : Rounds). s.turn) e, omega (arith, zero, new));
  goes_on = λ place id next turn at more.
      let e : passed r ≡ passed_to (Some next) r = to place id turn at ∙ ap (λ o. passed_to o r) more in
      (ap (λ (s : Rounds). s.turn) e, ap (λ (s : Rounds). s.round) e);
  goes_round = λ place id first turn at none is.
      let e : passed r ≡ begun_with (Some first) r = to place id turn at ∙ ap (λ o. passed_to o r) none ∙ ap (λ o. begun_with o r) is in
      (ap (λ (s : Rounds). s.turn) e, ap (λ (s : Rounds). s.round) e);
}
  where
    to : (place : ℕ) (id : TokenId) → r.turn ≡ Some id → token_at r.list place ≡ Some id → passed r ≡ passed_to (token_at r.list (place + 1)) r
    to place id turn at = ap (λ t. passed_to (following t r.list) r) turn ∙ ap (λ n. passed_to (token_at r.list (n + 1)) r) (placed r.list f.apart place id at)

begun_is_fight : (o : Option TokenId) (r : Rounds) → IsFight r → token_at r.list 0 ≡ o → IsFight (begun_with o r)
begun_is_fight None r f e = f
begun_is_fight (Some first) r f e = record {
  in_order = f.in_order;
  apart = f.apart;
  turn = listed_at r.list 0 first e;
  begun = (λ none. absurd (true≢false none), λ zero. absurd (omega (arith, zero)));
  limit = omega arith;
}

followed : (t : Option TokenId) (list : List Entry) (next : TokenId) → following t list ≡ Some next → (is_some t ≡ true) × (is_listed next list ≡ true)
followed None list next e = absurd (none-some next e)
followed (Some id) list next e = (refl, listed_at list (place_of id list + 1) next e)

pub passed_is_fight : (r : Rounds) → IsFight r → IsFight (passed r)
passed_is_fight r f = by (following r.turn r.list) refl
  where
    by : (o : Option TokenId) → following r.turn r.list ≡ o → IsFight (passed_to o r)
    by None e = begun_is_fight (token_at r.list 0) r f refl
    by (Some next) e = record {
      in_order = f.in_order;
      apart = f.apart;
      turn = (followed r.turn r.list next e).1;
      begun = (λ none. absurd (true≢false none), λ zero. absurd (both_ways (is_some r.turn) (f.begun.1 zero) (followed r.turn r.list next e).0));
      limit = f.limit;
    }

-- ---- an entry goes

-- where a token's entry is the first and none follows, none is left without it
alone : (id : TokenId) (list : List Entry) → token_at list 0 ≡ Some id → token_at list 1 ≡ None → without id list ≡ []
alone id [] first none = refl
alone id (e ∷ []) first none = ap (λ b. cond (not b) (e ∷ []) []) ((id_eq-Decides e.id id).1 (same_Some e.id id first))
alone id (e ∷ f ∷ es) first none = absurd (none-some f.id (sym none))

no_first : (id : TokenId) (list : List Entry) → token_at list 0 ≡ None → without id list ≡ []
no_first id [] none = refl
no_first id (e ∷ es) none = absurd (none-some e.id (sym none))

-- a token that passes the turn on has it no more, unless it is alone
module _ (id : TokenId) (r : Rounds) (f : IsFight r) (more : without id r.list ≢ []) where
  away_begun : (o : Option TokenId) → token_at r.list 0 ≡ o → following (Some id) r.list ≡ None → IfSome (begun_with o r).turn (λ q. id_eq q id ≡ false)
  away_begun None e none = absurd (more (no_first id r.list e))
  away_begun (Some first) e none = false_from_ne_true (id_eq first id) (λ same.
      let at : token_at r.list 0 ≡ Some id = e ∙ ap Some ((id_eq-Decides first id).0 same) in
      more (alone id r.list at (sym (ap (λ n. token_at r.list (n + 1)) (placed r.list f.apart 0 id at)) ∙ none)))

  away : (o : Option TokenId) → following (Some id) r.list ≡ o → IfSome (passed_to o r).turn (λ q. id_eq q id ≡ false)
  away None e = away_begun (token_at r.list 0) refl e
  away (Some next) e = false_from_ne_true (id_eq next id) (λ same.
      let here : place_of id r.list ≡ place_of id r.list + 1 = placed r.list f.apart (place_of id r.list + 1) id (e ∙ ap Some ((id_eq-Decides next id).0 same)) in
      omega (arith, here))

holder : (id : TokenId) (t : Option TokenId) → has_turn id t ≡ true → t ≡ Some id
holder id None h = absurd (false≢true h)
holder id (Some turn) h = ap Some ((id_eq-Decides turn id).0 h)

other_holder : (id : TokenId) (t : Option TokenId) → has_turn id t ≡ false → IfSome t (λ q. id_eq q id ≡ false)
other_holder id None h = tt
other_holder id (Some turn) h = h

turned_away : (id : TokenId) (r : Rounds) → IsFight r → without id r.list ≢ [] → IfSome (passed_by id r).turn (λ q. id_eq q id ≡ false)
turned_away id r f more = by (has_turn id r.turn) refl
  where
    by : (b : Bool) → has_turn id r.turn ≡ b → IfSome (if b then passed r else r).turn (λ q. id_eq q id ≡ false)
    by true h = subst (λ t. IfSome (passed_to (following t r.list) r).turn (λ q. id_eq q id ≡ false)) (sym (holder id r.turn h)) (away id r f more (following (Some id) r.list) refl)
    by false h = other_holder id r.turn h

passed_by_is_fight : (id : TokenId) (r : Rounds) → IsFight r → IsFight (passed_by id r) × ((passed_by id r).list ≡ r.list)
passed_by_is_fight id r f = by (has_turn id r.turn)
  where
    by : (b : Bool) → IsFight (if b then passed r else r) × ((if b then passed r else r).list ≡ r.list)
    by true = (passed_is_fight r f, passed_list (following r.turn r.list) r)
    by false = (f, refl)

no_fight_is : IsFight no_fight
unfolding IsStrictlySortedBy
no_fight_is = record { in_order = tt; apart = λ i j d below within. absurd (omega arith); turn = tt; begun = (λ _. refl, λ _. refl); limit = omega arith }

stays : (id : TokenId) (list : List Entry) (t : Option TokenId) → IfSome t (λ q. is_listed q list ≡ true) → IfSome t (λ q. id_eq q id ≡ false) → IfSome t (λ q. is_listed q (without id list) ≡ true)
stays id list None listed other = tt
stays id list (Some q) listed other = kept q id list other listed

left_is_fight : (id : TokenId) (r : Rounds) → IsFight r → (without id r.list ≢ [] → IfSome r.turn (λ q. id_eq q id ≡ false)) → IsFight (left_with (without id r.list) r)
left_is_fight id r f other = by (without id r.list) refl
  where
    by : (es : List Entry) → without id r.list ≡ es → IsFight (left_with es r)
    by [] e = no_fight_is
    by (x ∷ xs) e = record {
      in_order = subst (IsStrictlySortedBy entry_cmp) e (IsStrictlySortedBy-filter entry_cmp (λ o. not (is_of id o)) r.list f.in_order);
      apart = subst (AllPairs Apart) e (AllPairs-filter Apart (λ o. not (is_of id o)) r.list f.apart);
      turn = subst (λ (es : List Entry). IfSome r.turn (λ q. is_listed q es ≡ true)) e
          (stays id r.list r.turn f.turn (other (λ none. let long : suc (length xs) ≡ 0 = ap length (sym e ∙ none) in omega (arith, long))));
      begun = f.begun;
      limit = f.limit;
    }

pub dropped_is_fight : (id : TokenId) (r s : Rounds) → IsFight r → s ≡ passed_by id r → IsFight (left_with (without id s.list) s)
dropped_is_fight id r s f e =
    let p = passed_by_is_fight id r f in
    subst (λ (s : Rounds). IsFight (left_with (without id s.list) s)) (sym e)
    (left_is_fight id (passed_by id r) p.0 (λ more. turned_away id r f (λ none. more (ap (without id) p.1 ∙ none))))

pub left_list : (es : List Entry) (r : Rounds) → (left_with es r).list ≡ es
left_list [] r = refl
left_list (e ∷ es) r = refl
