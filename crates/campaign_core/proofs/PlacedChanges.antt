-- The change of a view in which a token is put elsewhere.
use Rattle.std.proofs.Common.{◌≡◌, Bool, true, false, cond, ◌&&◌, ◌||◌, List, [], ◌∷◌, ◌++◌, map, Some, None, refl, sym, ◌∙◌, ap}
use Rattle.std.specs.Prelude.{Option, All, not, option_and_then, option_map, option_to_list}
use Rattle.std.specs.List.{cons_option, filter, filter_map, find, list_any}
use Rattle.std.specs.Ordering.{is_lt}
use Rattle.std.specs.Str.{bytes_eq}
use Rattle.std.specs.declared.cmp.Ordering.TheVariants.{Less, Equal}
use Rattle.std.specs.Cmp.{tied_itself}
use Rattle.std.specs.FinMap.Entries.{below_all}
use Rattle.std.proofs.lemmas.List.Elements.{All-head, All-tail}
use Rattle.std.proofs.lemmas.Slice.Eq.{bytes_eq-Decides}
use Rattle.names.specs.declared.token_id.TokenId.{TokenId}
use Rattle.names.specs.Tag.{tag_cmp}
use Rattle.names.specs.TokenId.{id_cmp, id_eq}
use Rattle.names.proofs.SameIds.{id_eq-Decides}
use Rattle.views.specs.declared.view.FightView.{FightView}
use Rattle.views.specs.declared.view.MapView.{MapView}
use Rattle.views.specs.declared.view.TokenView.{TokenView}
use Rattle.views.specs.declared.view.View.{View}
use Rattle.views.specs.Keys.{change_name, map_name, token_id}
use Rattle.views.specs.Order.{at, in_order, keyed}
use Rattle.views.specs.Same.{same_bytes, same_fight, same_light, same_map, same_token, same_view}
use Rattle.views.specs.Views.{IsView}
use Rattle.views.proofs.InOrder.{each_found, first, less, second}
use Rattle.views.proofs.Orders.{id_total, tag_total}
use Rattle.views.proofs.SameLemmas.{option_eq-tells, same_bytes-tells, same_fight-tells, same_light-tells, same_map-tells, same_token-tells, same_view-tells}
use Rattle.view_change.specs.Change.{change_of, difference, fight_change, map_change}
use Rattle.view_change.specs.Keyed.{delta_from, gone_from, is_in, puts_from}
use Rattle.view_change.proofs.ChangeLemmas.{none_if_same}
use Rattle.view_change.proofs.ChangeShape.{change_where_other}
use Rattle.view_marks.specs.declared.placed.Placed.{Placed}
use Rattle.view_marks.specs.Placed.{placed_in, placed_token}
use Rattle.campaign_core.specs.Placing.{change_with, is_placed, newly_placed, placed_change}

-- ---- what is in a list itself

or_true : (b : Bool) → (b || true) ≡ true
or_true true = refl
or_true false = refl

any_there : {A : Type 0} (p : A → Bool) (pre : List A) (x : A) (xs : List A) → p x ≡ true → list_any p (pre ++ x ∷ xs) ≡ true
any_there p [] x xs h = ap (λ b. b || list_any p xs) h
any_there p (y ∷ pre) x xs h = ap (λ b. p y || b) (any_there p pre x xs h) ∙ or_true (p y)

moved_on : {A : Type 0} (pre : List A) (x : A) (xs : List A) → (pre ++ x ∷ []) ++ xs ≡ pre ++ x ∷ xs
moved_on [] x xs = refl
moved_on (y ∷ pre) x xs = ap (λ rest. y ∷ rest) (moved_on pre x xs)

-- nothing is left of a list without what is in it
none_else : {A : Type 0} (r : A → A → Bool) → ((x : A) → r x x ≡ true) → (pre xs : List A) → filter (λ y. not (list_any (λ x. r x y) (pre ++ xs))) xs ≡ []
none_else r itself pre [] = refl
none_else r itself pre (x ∷ xs) =
    ap (λ b. cond (not b) (x ∷ filter (λ y. not (list_any (λ z. r z y) (pre ++ x ∷ xs))) xs) (filter (λ y. not (list_any (λ z. r z y) (pre ++ x ∷ xs))) xs)) (any_there (λ z. r z x) pre x xs (itself x))
    ∙ ap (λ whole. filter (λ y. not (list_any (λ z. r z y) whole)) xs) (sym (moved_on pre x xs))
    ∙ none_else r itself (pre ++ x ∷ []) xs

-- ---- maps and the part of a fight that stay

deltas_none : (ms all : List MapView) → All (λ m. at tag_cmp map_name (map_name m) all ≡ Some m) ms
    → filter_map (λ m. delta_from tag_cmp map_name change_name same_map map_change (at tag_cmp map_name (map_name m) all) m) ms ≡ []
deltas_none [] all found = refl
deltas_none (m ∷ ms) all found =
    let here : at tag_cmp map_name (map_name m) all ≡ Some m = All-head (λ n. at tag_cmp map_name (map_name n) all ≡ Some n) m ms found in
    ap (λ o. cons_option (delta_from tag_cmp map_name change_name same_map map_change o m) (filter_map (λ n. delta_from tag_cmp map_name change_name same_map map_change (at tag_cmp map_name (map_name n) all) n) ms)) here
    ∙ ap (λ b. cons_option (cond b None (Some (map_change m m))) (filter_map (λ n. delta_from tag_cmp map_name change_name same_map map_change (at tag_cmp map_name (map_name n) all) n) ms)) ((same_map-tells m m).1 refl)
    ∙ deltas_none ms all (All-tail (λ n. at tag_cmp map_name (map_name n) all ≡ Some n) m ms found)

fight_stays : (fight : Option FightView) → fight_change fight fight ≡ None
fight_stays fight = ap (λ b. cond b None (Some fight)) ((option_eq-tells same_fight same_fight-tells fight fight).1 refl)

-- ---- tokens

same_itself : (t : TokenView) → same_token t t ≡ true
same_itself t = (same_token-tells t t).1 refl

-- tokens of different ids differ
above : (x y : TokenView) → id_cmp y.id x.id ≡ Less → same_token x y ≡ false
above x y l = by (same_token x y) (same_token-tells x y).0
  where
    by : (b : Bool) → (b ≡ true → x ≡ y) → b ≡ false
    by false tells = refl
    by true tells = let no : Less ≡ Equal = sym l ∙ ap (λ (z : TokenView). id_cmp y.id z.id) (tells refl) ∙ tied_itself id_total y.id in cc

below : (x y : TokenView) → id_cmp x.id y.id ≡ Less → same_token x y ≡ false
below x y l = by (same_token x y) (same_token-tells x y).0
  where
    by : (b : Bool) → (b ≡ true → x ≡ y) → b ≡ false
    by false tells = refl
    by true tells = let no : Less ≡ Equal = sym l ∙ ap (λ (z : TokenView). id_cmp x.id z.id) (sym (tells refl)) ∙ tied_itself id_total x.id in cc

none_same : (y : TokenView) (xs : List TokenView) → below_all id_cmp y.id (keyed id_cmp token_id xs) ≡ true → is_in same_token xs y ≡ false
none_same y [] h = refl
none_same y (x ∷ xs) h = (λ i. above x y (less _ (first _ _ h)) i || is_in same_token xs y) ∙ none_same y xs (second _ _ h)

-- a token before all others is none of them
past_first : (x : TokenView) (xs ys : List TokenView) → below_all id_cmp x.id (keyed id_cmp token_id ys) ≡ true → puts_from same_token (x ∷ xs) ys ≡ puts_from same_token xs ys
past_first x xs [] h = refl
past_first x xs (y ∷ ys) h = λ i. cond (not (below x y (less _ (first _ _ h)) i || is_in same_token xs y)) (y ∷ past_first x xs ys (second _ _ h) i) (past_first x xs ys (second _ _ h) i)

module _ (p : Placed) where
  abbrev there : TokenView → TokenView
  there t = record t { map = p.map; cell = p.cell }

  keeps_id : (t : TokenView) (b : Bool) → token_id (cond b (there t) t) ≡ t.id
  keeps_id t true = refl
  keeps_id t false = refl

  below-placed : (k : TokenId) (ts : List TokenView) → below_all id_cmp k (keyed id_cmp token_id (map (placed_token p) ts)) ≡ below_all id_cmp k (keyed id_cmp token_id ts)
  below-placed k [] = refl
  below-placed k (t ∷ ts) = λ i. is_lt (id_cmp k (keeps_id t (id_eq t.id p.id) i)) && below-placed k ts i

  -- behind the token of the id there is none of it
  not_placed : (k : TokenId) (t : TokenView) → id_eq k p.id ≡ true → id_cmp k t.id ≡ Less → id_eq t.id p.id ≡ false
  not_placed k t e l = by (id_eq t.id p.id) (id_eq-Decides t.id p.id).0
    where
      by : (b : Bool) → (b ≡ true → t.id ≡ p.id) → b ≡ false
      by false tells = refl
      by true tells = let no : Less ≡ Equal = sym l ∙ ap (id_cmp k) (tells refl ∙ sym ((id_eq-Decides k p.id).0 e)) ∙ tied_itself id_total k in cc

  others_stay : (k : TokenId) (ts : List TokenView) → id_eq k p.id ≡ true → below_all id_cmp k (keyed id_cmp token_id ts) ≡ true → map (placed_token p) ts ≡ ts
  others_stay k [] e h = refl
  others_stay k (t ∷ ts) e h = λ i. cond (not_placed k t e (less _ (first _ _ h)) i) (there t) t ∷ others_stay k ts e (second _ _ h) i

  none_new : (ts : List TokenView) → puts_from same_token ts ts ≡ []
  none_new ts = none_else same_token same_itself [] ts

  one_new : (t : TokenView) (b : Bool) → cond (not (b || false)) (t ∷ []) [] ≡ option_to_list (cond b None (Some t))
  one_new t true = refl
  one_new t false = refl

  -- the token that is put elsewhere is the one that differs
  puts_one : (ts : List TokenView) → in_order id_cmp token_id ts ≡ true → puts_from same_token ts (map (placed_token p) ts) ≡ option_to_list (option_and_then (newly_placed p) (find (is_placed p) ts))
  puts_one [] h = refl
  puts_one (t ∷ ts) h =
      (λ i. cond (not (same_token t (placed_token p t) || absent i)) (placed_token p t ∷ past i) (past i)) ∙ by (id_eq t.id p.id) refl (puts_one ts (second _ _ h))
    where
      absent : is_in same_token ts (placed_token p t) ≡ false
      absent = none_same (placed_token p t) ts (ap (λ k. below_all id_cmp k (keyed id_cmp token_id ts)) (keeps_id t (id_eq t.id p.id)) ∙ first _ _ h)

      past : puts_from same_token (t ∷ ts) (map (placed_token p) ts) ≡ puts_from same_token ts (map (placed_token p) ts)
      past = past_first t ts (map (placed_token p) ts) (below-placed t.id ts ∙ first _ _ h)

      by : (b : Bool) → id_eq t.id p.id ≡ b → puts_from same_token ts (map (placed_token p) ts) ≡ option_to_list (option_and_then (newly_placed p) (find (is_placed p) ts))
          → cond (not (same_token t (cond b (there t) t) || false)) (cond b (there t) t ∷ puts_from same_token ts (map (placed_token p) ts)) (puts_from same_token ts (map (placed_token p) ts))
          ≡ option_to_list (option_and_then (newly_placed p) (cond b (Some t) (find (is_placed p) ts)))
      by false e rest =
          ap (λ b. cond (not (b || false)) (t ∷ puts_from same_token ts (map (placed_token p) ts)) (puts_from same_token ts (map (placed_token p) ts))) (same_itself t)
          ∙ rest
      by true e rest =
          ap (λ left. cond (not (same_token t (there t) || false)) (there t ∷ left) left) (ap (puts_from same_token ts) (others_stay t.id ts e (first _ _ h)) ∙ none_new ts)
          ∙ one_new (there t) (same_token t (there t))
          ∙ ap (λ b. option_to_list (cond (same_token t (cond b (there t) t)) None (Some (cond b (there t) t)))) (sym e)

  -- where it stands there already, or isn't there, all stay
  all_stay : (ts : List TokenView) → in_order id_cmp token_id ts ≡ true → option_and_then (newly_placed p) (find (is_placed p) ts) ≡ None → map (placed_token p) ts ≡ ts
  all_stay [] h none = refl
  all_stay (t ∷ ts) h none = by (id_eq t.id p.id) refl none (all_stay ts (second _ _ h))
    where
      itself : (b : Bool) → (b ≡ true → t ≡ there t) → cond b None (Some (there t)) ≡ None → there t ≡ t
      itself true tells gone = sym (tells refl)
      itself false tells gone = cc

      by : (b : Bool) → id_eq t.id p.id ≡ b → option_and_then (newly_placed p) (cond b (Some t) (find (is_placed p) ts)) ≡ None
          → (option_and_then (newly_placed p) (find (is_placed p) ts) ≡ None → map (placed_token p) ts ≡ ts) → cond b (there t) t ∷ map (placed_token p) ts ≡ t ∷ ts
      by false e gone rest = ap (λ us. t ∷ us) (rest gone)
      by true e gone rest =
          let here : there t ≡ t = itself (same_token t (there t)) (same_token-tells t (there t)).0 (ap (λ b. cond (same_token t (cond b (there t) t)) None (Some (cond b (there t) t))) (sym e) ∙ gone) in
          λ i. here i ∷ others_stay t.id ts e (first _ _ h) i

  has_same : (k : TokenId) (ts : List TokenView) → list_any (λ x. id_eq k (token_id x)) (map (placed_token p) ts) ≡ list_any (λ x. id_eq k (token_id x)) ts
  has_same k [] = refl
  has_same k (t ∷ ts) = λ i. id_eq k (keeps_id t (id_eq t.id p.id) i) || has_same k ts i

  none_gone : (ts : List TokenView) → gone_from id_eq token_id ts (map (placed_token p) ts) ≡ []
  none_gone ts =
      (λ i. map token_id (filter (λ y. not (has_same (token_id y) ts i)) ts))
      ∙ ap (map token_id) (none_else (λ x y. id_eq (token_id y) (token_id x)) (λ x. (id_eq-Decides x.id x.id).1 refl) [] ts)

  -- ---- the whole

  module _ (v : View) (is : IsView v) where
    differs : (t : TokenView) → option_and_then (newly_placed p) (find (is_placed p) v.tokens) ≡ Some t → difference v (placed_in p v) ≡ change_with t
    unfolding difference
    differs t one = λ i. record {
      changed = deltas_none v.maps v.maps (each_found tag_cmp map_name tag_total v.maps is.maps) i;
      fight = fight_stays v.fight i;
      gone = none_gone v.tokens i;
      lights = none_else same_light (λ x. (same_light-tells x x).1 refl) [] v.lights i;
      maps = none_else (λ x y. bytes_eq (map_name y) (map_name x)) (λ x. (bytes_eq-Decides x.name x.name).1 refl) [] v.maps i;
      sights = none_else same_bytes (λ x. (same_bytes-tells x x).1 refl) [] v.sights i;
      tokens = (puts_one v.tokens is.tokens ∙ ap option_to_list one) i;
      unmapped = map map_name (none_else (λ x y. bytes_eq (map_name y) (map_name x)) (λ x. (bytes_eq-Decides x.name x.name).1 refl) [] v.maps i);
    }

    changes_by : (o : Option TokenView) → option_and_then (newly_placed p) (find (is_placed p) v.tokens) ≡ o → change_of v (placed_in p v) ≡ option_map change_with o
    changes_by None none = (none_if_same v (placed_in p v)).1 (ap (λ ts. record v { tokens = ts }) (sym (all_stay v.tokens is.tokens none)))
    changes_by (Some t) one = by (same_view v (placed_in p v)) refl
      where
        by : (b : Bool) → same_view v (placed_in p v) ≡ b → change_of v (placed_in p v) ≡ Some (change_with t)
        by true e =
            let same : v ≡ placed_in p v = (same_view-tells v (placed_in p v)).0 e in
            let no : [] ≡ t ∷ [] = sym (none_new v.tokens) ∙ ap (λ (x : View). puts_from same_token v.tokens x.tokens) same ∙ puts_one v.tokens is.tokens ∙ ap option_to_list one in
            cc
        by false e = sym (change_where_other v (placed_in p v) e) ∙ ap Some (differs t one)

    -- the change is of that token alone, if it differs
    pub changes_one : change_of v (placed_in p v) ≡ placed_change p v
    changes_one = changes_by (option_and_then (newly_placed p) (find (is_placed p) v.tokens)) refl
