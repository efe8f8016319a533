-- A player who isn't shown a token, and doesn't see by it, sees what it saw when the token changes.
use Rattle.std.proofs.Common.{◌≡◌, ◌⊎◌, inl, inr, ℕ, zero, suc, Bool, true, false, cond, ◌&&◌, ◌||◌, not, List, [], ◌∷◌, map, filter, Some, None, refl, sym, ◌∙◌, ap, subst, arith, ◌<◌}
use Rattle.std.specs.Prelude.{Option, All, option_map, nat_eq, nat_lt, find, slice_get}
use Rattle.std.proofs.lemmas.List.Elements.{All-cons, All-filter, All-head, All-nil, All-tail, filter_passes}
use Rattle.std.proofs.lemmas.Option.{slice_get-map}
use Rattle.std.specs.List.{cons_option, filter_map, list_any, range_with_len}
use Rattle.std.specs.Str.{bytes_eq}
use Rattle.std.proofs.lemmas.Bool.Decides.{nat_tests}
use Rattle.std.proofs.lemmas.Slice.Eq.{bytes_eq-Decides}
use Rattle.names.specs.declared.kinds.Layer.{Layer}
use Rattle.names.specs.declared.kinds.Layer.TheVariants.{Token as TokenLayer, Hidden, Object, Background}
use Rattle.names.specs.declared.token_id.TokenId.{TokenId}
use Rattle.cells.specs.Cells.{cells_where, has}
use Rattle.cells.proofs.SetLaws.{has-cells_where}
use Rattle.maps.specs.Maps.{Grid, map_of}
use Rattle.fog_book.specs.declared.exposure.Exposure.{Exposure}
use Rattle.fog_book.specs.Exposures.{cells_at, is_of, joined, Fog}
use Rattle.sight_types.specs.declared.Sight.{Sight}
use Rattle.tokens.specs.declared.token.Token.{Token}
use Rattle.tokens.specs.Owners.{has_owner}
use Rattle.tokens.specs.Tokens.{changed, eye_of, has_id}
use Rattle.vision.specs.Seen.{sees_test}
use Rattle.world.specs.Scene.{Scene, with_token}
use Rattle.player_view.specs.Sight.{is_hidden, is_on, lamp_on, lamp_with, map_shown, named_type, owns, sees, sees_with, shows_cell, visible, visible_test}
use Rattle.player_view.specs.Shown.{exposed, is_in, is_shown, is_uncovered, is_uncovered_on, touches}
use Rattle.player_view.specs.View.{all_cells, has_map, has_token, is_gm, light_text, map_view, sight_text, token_view, view_of}
use Rattle.player_view.specs.Fights.{fight_in}
use Rattle.player_view.proofs.SceneLemmas.{name_found}
use Rattle.command_effects.specs.Settle.{settled, settled_set, with_sight, IsSettled}
use Rattle.view_marks.specs.Onlookers.{has_token_on, lies, meets, meets_any, plays}
use Rattle.view_marks.proofs.Fogs.{sets_settled, view_same as same_under_fog}

-- ---- booleans and lists

and_false : (b : Bool) → (b && false) ≡ false
and_false true = refl
and_false false = refl

or_true : (b : Bool) → (b || true) ≡ true
or_true true = refl
or_true false = refl

or_none : (a b : Bool) → (a || b) ≡ false → (a ≡ false) × (b ≡ false)
or_none false b h = (refl, h)
or_none true b h = let no : true ≡ false = h in cc

none_holds : {X : Type 0} (test : X → Bool) → ((x : X) → test x ≡ false) → (xs : List X) → list_any test xs ≡ false
none_holds test fails [] = refl
none_holds test fails (x ∷ xs) = (λ i. fails x i || list_any test xs) ∙ none_holds test fails xs

-- where no item passes the wider test, none passes the narrower one
none_within : {X : Type 0} (wide test : X → Bool) → ((x : X) → wide x ≡ false → test x ≡ false) → (xs : List X) → list_any wide xs ≡ false → list_any test xs ≡ false
none_within wide test within [] h = refl
none_within wide test within (x ∷ xs) h =
    let parts = or_none (wide x) (list_any wide xs) h in
    (λ i. within x parts.0 i || list_any test xs) ∙ none_within wide test within xs parts.1

any-map : {X : Type 0} (test was : X → Bool) (w : X → X) → ((x : X) → test (w x) ≡ was x) → (xs : List X) → list_any test (map w xs) ≡ list_any was xs
any-map test was w same [] = refl
any-map test was w same (x ∷ xs) = λ i. same x i || any-map test was w same xs i

-- ---- a token that the player doesn't meet

-- it isn't the player's
unplayed_by : (hidden lying owner near : Bool) → (not hidden && (lying || (owner || near))) ≡ false → (not hidden && owner) ≡ false
unplayed_by true lying owner near h = refl
unplayed_by false true owner near h = let no : true ≡ false = h in cc
unplayed_by false false true near h = let no : true ≡ false = h in cc
unplayed_by false false false near h = refl

unplayed : (s : Scene) (p : ℕ) (t : Token) → meets s p t ≡ false → plays p t ≡ false
unplayed s p t none = unplayed_by (is_hidden t.layer) (lies t.layer) (has_owner t.owners p) (has_token_on s p t.map) none

not_owned_by : (hidden owner shown : Bool) → (not hidden && owner) ≡ false → (owner && (not hidden && shown)) ≡ false
not_owned_by hidden false shown h = refl
not_owned_by true true shown h = refl
not_owned_by false true shown h = let no : true ≡ false = h in cc

not_owned : (s : Scene) (p : ℕ) (t : Token) → plays p t ≡ false → owns s p t ≡ false
not_owned s p t none = not_owned_by (is_hidden t.layer) (has_owner t.owners p) (map_shown s t.map) none

shows_none : (s : Scene) (p : ℕ) (m : Grid) (x y : ℕ) (t : Token) → (is_on m.name t && plays p t) ≡ false → shows_cell s p m x y t ≡ false
shows_none s p m x y t none = by (is_on m.name t) none
  where
    by : (on : Bool) → (on && plays p t) ≡ false → (on && (owns s p t && sees s m t x y)) ≡ false
    by true h = ap (λ b. b && sees s m t x y) (not_owned s p t h)
    by false h = refl

-- it is no lamp on a map on which the player has a token
near_hidden : (hidden lying owner : Bool) → (not hidden && (lying || (owner || true))) ≡ false → hidden ≡ true
near_hidden true lying owner h = refl
near_hidden false true owner h = let no : true ≡ false = h in cc
near_hidden false false owner h = let no : true ≡ false = sym (or_true owner) ∙ h in cc

no_lamp : (s : Scene) (p : ℕ) (name : List ℕ) (t : Token) → meets s p t ≡ false → has_token_on s p name ≡ true → lamp_on s name t ≡ None
no_lamp s p name t none near = by (is_on name t) refl
  where
    by : (on : Bool) → is_on name t ≡ on → cond (on && not (is_hidden t.layer)) (lamp_with t (named_type s.lights t.light)) None ≡ None
    by false e = refl
    by true e =
        let here : has_token_on s p t.map ≡ true = ap (has_token_on s p) (sym ((bytes_eq-Decides name t.map).0 e)) ∙ near in
        let hidden : is_hidden t.layer ≡ true = near_hidden (is_hidden t.layer) (lies t.layer) (has_owner t.owners p) (ap (λ b. not (is_hidden t.layer) && (lies t.layer || (has_owner t.owners p || b))) (sym here) ∙ none) in
        ap (λ b. cond (not b) (lamp_with t (named_type s.lights t.light)) None) hidden

-- ---- a map on which the player has no token

pub none_seen : (s : Scene) (p : ℕ) (m : Grid) (x y : ℕ) → has_token_on s p m.name ≡ false → visible_test s p m x y ≡ false
none_seen s p m x y none = none_within (λ t. is_on m.name t && plays p t) (shows_cell s p m x y) (shows_none s p m x y) s.tokens none

touches_none : (s : Scene) (p : ℕ) (t : Token) (m : Grid) → has_token_on s p m.name ≡ false → touches t (visible s p m) ≡ false
unfolding visible
touches_none s p t m none =
    none_holds (λ x. list_any (λ y. is_in (cells_where m.walls.extent (visible_test s p m)) x y) (range_with_len t.cell.y t.size))
    (λ x. none_holds (λ y. is_in (cells_where m.walls.extent (visible_test s p m)) x y) (not_in x) (range_with_len t.cell.y t.size)) (range_with_len t.cell.x t.size)
  where
    below : (a b : ℕ) → nat_lt a b ≡ true → a < b
    below a b h = grind (arith, nat_tests, h)

    not_in : (x y : ℕ) → is_in (cells_where m.walls.extent (visible_test s p m)) x y ≡ false
    not_in x y = by (nat_lt x m.walls.extent.w) (nat_lt y m.walls.extent.h) refl refl
      where
        by : (a b : Bool) → nat_lt x m.walls.extent.w ≡ a → nat_lt y m.walls.extent.h ≡ b → (a && (b && has (cells_where m.walls.extent (visible_test s p m)) x y)) ≡ false
        by false b e f = refl
        by true false e f = refl
        by true true e f = has-cells_where m.walls.extent (visible_test s p m) x y (below x m.walls.extent.w e) (below y m.walls.extent.h f) ∙ none_seen s p m x y none

far_by : (hidden lying owner near : Bool) → (not hidden && (lying || (owner || near))) ≡ false → hidden ≡ false → (lying ≡ false) × (near ≡ false)
far_by true lying owner near h e = let no : true ≡ false = e in cc
far_by false true owner near h e = let no : true ≡ false = h in cc
far_by false false true near h e = let no : true ≡ false = h in cc
far_by false false false near h e = (refl, h)

not_uncovered : (s : Scene) (p : ℕ) (t : Token) (layer : Layer) (m : Grid) → (not (is_hidden layer) && (lies layer || (has_owner t.owners p || has_token_on s p t.map))) ≡ false → m.name ≡ t.map
    → is_uncovered layer s p t m ≡ false
not_uncovered s p t TokenLayer m none on = touches_none s p t m (ap (has_token_on s p) on ∙ (far_by false false (has_owner t.owners p) (has_token_on s p t.map) none refl).1)
not_uncovered s p t Hidden m none on = refl
not_uncovered s p t Object m none on = let no : true ≡ false = none in cc
not_uncovered s p t Background m none on = let no : true ≡ false = none in cc

not_uncovered_on : (s : Scene) (p : ℕ) (t : Token) (o : Option Grid) → map_of t.map s.maps ≡ o → meets s p t ≡ false → is_uncovered_on s p t o ≡ false
not_uncovered_on s p t None e none = refl
not_uncovered_on s p t (Some m) e none =
    ap (λ b. m.shown && (t.visible && b)) (not_uncovered s p t t.layer m none (name_found s.maps t.map m e)) ∙ ap (λ b. m.shown && b) (and_false t.visible) ∙ and_false m.shown

not_had : (s : Scene) (p : ℕ) (t : Token) → is_gm p ≡ false → meets s p t ≡ false → has_token s p t ≡ false
unfolding is_shown
not_had s p t player none =
    λ i. player i || (not_owned s p t (unplayed s p t none) i || not_uncovered_on s p t (map_of t.map s.maps) refl none i)

-- ---- the exposed sets of one player

abbrev pub own_sets : ℕ → List Exposure → List Exposure
own_sets p sets = filter (λ set. nat_eq set.seat p) sets

pub is_number : (a b : ℕ) → a ≡ b → nat_eq a b ≡ true
is_number a b h = grind (arith, nat_tests, h)

pub same_number : (a b : ℕ) → nat_eq a b ≡ true → a ≡ b
same_number a b h = grind (arith, nat_tests, h)

-- what a look into the sets finds for the player is found among its own
found_own : (p : ℕ) (name : List ℕ) (sets : List Exposure) → cells_at sets p name ≡ cells_at (own_sets p sets) p name
found_own p name [] = refl
found_own p name (set ∷ sets) = by (nat_eq set.seat p) refl (found_own p name sets)
  where
    on : (c : Bool) → cells_at sets p name ≡ cells_at (own_sets p sets) p name
        → option_map (λ (k : Exposure). k.cells) (cond c (Some set) (find (is_of p name) sets)) ≡ option_map (λ (k : Exposure). k.cells) (cond c (Some set) (find (is_of p name) (own_sets p sets)))
    on true rest = refl
    on false rest = rest

    by : (b : Bool) → nat_eq set.seat p ≡ b → cells_at sets p name ≡ cells_at (own_sets p sets) p name → cells_at (set ∷ sets) p name ≡ cells_at (cond b (set ∷ own_sets p sets) (own_sets p sets)) p name
    by true e rest = on (is_of p name set) rest
    by false e rest = ap (λ c. option_map (λ (k : Exposure). k.cells) (cond (c && bytes_eq set.map name) (Some set) (find (is_of p name) sets))) e ∙ rest

-- a change that keeps seats
own_map : (p : ℕ) (f : Exposure → Exposure) → ((set : Exposure) → (f set).seat ≡ set.seat) → (sets : List Exposure) → own_sets p (map f sets) ≡ map f (own_sets p sets)
own_map p f keeps [] = refl
own_map p f keeps (set ∷ sets) = ap (λ n. cond (nat_eq n p) (f set ∷ own_sets p (map f sets)) (own_sets p (map f sets))) (keeps set) ∙ by (nat_eq set.seat p) (own_map p f keeps sets)
  where
    by : (b : Bool) → own_sets p (map f sets) ≡ map f (own_sets p sets) → cond b (f set ∷ own_sets p (map f sets)) (own_sets p (map f sets)) ≡ map f (cond b (set ∷ own_sets p sets) (own_sets p sets))
    by true rest = ap (λ xs. f set ∷ xs) rest
    by false rest = rest

-- what holds of each of them holds of one that stands among all sets
pub own_at : (P : Exposure → Type 0) (p : ℕ) (sets : List Exposure) (place : ℕ) (set : Exposure) → All P (own_sets p sets) → slice_get sets place ≡ Some set → nat_eq set.seat p ≡ true → P set
own_at P p [] place set all there own = cc
own_at P p (x ∷ sets) zero set all there own =
    let same : x ≡ set = cc in
    subst P same (All-head P x (own_sets p sets) (subst (λ b. All P (cond b (x ∷ own_sets p sets) (own_sets p sets))) (ap (λ (k : Exposure). nat_eq k.seat p) same ∙ own) all))
own_at P p (x ∷ sets) (suc place) set all there own = own_at P p sets place set (by (nat_eq x.seat p) all) there own
  where
    by : (b : Bool) → All P (cond b (x ∷ own_sets p sets) (own_sets p sets)) → All P (own_sets p sets)
    by true rest = All-tail P x (own_sets p sets) rest
    by false rest = rest

fixed : {X : Type 0} (f : X → X) (xs : List X) → map f xs ≡ xs → All (λ x. f x ≡ x) xs
fixed f [] e = All-nil (λ x. f x ≡ x)
fixed f (x ∷ xs) e = All-cons (λ x. f x ≡ x) x xs (first_of e) (fixed f xs (rest_of e))
  where
    first_of : {A : Type 0} {a b : A} {ps qs : List A} → a ∷ ps ≡ b ∷ qs → a ≡ b
    first_of e = cc

    rest_of : {A : Type 0} {a b : A} {ps qs : List A} → a ∷ ps ≡ b ∷ qs → ps ≡ qs
    rest_of e = cc

map_fixed : {X : Type 0} (f : X → X) (xs : List X) → All (λ x. f x ≡ x) xs → map f xs ≡ xs
map_fixed f [] all = refl
map_fixed f (x ∷ xs) all = λ i. All-head (λ x. f x ≡ x) x xs all i ∷ map_fixed f xs (All-tail (λ x. f x ≡ x) x xs all) i

-- what is seen is exposed, set by set
pub own_settled : (s : Scene) (p : ℕ) → IsSettled s → All (λ set. settled_set s set ≡ set) (own_sets p s.fog.sets)
own_settled s p is = All-filter (λ set. nat_eq set.seat p) (λ set. settled_set s set ≡ set) s.fog.sets (fixed (settled_set s) s.fog.sets (sets_settled s is))

pub settled_at : (s : Scene) (place : ℕ) (set : Exposure) → IsSettled s → slice_get s.fog.sets place ≡ Some set → settled_set s set ≡ set
settled_at s place set is there =
    let same : Some (settled_set s set) ≡ Some set = ap (option_map (settled_set s)) (sym there) ∙ sym (slice_get-map (settled_set s) s.fog.sets place) ∙ ap (λ sets. slice_get sets place) (sets_settled s is) ∙ there in
    cc

seat_after : (x : Scene) (set : Exposure) (o : Option Grid) → (with_sight x set o).seat ≡ set.seat
seat_after x set None = refl
seat_after x set (Some m) = refl

-- where what the player sees stays, so does what is exposed to it
pub own_stay : (after s : Scene) (p : ℕ) → ((set : Exposure) → set.seat ≡ p → settled_set after set ≡ settled_set s set) → (sets : List Exposure) → own_sets p sets ≡ own_sets p s.fog.sets → IsSettled s
    → All (λ set. settled_set after set ≡ set) (own_sets p sets)
own_stay after s p each sets same is =
    subst (λ (xs : List Exposure). All (λ set. settled_set after set ≡ set) xs) (sym same) (stays (own_sets p s.fog.sets) (own_settled s p is) (filter_passes (λ set. nat_eq set.seat p) s.fog.sets))
  where
    stays : (xs : List Exposure) → All (λ set. settled_set s set ≡ set) xs → All (λ set. nat_eq set.seat p ≡ true) xs → All (λ set. settled_set after set ≡ set) xs
    stays [] all own = All-nil (λ set. settled_set after set ≡ set)
    stays (set ∷ xs) all own =
        All-cons (λ set. settled_set after set ≡ set) set xs
        (each set (same_number set.seat p (All-head (λ set. nat_eq set.seat p ≡ true) set xs own)) ∙ All-head (λ set. settled_set s set ≡ set) set xs all)
        (stays xs (All-tail (λ set. settled_set s set ≡ set) set xs all) (All-tail (λ set. nat_eq set.seat p ≡ true) set xs own))

-- and what other players see isn't in its view
own_found : (after : Scene) (p : ℕ) (sets : List Exposure) → All (λ set. settled_set after set ≡ set) (own_sets p sets) → (name : List ℕ) → cells_at (map (settled_set after) sets) p name ≡ cells_at sets p name
own_found after p sets own name =
    found_own p name (map (settled_set after) sets)
    ∙ ap (λ xs. cells_at xs p name) (own_map p (settled_set after) (λ set. seat_after after set (map_of set.map after.maps)) sets ∙ map_fixed (settled_set after) (own_sets p sets) own)
    ∙ sym (found_own p name sets)

pub own_view : (after : Scene) (p : ℕ) → All (λ set. settled_set after set ≡ set) (own_sets p after.fog.sets) → view_of (settled after) p ≡ view_of after p
unfolding settled
own_view after p own = same_under_fog (record after.fog { sets = map (settled_set after) after.fog.sets }) after p (own_found after p after.fog.sets own)

-- ---- tokens change that the player meets neither before nor after

module _ (p : ℕ) (s after : Scene) (w : Token → Token) (is : after ≡ record s { tokens = map w s.tokens })
    (each : (t : Token) → (w t ≡ t) ⊎ ((meets s p t ≡ false) × (meets after p (w t) ≡ false))) where
  abbrev Tells : Token → Token → Type 0
  Tells t u = (u ≡ t) ⊎ ((meets s p t ≡ false) × (meets after p u ≡ false))

  abbrev changed_to : Scene
  changed_to = record s { tokens = map w s.tokens }

  -- ---- what the player sees

  plays_same : (t u : Token) → Tells t u → plays p u ≡ plays p t
  plays_same t u (inl same) = ap (plays p) same
  plays_same t u (inr none) = unplayed after p u none.1 ∙ sym (unplayed s p t none.0)

  on_same : (name : List ℕ) (t u : Token) → Tells t u → (is_on name u && plays p u) ≡ (is_on name t && plays p t)
  on_same name t u (inl same) = ap (λ x. is_on name x && plays p x) same
  on_same name t u (inr none) =
      ap (λ b. is_on name u && b) (unplayed after p u none.1) ∙ and_false (is_on name u)
      ∙ sym (ap (λ b. is_on name t && b) (unplayed s p t none.0) ∙ and_false (is_on name t))

  near_same : (name : List ℕ) → has_token_on changed_to p name ≡ has_token_on s p name
  near_same name = any-map (λ t. is_on name t && plays p t) (λ t. is_on name t && plays p t) w (λ t. on_same name t (w t) (each t)) s.tokens

  lamp_same : (name : List ℕ) → has_token_on s p name ≡ true → (t u : Token) → Tells t u → lamp_on s name u ≡ lamp_on s name t
  lamp_same name near t u (inl same) = ap (lamp_on s name) same
  lamp_same name near t u (inr none) =
      no_lamp changed_to p name u (ap (λ (x : Scene). meets x p u) (sym is) ∙ none.1) (near_same name ∙ near) ∙ sym (no_lamp s p name t none.0 near)

  lamps-map : (name : List ℕ) → has_token_on s p name ≡ true → (ts : List Token) → filter_map (lamp_on s name) (map w ts) ≡ filter_map (lamp_on s name) ts
  lamps-map name near [] = refl
  lamps-map name near (t ∷ ts) = λ i. cons_option (lamp_same name near t (w t) (each t) i) (lamps-map name near ts i)

  sees_with_same : (m : Grid) (t : Token) (o : Option Sight) (x y : ℕ) → has_token_on s p m.name ≡ true → sees_with changed_to m t o x y ≡ sees_with s m t o x y
  sees_with_same m t None x y near = refl
  sees_with_same m t (Some sight) x y near = ap (λ lamps. sees_test m.mode m.walls lamps sight (eye_of t) x y) (lamps-map m.name near s.tokens)

  shows_same : (m : Grid) (x y : ℕ) → has_token_on s p m.name ≡ true → (t u : Token) → Tells t u → shows_cell changed_to p m x y u ≡ shows_cell s p m x y t
  shows_same m x y near t u (inl same) =
      ap (shows_cell changed_to p m x y) same ∙ (λ i. is_on m.name t && (owns s p t && (m.shown && sees_with_same m t (named_type s.sights t.sight) x y near i)))
  shows_same m x y near t u (inr none) =
      shows_none changed_to p m x y u (ap (λ b. is_on m.name u && b) (unplayed after p u none.1) ∙ and_false (is_on m.name u))
      ∙ sym (shows_none s p m x y t (ap (λ b. is_on m.name t && b) (unplayed s p t none.0) ∙ and_false (is_on m.name t)))

  test_same : (m : Grid) (x y : ℕ) → visible_test changed_to p m x y ≡ visible_test s p m x y
  test_same m x y = by (has_token_on s p m.name) refl
    where
      by : (near : Bool) → has_token_on s p m.name ≡ near → visible_test changed_to p m x y ≡ visible_test s p m x y
      by true e = any-map (shows_cell changed_to p m x y) (shows_cell s p m x y) w (λ t. shows_same m x y e t (w t) (each t)) s.tokens
      by false e = none_seen changed_to p m x y (near_same m.name ∙ e) ∙ sym (none_seen s p m x y e)

  visible_same : (m : Grid) → visible changed_to p m ≡ visible s p m
  unfolding visible
  visible_same m = λ i. cells_where m.walls.extent (λ x y. test_same m x y i)

  -- ---- what is exposed to it, under a fog that has its sets

  abbrev under : Fog → Scene
  under fog = record changed_to { fog = fog }

  visible_under : (fog : Fog) (m : Grid) → visible (under fog) p m ≡ visible s p m
  unfolding visible
  visible_under fog m = visible_same m

  set_stays : (fog : Fog) (set : Exposure) (o : Option Grid) → set.seat ≡ p → with_sight (under fog) set o ≡ with_sight s set o
  set_stays fog set None own = refl
  set_stays fog set (Some m) own =
      ap (λ q. record set { cells = joined set.cells (visible (under fog) q m) }) own ∙ ap (λ cells. record set { cells = joined set.cells cells }) (visible_under fog m)
      ∙ sym (ap (λ q. record set { cells = joined set.cells (visible s q m) }) own)

  settled_under : (fog : Fog) → IsSettled s → own_sets p fog.sets ≡ own_sets p s.fog.sets → All (λ set. settled_set (under fog) set ≡ set) (own_sets p fog.sets)
  settled_under fog settled_before same = own_stay (under fog) s p (λ set own. set_stays fog set (map_of set.map s.maps) own) fog.sets same settled_before

  -- ---- what it is shown

  map_same : (m : Grid) → map_view changed_to p m ≡ map_view s p m
  unfolding exposed
  map_same m = ap (λ cells. record (map_view s p m) { seen = cond (is_gm p) (all_cells m) cells }) (visible_same m)

  uncovered_same : (t : Token) (layer : Layer) (m : Grid) → is_uncovered layer changed_to p t m ≡ is_uncovered layer s p t m
  unfolding exposed
  uncovered_same t TokenLayer m = ap (touches t) (visible_same m)
  uncovered_same t Hidden m = refl
  uncovered_same t Object m = refl
  uncovered_same t Background m = refl

  uncovered_on_same : (t : Token) (o : Option Grid) → is_uncovered_on changed_to p t o ≡ is_uncovered_on s p t o
  uncovered_on_same t None = refl
  uncovered_on_same t (Some m) = ap (λ b. m.shown && (t.visible && b)) (uncovered_same t t.layer m)

  has_same : (t : Token) → has_token changed_to p t ≡ has_token s p t
  unfolding is_shown
  has_same t = ap (λ b. is_gm p || (owns s p t || b)) (uncovered_on_same t (map_of t.map s.maps))

  tokens_same : is_gm p ≡ false → (ts : List Token) → map (token_view changed_to p) (filter (has_token changed_to p) (map w ts)) ≡ map (token_view s p) (filter (has_token s p) ts)
  tokens_same player [] = refl
  tokens_same player (t ∷ ts) = by (w t) (each t) (tokens_same player ts)
    where
      on : (b : Bool) → map (token_view changed_to p) (filter (has_token changed_to p) (map w ts)) ≡ map (token_view s p) (filter (has_token s p) ts)
          → map (token_view changed_to p) (cond b (t ∷ filter (has_token changed_to p) (map w ts)) (filter (has_token changed_to p) (map w ts))) ≡ map (token_view s p) (cond b (t ∷ filter (has_token s p) ts) (filter (has_token s p) ts))
      on true rest = λ i. token_view s p t ∷ rest i
      on false rest = rest

      by : (u : Token) → Tells t u → map (token_view changed_to p) (filter (has_token changed_to p) (map w ts)) ≡ map (token_view s p) (filter (has_token s p) ts)
          → map (token_view changed_to p) (cond (has_token changed_to p u) (u ∷ filter (has_token changed_to p) (map w ts)) (filter (has_token changed_to p) (map w ts)))
          ≡ map (token_view s p) (cond (has_token s p t) (t ∷ filter (has_token s p) ts) (filter (has_token s p) ts))
      by u (inl same) rest =
          ap (λ x. map (token_view changed_to p) (cond (has_token changed_to p x) (x ∷ filter (has_token changed_to p) (map w ts)) (filter (has_token changed_to p) (map w ts)))) same
          ∙ ap (λ b. map (token_view changed_to p) (cond b (t ∷ filter (has_token changed_to p) (map w ts)) (filter (has_token changed_to p) (map w ts)))) (has_same t)
          ∙ on (has_token s p t) rest
      by u (inr none) rest =
          ap (λ b. map (token_view changed_to p) (cond b (u ∷ filter (has_token changed_to p) (map w ts)) (filter (has_token changed_to p) (map w ts)))) (not_had changed_to p u player (ap (λ (x : Scene). meets x p u) (sym is) ∙ none.1))
          ∙ rest
          ∙ sym (ap (λ b. map (token_view s p) (cond b (t ∷ filter (has_token s p) ts) (filter (has_token s p) ts))) (not_had s p t player none.0))

  shown_same : is_gm p ≡ false → view_of changed_to p ≡ view_of s p
  unfolding view_of
  shown_same player = λ i. record {
    gm = is_gm p;
    lights = map light_text s.lights;
    sights = map sight_text s.sights;
    maps = map (λ m. map_same m i) (filter (has_map p) s.maps);
    tokens = tokens_same player s.tokens i;
    fight = fight_in (is_gm p) (tokens_same player s.tokens i) s.fight;
  }

  settled_shown : (fog : Fog) → is_gm p ≡ false → IsSettled s → own_sets p fog.sets ≡ own_sets p s.fog.sets → view_of (settled (record after { fog = fog })) p ≡ view_of s p
  settled_shown fog player settled_before same =
      ap (λ (x : Scene). view_of (settled (record x { fog = fog })) p) is
      ∙ own_view (under fog) p (settled_under fog settled_before same)
      ∙ same_under_fog fog changed_to p (λ name. found_own p name fog.sets ∙ ap (λ sets. cells_at sets p name) same ∙ sym (found_own p name s.fog.sets))
      ∙ shown_same player

-- ---- the tokens of one id

-- the change leaves each token its id
abbrev pub KeepsId : TokenId → (Token → Token) → Type 0
KeepsId id f = (t : Token) → has_id id (f t) ≡ has_id id t

module _ (p : ℕ) (s : Scene) (id : TokenId) (f : Token → Token) (keeps : KeepsId id f) where
  -- the change, of tokens that the player meets neither before nor after
  abbrev if_apart : Token → Token
  if_apart t = cond (has_id id t && (not (meets s p t) && not (meets (with_token id f s) p (f t)))) (f t) t

  apart_tells : (t : Token) → (if_apart t ≡ t) ⊎ ((meets s p t ≡ false) × (meets (with_token id f s) p (if_apart t) ≡ false))
  apart_tells t = by (has_id id t) (meets s p t) (meets (with_token id f s) p (f t)) refl refl
    where
      by : (b c d : Bool) → meets s p t ≡ c → meets (with_token id f s) p (f t) ≡ d
          → (cond (b && (not c && not d)) (f t) t ≡ t) ⊎ ((meets s p t ≡ false) × (meets (with_token id f s) p (cond (b && (not c && not d)) (f t) t) ≡ false))
      by true false false e g = inr (e, g)
      by true false true e g = inl refl
      by true true d e g = inl refl
      by false c d e g = inl refl

  changed_is : (ts : List Token) → list_any (λ t. has_id id t && meets s p t) ts ≡ false → list_any (λ t. has_id id t && meets (with_token id f s) p t) (changed id f ts) ≡ false → changed id f ts ≡ map if_apart ts
  changed_is [] none then = refl
  changed_is (t ∷ ts) none then = by (has_id id t) (meets s p t) (meets (with_token id f s) p (f t)) refl refl parts.0 (changed_is ts parts.1 parts_then.1)
    where
      parts : ((has_id id t && meets s p t) ≡ false) × (list_any (λ t. has_id id t && meets s p t) ts ≡ false)
      parts = or_none (has_id id t && meets s p t) (list_any (λ t. has_id id t && meets s p t) ts) none

      parts_then : ((has_id id (cond (has_id id t) (f t) t) && meets (with_token id f s) p (cond (has_id id t) (f t) t)) ≡ false) × (list_any (λ t. has_id id t && meets (with_token id f s) p t) (changed id f ts) ≡ false)
      parts_then = or_none (has_id id (cond (has_id id t) (f t) t) && meets (with_token id f s) p (cond (has_id id t) (f t) t)) (list_any (λ t. has_id id t && meets (with_token id f s) p t) (changed id f ts)) then

      met_then : has_id id t ≡ true → meets (with_token id f s) p (f t) ≡ false
      met_then e =
          sym (ap (λ b. b && meets (with_token id f s) p (f t)) (keeps t ∙ e))
          ∙ ap (λ x. has_id id x && meets (with_token id f s) p x) (sym (ap (λ b. cond b (f t) t) e)) ∙ parts_then.0

      by : (b c d : Bool) → has_id id t ≡ b → meets (with_token id f s) p (f t) ≡ d → (b && c) ≡ false → changed id f ts ≡ map if_apart ts
          → cond b (f t) t ∷ changed id f ts ≡ cond (b && (not c && not d)) (f t) t ∷ map if_apart ts
      by true false false e g apart rest = ap (λ us. f t ∷ us) rest
      by true false true e g apart rest = let never : true ≡ false = sym g ∙ met_then e in cc
      by true true d e g apart rest = let never : true ≡ false = apart in cc
      by false c d e g apart rest = ap (λ us. t ∷ us) rest

  module _ (none : meets_any s id p ≡ false) (then : meets_any (with_token id f s) id p ≡ false) where
    is_map : with_token id f s ≡ record s { tokens = map if_apart s.tokens }
    is_map = ap (λ ts. record s { tokens = ts }) (changed_is s.tokens none then)

    pub still_seen : (m : Grid) → visible (with_token id f s) p m ≡ visible s p m
    still_seen m = ap (λ (x : Scene). visible x p m) is_map ∙ visible_same p s (with_token id f s) if_apart is_map apart_tells m

    pub still_shown : (fog : Fog) → IsSettled s → own_sets p fog.sets ≡ own_sets p s.fog.sets → is_gm p ≡ false → view_of (settled (record (with_token id f s) { fog = fog })) p ≡ view_of s p
    still_shown fog settled_before same player = settled_shown p s (with_token id f s) if_apart is_map apart_tells fog player settled_before same

    pub still_settled : (fog : Fog) → IsSettled s → own_sets p fog.sets ≡ own_sets p s.fog.sets → (place : ℕ) (set : Exposure) → slice_get fog.sets place ≡ Some set → set.seat ≡ p
        → settled_set (record (with_token id f s) { fog = fog }) set ≡ set
    still_settled fog settled_before same place set there own =
        ap (λ (x : Scene). settled_set (record x { fog = fog }) set) is_map
        ∙ own_at (λ set. settled_set (record s { tokens = map if_apart s.tokens; fog = fog }) set ≡ set) p fog.sets place set
        (settled_under p s (with_token id f s) if_apart is_map apart_tells fog settled_before same) there (is_number set.seat p own)
