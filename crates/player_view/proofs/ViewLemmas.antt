-- Maps by their names.
use Rattle.std.proofs.Common.{◌≡◌, ℕ, zero, suc, Bool, true, false, cond, ◌&&◌, ◌||◌, List, [], ◌∷◌, Some, None, refl, sym, ◌∙◌, ap, subst}
use Rattle.std.specs.Prelude.{Option, option_map, map, slice_get, unwrap_or}
use Rattle.std.specs.List.{find, filter}
use Rattle.std.specs.Ordering.{is_lt}
use Rattle.std.specs.Str.{bytes_eq}
use Rattle.std.specs.FinMap.Entries.{below_all, is_sorted}
use Rattle.names.specs.Tag.{tag_cmp}
use Rattle.names.specs.declared.kinds.Layer.{Layer}
use Rattle.names.specs.declared.kinds.Layer.TheVariants.{Token as TokenLayer, Hidden, Object, Background}
use Rattle.maps.specs.Maps.{Grid, AreMaps, map_of, has_name}
use Rattle.maps.proofs.NameLemmas.{apart, same_name}
use Rattle.tokens.specs.declared.token.Token.{Token}
use Rattle.world.specs.Scene.{Scene}
use Rattle.player_view.specs.Sight.{owns, visible}
use Rattle.player_view.specs.Shown.{exposed, is_uncovered, is_uncovered_on, is_shown}
use Rattle.player_view.specs.View.{is_gm, has_map, has_token, all_cells, map_view}
use Rattle.player_view.specs.Walk.{is_open_by, is_open_in}
use Rattle.player_view.proofs.Alike.{find-map-filter}
use Rattle.player_view.proofs.SceneLemmas.{first, second}

-- ---- one map by its name

abbrev keyed : List Grid → List (List ℕ × Grid)
keyed maps = map (λ m. (m.name, m)) maps

below : (name : List ℕ) (maps : List Grid) (i : ℕ) (m : Grid) → below_all tag_cmp name (keyed maps) ≡ true → slice_get maps i ≡ Some m
    → is_lt (tag_cmp name m.name) ≡ true
below name [] i m h e = cc
below name (x ∷ maps) zero m h e =
    let same : x ≡ m = ap (λ o. unwrap_or o x) e in
    subst (λ (z : Grid). is_lt (tag_cmp name z.name) ≡ true) same (first _ _ h)
below name (x ∷ maps) (suc i) m h e = below name maps i m (second _ _ h) e

-- the map at a place is the one that is found by its name
found_there : (maps : List Grid) (i : ℕ) (m : Grid) → is_sorted tag_cmp (keyed maps) ≡ true → slice_get maps i ≡ Some m
    → map_of m.name maps ≡ Some m
found_there [] i m h e = cc
found_there (x ∷ maps) zero m h e =
    let same : x ≡ m = ap (λ o. unwrap_or o x) e in
    subst (λ (z : Grid). cond (bytes_eq x.name z.name) (Some x) (map_of z.name maps) ≡ Some z) same
    (ap (λ b. cond b (Some x) (map_of x.name maps)) (same_name x.name))
found_there (x ∷ maps) (suc i) m h e =
    ap (λ b. cond b (Some x) (map_of m.name maps)) (other (bytes_eq x.name m.name) refl) ∙ found_there maps i m (second _ _ h) e
  where
    other : (b : Bool) → bytes_eq x.name m.name ≡ b → bytes_eq x.name m.name ≡ false
    other false f = f
    other true f =
        let less = below x.name maps i m (first _ _ h) e in
        let no : bytes_eq m.name m.name ≡ false = apart x.name m.name m.name less f in
        let yes : bytes_eq m.name m.name ≡ true = same_name m.name in
        cc

pub map_there : (maps : List Grid) (i : ℕ) (m : Grid) → AreMaps maps → slice_get maps i ≡ Some m → map_of m.name maps ≡ Some m
map_there maps i m are e = found_there maps i m are.ordered e

-- ---- one map among those that pass

abbrev pub kept : {X : Type 0} → (X → Bool) → Option X → Option X
kept p None = None
kept p (Some x) = cond (p x) (Some x) None

none_named : (p : Grid → Bool) (name first_name : List ℕ) (maps : List Grid) → bytes_eq first_name name ≡ true
    → below_all tag_cmp first_name (keyed maps) ≡ true → find (λ m. p m && has_name name m) maps ≡ None
none_named p name a [] same h = refl
none_named p name a (x ∷ maps) same h =
    ap (λ b. cond (p x && b) (Some x) (find (λ m. p m && has_name name m) maps)) (apart a x.name name (first _ _ h) same)
    ∙ never (p x) ∙ none_named p name a maps same (second _ _ h)
  where
    never : (b : Bool) → cond (b && false) (Some x) (find (λ m. p m && has_name name m) maps) ≡ find (λ m. p m && has_name name m) maps
    never true = refl
    never false = refl

pub find-both : (p : Grid → Bool) (name : List ℕ) (maps : List Grid) → is_sorted tag_cmp (keyed maps) ≡ true
    → find (λ m. p m && has_name name m) maps ≡ kept p (map_of name maps)
find-both p name [] h = refl
find-both p name (x ∷ maps) h = here (p x) (has_name name x) refl refl (find-both p name maps (second _ _ h))
  where
    here : (a b : Bool) → p x ≡ a → has_name name x ≡ b → find (λ m. p m && has_name name m) maps ≡ kept p (map_of name maps)
        → cond (a && b) (Some x) (find (λ m. p m && has_name name m) maps) ≡ kept p (cond b (Some x) (map_of name maps))
    here true true e f i = sym (ap (λ c. cond c (Some x) None) e)
    here true false e f i = i
    here false true e f i = none_named p name x.name maps f (first _ _ h) ∙ sym (ap (λ c. cond c (Some x) None) e)
    here false false e f i = i

-- ---- what shows a token

open_kept : (s : Scene) (p : ℕ) (t : Token) (o : Option Grid) → is_gm p ≡ false
    → (t.visible && is_open_in t (option_map (map_view s p) (kept (has_map p) o))) ≡ is_uncovered_on s p t o
open_kept s p t None e = never t.visible
  where
    never : (b : Bool) → (b && false) ≡ false
    never true = refl
    never false = refl
open_kept s p t (Some m) e = here m.shown (is_gm p) e (layered t.layer)
  where
    layered : (layer : Layer) → is_open_by layer t (map_view s p m) ≡ is_uncovered layer s p t m
    layered TokenLayer = ap (λ b. is_open_by TokenLayer t (record (map_view s p m) { seen = cond b (all_cells m) (visible s p m) })) e
    layered Hidden = refl
    layered Object = ap (λ b. is_open_by Object t (record (map_view s p m) { exposed = cond b (all_cells m) (exposed s p m) })) e
    layered Background = ap (λ b. is_open_by Background t (record (map_view s p m) { exposed = cond b (all_cells m) (exposed s p m) })) e

    swap : (v r : Bool) → (v && false) ≡ false
    swap true r = refl
    swap false r = refl

    here : (shown gm : Bool) → gm ≡ false → is_open_by t.layer t (map_view s p m) ≡ is_uncovered t.layer s p t m
        → (t.visible && is_open_in t (option_map (map_view s p) (cond (gm || shown) (Some m) None)))
        ≡ (shown && (t.visible && is_uncovered t.layer s p t m))
    here shown true g i = cc
    here true false g i = ap (λ b. t.visible && b) i
    here false false g i = swap t.visible true

-- a player's shown tokens by the maps of its view
pub shown_by_maps : (s : Scene) (p : ℕ) (t : Token) → AreMaps s.maps → is_gm p ≡ false
    → (owns s p t || (t.visible && is_open_in t (find (λ v. bytes_eq v.name t.map) (map (map_view s p) (filter (has_map p) s.maps)))))
    ≡ has_token s p t
unfolding is_shown
shown_by_maps s p t are e =
    ap (λ o. owns s p t || (t.visible && is_open_in t o))
    (find-map-filter (λ v. bytes_eq v.name t.map) (map_view s p) (has_map p) (λ m. has_map p m && has_name t.map m) (λ m. refl) s.maps
    ∙ ap (option_map (map_view s p)) (find-both (has_map p) t.map s.maps are.ordered))
    ∙ ap (λ b. owns s p t || b) (open_kept s p t (map_of t.map s.maps) e)
    ∙ ap (λ b. b || (owns s p t || is_uncovered_on s p t (map_of t.map s.maps))) (sym e)
