-- The laws of changes.
use Rattle.std.proofs.Common.{◌≡◌, ℕ, ◌<◌, Bool, true, false, cond, ◌&&◌, ◌||◌, List, [], ◌∷◌, Some, None, refl, sym, ◌∙◌, ap, subst, arith}
use Rattle.std.specs.Prelude.{◌↔◌, Option, is_some, is_none, not, unwrap_or, nat_lt, All}
use Rattle.std.specs.Bool.{Decides}
use Rattle.std.specs.Ordering.{eq_by_cmp, is_eq}
use Rattle.std.specs.Cmp.{tied_itself}
use Rattle.std.specs.Str.{bytes_eq}
use Rattle.std.proofs.lemmas.Bool.Decides.{nat_tests, Decides-and, Decides-eqb, Decides-like, same_from_decides}
use Rattle.std.specs.List.{filter}
use Rattle.cells.specs.Cell.{is_at}
use Rattle.cells.specs.Cells.{Extent, Cells, has, cells_where, IsToldByCells}
use Rattle.cells.specs.declared.cell.Cell.{Cell}
use Rattle.cells.proofs.SetLaws.{has-cells_where, cells_where_same}
use Rattle.names.specs.Tag.{tag_cmp}
use Rattle.names.specs.TokenId.{id_cmp, id_eq}
use Rattle.views.specs.declared.view.MapView.{MapView}
use Rattle.views.specs.declared.view.View.{View}
use Rattle.views.specs.Keys.{Named, Letter, cell_cmp, name_of, cell_of, map_name, change_name, token_id}
use Rattle.std.specs.Option.{option_eq, option_or}
use Rattle.views.specs.Same.{same_bool, same_mode, same_letter, same_light, same_bytes, same_fight, same_map, same_token, same_view}
use Rattle.views.specs.Order.{at, in_order}
use Rattle.view_change.specs.Keyed.{put_all, applied, gone_from, is_among, puts_from}
use Rattle.views.specs.Views.{at_name, letter_at, is_on_map, IsMapView, IsView, FollowsView}
use Rattle.view_change.specs.Change.{minus, shown_change, map_change, map_with, difference, change_of, apply_change}
use Rattle.views.specs.Lettered.{has_letter}
use Rattle.views.proofs.SameLemmas.{Tells, option_eq-tells, same_bool-tells, same_mode-tells, same_letter-tells, same_light-tells, same_bytes-tells, same_fight-tells, same_map-tells, same_token-tells, same_view-tells}
use Rattle.views.proofs.Orders.{tag_total, id_total, cell_total}
use Rattle.views.proofs.Orders.{tag_anti, tag_ties, id_anti, id_ties, cell_anti}
use Rattle.views.proofs.Orders.{eq_is}
use Rattle.view_change.proofs.KeyedLemmas.{kept, differs, applied-puts, is_among-gone_from, at-puts, at-key, at-all}
use Rattle.view_change.proofs.DeltaLemmas.{patched-deltas}
use lib.Dec.{T}

pub T_of : (b : Bool) → b ≡ true → T b
T_of true e = tt
T_of false e = cc

lt_of : (m n : ℕ) → nat_lt m n ≡ true → m < n
lt_of m n e = grind (arith, nat_tests)

lt_is : (m n : ℕ) → m < n → nat_lt m n ≡ true
lt_is m n e = grind (arith, nat_tests)

-- ---- the parts of a map

part-gives : {A : Type 0} (same : A → A → Bool) → Tells same → (x y : A) → unwrap_or (cond (same x y) None (Some y)) x ≡ y
part-gives same tells x y = here (same x y) (tells x y)
  where
    here : (b : Bool) → Decides b (x ≡ y) → unwrap_or (cond b None (Some y)) x ≡ y
    here true d = d.0 refl
    here false d = refl

shown_change-gives : (x y : Option Bool) → is_some x ≡ is_some y → option_or (shown_change x y) x ≡ y
shown_change-gives x y s = here (option_eq same_bool x y) (option_eq-tells same_bool same_bool-tells x y)
  where
    olds : (x y : Option Bool) → is_some x ≡ is_some y → option_or y x ≡ y
    olds x (Some b) s = refl
    olds None None s = refl
    olds (Some a) None s = cc

    here : (b : Bool) → Decides b (x ≡ y) → option_or (cond b None y) x ≡ y
    here true d = d.0 refl
    here false d = olds x y s

bits : (a b : Bool) → ((a && not (a && not b)) || (b && not a)) ≡ b
bits true true = refl
bits true false = refl
bits false true = refl
bits false false = refl

sets-give : (size : Extent) (a b : Cells) → a.extent ≡ size → b.extent ≡ size → IsToldByCells b → cells_where size (λ x y. (has a x y && not (has (minus a b) x y)) || has (minus b a) x y) ≡ b
sets-give size a b ea eb told =
    cells_where_same size (λ x y. (has a x y && not (has (minus a b) x y)) || has (minus b a) x y) (λ x y. has b x y)
    (λ x y hx hy. (λ i. (has a x y && not (left x y hx hy i)) || right x y hx hy i) ∙ bits (has a x y) (has b x y))
    ∙ ap (λ e. cells_where e (λ x y. has b x y)) (sym eb) ∙ sym told
  where
    left : (x y : ℕ) → x < size.w → y < size.h → has (minus a b) x y ≡ (has a x y && not (has b x y))
    left x y hx hy = has-cells_where a.extent (λ x y. has a x y && not (has b x y)) x y (subst (λ e. x < e.w) (sym ea) hx) (subst (λ e. y < e.h) (sym ea) hy)

    right : (x y : ℕ) → x < size.w → y < size.h → has (minus b a) x y ≡ (has b x y && not (has a x y))
    right x y hx hy = has-cells_where b.extent (λ x y. has b x y && not (has a x y)) x y (subst (λ e. x < e.w) (sym eb) hx) (subst (λ e. y < e.h) (sym eb) hy)

-- ---- letters

-- a cell has a letter where one is found at it
has_letter-found : (x y : ℕ) (letters : List Letter) → has_letter letters x y ≡ is_some (letter_at (record { x = x; y = y }) letters)
has_letter-found x y [] = refl
has_letter-found x y (letter ∷ letters) = here (is_at letter.0 x y) (eq_by_cmp cell_cmp (record { x = x; y = y }) letter.0) (same_from_decides _ _ left right) (has_letter-found x y letters)
  where
    cell : Cell
    cell = record { x = x; y = y }

    left : Decides (is_at letter.0 x y) (cell ≡ letter.0)
    left = Decides-like _ (λ p. λ i. record { x = sym p.0 i; y = sym p.1 i }) (λ e. (sym (ap (λ z. z.x) e), sym (ap (λ z. z.y) e))) (Decides-and _ _ (Decides-eqb letter.0.x x) (Decides-eqb letter.0.y y))

    right : Decides (eq_by_cmp cell_cmp cell letter.0) (cell ≡ letter.0)
    right = (λ e. cell_anti cell letter.0 (eq_is _ e), λ e. subst (λ z. eq_by_cmp cell_cmp cell z ≡ true) e (ap is_eq (tied_itself cell_total cell)))

    here : (s t : Bool) → s ≡ t → has_letter letters x y ≡ is_some (letter_at cell letters) → (s || has_letter letters x y) ≡ is_some (cond t (Some letter) (letter_at cell letters))
    here true true e i = refl
    here true false e i = cc
    here false true e i = cc
    here false false e i = i

module _ (gm : Bool) (a b : MapView) (fa : IsMapView gm a) (fb : IsMapView gm b) (size : a.size ≡ b.size) where
  on_map : (cell : Cell) → is_some (letter_at cell a.letters) ≡ true → (cell.x < a.size.w) × (cell.y < a.size.h)
  on_map cell s = (lt_of _ _ (first _ _ (first _ _ both)), lt_of _ _ (second _ _ (first _ _ both)))
    where
      both : (is_on_map a.size cell && has a.exposed cell.x cell.y) ≡ true
      both = sym (fa.letters cell) ∙ s

      first : (x y : Bool) → (x && y) ≡ true → x ≡ true
      first true y e = refl
      first false y e = cc

      second : (x y : Bool) → (x && y) ≡ true → y ≡ true
      second true y e = e
      second false y e = cc

  hidden_at : (x y : ℕ) → x < a.size.w → y < a.size.h → has (minus a.exposed b.exposed) x y ≡ (has a.exposed x y && not (has b.exposed x y))
  hidden_at x y hx hy = has-cells_where a.exposed.extent (λ x y. has a.exposed x y && not (has b.exposed x y)) x y (subst (λ e. x < e.w) (sym fa.exposed_size) hx) (subst (λ e. y < e.h) (sym fa.exposed_size) hy)

  -- on the map the letters are those of the exposed cells
  letter_of : (m : MapView) → IsMapView gm m → (cell : Cell) → cell.x < m.size.w → cell.y < m.size.h → is_some (letter_at cell m.letters) ≡ has m.exposed cell.x cell.y
  letter_of m f cell hx hy = f.letters cell ∙ (λ i. (lt_is cell.x m.size.w hx i && lt_is cell.y m.size.h hy i) && has m.exposed cell.x cell.y)

  hidden_is : (cell : Cell) → is_some (letter_at cell a.letters) ≡ true → has (minus a.exposed b.exposed) cell.x cell.y ≡ is_none (letter_at cell b.letters)
  hidden_is cell s =
      let m = on_map cell s in
      hidden_at cell.x cell.y m.0 m.1
      ∙ (λ i. sym (letter_of a fa cell m.0 m.1) i && not (sym (letter_of b fb cell (subst (λ e. cell.x < e.w) size m.0) (subst (λ e. cell.y < e.h) size m.1)) i))
      ∙ (λ i. s i && not (is_some (letter_at cell b.letters))) ∙ none_is (letter_at cell b.letters)
    where
      none_is : (o : Option Letter) → not (is_some o) ≡ is_none o
      none_is None = refl
      none_is (Some l) = refl

  letters-give : applied cell_cmp cell_of (λ cell. has (minus a.exposed b.exposed) cell.x cell.y) (puts_from same_letter a.letters b.letters) a.letters ≡ b.letters
  letters-give = applied-puts cell_cmp cell_of cell_total cell_anti same_letter same_letter-tells (λ cell. has (minus a.exposed b.exposed) cell.x cell.y) a.letters b.letters (T_of _ fa.ordered) (T_of _ fb.ordered) hidden_is

  is_put : (A B : Option Letter) (e f : Bool) → is_some A ≡ e → is_some B ≡ f → ((e && not (e && not f)) || is_some (kept (differs same_letter A) B)) ≡ f
  is_put A B e f p q = subst (λ e. ((e && not (e && not f)) || is_some (kept (differs same_letter A) B)) ≡ f) p (subst (λ f. ((is_some A && not (is_some A && not f)) || is_some (kept (differs same_letter A) B)) ≡ f) q (here A B))
    where
      here : (A B : Option Letter) → ((is_some A && not (is_some A && not (is_some B))) || is_some (kept (differs same_letter A) B)) ≡ is_some B
      here None None = refl
      here None (Some l) = refl
      here (Some k) None = refl
      here (Some k) (Some l) = refl

  exposed-gives : cells_where a.size (λ x y. (has a.exposed x y && not (has (minus a.exposed b.exposed) x y)) || has_letter (puts_from same_letter a.letters b.letters) x y) ≡ b.exposed
  exposed-gives =
      cells_where_same a.size _ (λ x y. has b.exposed x y) (λ x y hx hy.
      let cell : Cell = record { x = x; y = y } in
      (λ i. (has a.exposed x y && not (hidden_at x y hx hy i)) || has_letter-found x y (puts_from same_letter a.letters b.letters) i)
      ∙ (λ i. (has a.exposed x y && not (has a.exposed x y && not (has b.exposed x y))) || is_some (at-puts cell_cmp cell_of cell_total cell_anti same_letter same_letter-tells cell a.letters b.letters (T_of _ fa.ordered) (T_of _ fb.ordered) i))
      ∙ is_put (letter_at cell a.letters) (letter_at cell b.letters) (has a.exposed x y) (has b.exposed x y) (letter_of a fa cell hx hy) (letter_of b fb cell (subst (λ e. x < e.w) size hx) (subst (λ e. y < e.h) size hy)))
      ∙ ap (λ e. cells_where e (λ x y. has b.exposed x y)) (size ∙ sym fb.exposed_size) ∙ sym fb.exposed

  pub map_with-change : a.name ≡ b.name → map_with a (map_change a b) ≡ b
  map_with-change name = λ i. record {
    name = name i;
    size = size i;
    mode = part-gives same_mode same_mode-tells a.mode b.mode i;
    shown = shown_change-gives a.shown b.shown (fa.shown ∙ sym fb.shown) i;
    seen = sets-give a.size a.seen b.seen fa.seen_size (fb.seen_size ∙ sym size) fb.seen i;
    exposed = exposed-gives i;
    letters = letters-give i;
  }

-- ---- views

without_none : {A : Type 0} (xs : List A) → filter (λ x. true) xs ≡ xs
without_none [] = refl
without_none (x ∷ xs) = ap (λ rest. x ∷ rest) (without_none xs)

types-give : {V : Type 0} (same : Named V → Named V → Bool) → Tells same → (a b : List (Named V)) → in_order tag_cmp name_of a ≡ true → in_order tag_cmp name_of b ≡ true → ((q : List ℕ) → is_some (at tag_cmp name_of q a) ≡ true → is_some (at tag_cmp name_of q b) ≡ true) → put_all tag_cmp name_of (puts_from same a b) a ≡ b
types-give {V} same tells a b g h still =
    ap (put_all tag_cmp name_of (puts_from same a b)) (sym (without_none a))
    ∙ applied-puts tag_cmp name_of tag_total tag_anti same tells (λ k. false) a b (T_of _ g) (T_of _ h) (λ q s. there (at tag_cmp name_of q b) (still q s))
  where
    there : (B : Option (Named V)) → is_some B ≡ true → false ≡ is_none B
    there None e = cc
    there (Some x) e = refl

same_names : (q : List ℕ) (a b : View) (x y : MapView) → at_name map_name q a.maps ≡ Some x → at_name map_name q b.maps ≡ Some y → x.name ≡ y.name
same_names q a b x y ex ey = sym (tag_anti q x.name (at-key tag_cmp map_name tag_total tag_anti q a.maps x ex)) ∙ tag_anti q y.name (at-key tag_cmp map_name tag_total tag_anti q b.maps y ey)

same_sizes : (q : List ℕ) (a b : View) → FollowsView a b → (x y : MapView) → at_name map_name q a.maps ≡ Some x → at_name map_name q b.maps ≡ Some y → x.name ≡ y.name → x.size ≡ y.size
same_sizes q a b f x y ex ey name =
    at-all tag_cmp map_name tag_total tag_anti (λ n. x.name ≡ n.name → x.size ≡ n.size) q b.maps y
    (at-all tag_cmp map_name tag_total tag_anti (λ m. All (λ n. m.name ≡ n.name → m.size ≡ n.size) b.maps) q a.maps x f.sizes ex) ey name

-- a view with its change is the view after it
pub gives_after : (a b : View) → IsView a → IsView b → FollowsView a b → apply_change a (difference a b) ≡ b
unfolding apply_change difference
gives_after a b fa fb f = λ i. record {
  gm = f.gm i;
  lights = types-give same_light same_light-tells a.lights b.lights fa.lights fb.lights f.lights i;
  sights = types-give same_bytes same_bytes-tells a.sights b.sights fa.sights fb.sights f.sights i;
  maps = patched-deltas tag_cmp map_name change_name tag_total tag_anti same_map same_map-tells map_change map_with (λ x y. refl) (λ x d. refl) bytes_eq tag_ties
      (is_among bytes_eq (gone_from bytes_eq map_name a.maps b.maps)) a.maps b.maps (T_of _ fa.maps) (T_of _ fb.maps)
      (λ q s. is_among-gone_from tag_cmp map_name tag_total tag_anti bytes_eq tag_ties q a.maps b.maps s)
      (λ q x y ex ey. let name = same_names q a b x y ex ey in
      map_with-change b.gm x y (subst (λ g. IsMapView g x) f.gm (at-all tag_cmp map_name tag_total tag_anti (IsMapView a.gm) q a.maps x fa.each_map ex)) (at-all tag_cmp map_name tag_total tag_anti (IsMapView b.gm) q b.maps y fb.each_map ey)
      (same_sizes q a b f x y ex ey name) name) i;
  tokens = applied-puts id_cmp token_id id_total id_anti same_token same_token-tells (is_among id_eq (gone_from id_eq token_id a.tokens b.tokens)) a.tokens b.tokens (T_of _ fa.tokens) (T_of _ fb.tokens)
      (λ q s. is_among-gone_from id_cmp token_id id_total id_anti id_eq id_ties q a.tokens b.tokens s) i;
  fight = part-gives (option_eq same_fight) (option_eq-tells same_fight same_fight-tells) a.fight b.fight i;
}

-- there is no change exactly between equal views
pub none_if_same : (a b : View) → change_of a b ≡ None ↔ (a ≡ b)
unfolding change_of
none_if_same a b = (there (same_view a b) (same_view-tells a b), back)
  where
    there : (t : Bool) → Decides t (a ≡ b) → cond t None (Some (difference a b)) ≡ None → a ≡ b
    there true d e = d.0 refl
    there false d e = cc

    back : a ≡ b → change_of a b ≡ None
    back e = ap (λ t. cond t None (Some (difference a b))) ((same_view-tells a b).1 e)
