-- What the test of sizes says.
use Rattle.std.proofs.Common.{◌≡◌, true, false, Bool, ◌&&◌, ◌||◌, ◌==◌, List, [], ◌∷◌, refl, sym, ◌∙◌, arith, get_or}
use Rattle.std.specs.Prelude.{All, not}
use Rattle.std.specs.List.{list_all}
use Rattle.std.specs.Str.{bytes_eq}
use Rattle.std.proofs.lemmas.Slice.Eq.{bytes_eq-Decides}
use Rattle.std.proofs.lemmas.List.Elements.{All-cons}
use Rattle.std.proofs.lemmas.Bool.{eqb-true}
use Rattle.cells.specs.Cells.{Extent}
use Rattle.names.specs.Tag.{tag_cmp}
use Rattle.views.specs.declared.view.MapView.{MapView}
use Rattle.views.specs.Keys.{map_name}
use Rattle.view_change.specs.Views.{fits_test, HaveOneSize, FitsAmong}
use Rattle.views.proofs.Orders.{tag_total, tag_anti}
use Rattle.views.specs.declared.view.View.{View}
use Rattle.views.specs.Views.{IsView, IsMapView, FollowsView}
use Rattle.view_change.proofs.KeyedLemmas.{at-all, at-key}

all_of : {X : Type 0} (p : X → Bool) (P : X → Type 0) → ((x : X) → p x ≡ true → P x) → (xs : List X) → list_all p xs ≡ true → All P xs
all_of p P gives [] e = λ k d h. absurd (omega arith)
all_of p P gives (x ∷ xs) e = here (p x) (list_all p xs) refl e (all_of p P gives xs)
  where
    here : (a b : Bool) → p x ≡ a → (a && b) ≡ true → (b ≡ true → All P xs) → All P (x ∷ xs)
    here true b f e rest = All-cons P x xs (gives x f) (rest e)
    here false b f e rest = cc

one_size : (m n : MapView) → fits_test m n ≡ true → n.name ≡ m.name → HaveOneSize m n
one_size m n e name = here (bytes_eq n.name m.name) (n.seen.extent.w == m.seen.extent.w) (n.seen.extent.h == m.seen.extent.h) (n.exposed.extent.w == m.exposed.extent.w) (n.exposed.extent.h == m.exposed.extent.h)
    ((bytes_eq-Decides n.name m.name).1 name) refl refl refl refl e
  where
    same : (a b : Extent) → a.w ≡ b.w → a.h ≡ b.h → a ≡ b
    same a b p q = λ i. record { w = p i; h = q i }

    here : (t a b c d : Bool) → t ≡ true → (n.seen.extent.w == m.seen.extent.w) ≡ a → (n.seen.extent.h == m.seen.extent.h) ≡ b → (n.exposed.extent.w == m.exposed.extent.w) ≡ c → (n.exposed.extent.h == m.exposed.extent.h) ≡ d
        → (not t || ((a && b) && (c && d))) ≡ true → HaveOneSize m n
    here false a b c d t p q r s e = cc
    here true true true true true t p q r s e = record {
      seen = same n.seen.extent m.seen.extent (eqb-true _ _ p) (eqb-true _ _ q);
      exposed = same n.exposed.extent m.exposed.extent (eqb-true _ _ r) (eqb-true _ _ s);
    }
    here true false b c d t p q r s e = cc
    here true true false c d t p q r s e = cc
    here true true true false d t p q r s e = cc
    here true true true true false t p q r s e = cc

pub all_fit : (before after : List MapView) → list_all (λ n. list_all (λ m. fits_test m n) before) after ≡ true → All (FitsAmong before) after
all_fit before after e =
    all_of (λ n. list_all (λ m. fits_test m n) before) (FitsAmong before)
    (λ n f m found. one_size m n (at-all tag_cmp map_name tag_total tag_anti (λ m. fits_test m n ≡ true) n.name before m (all_of (λ m. fits_test m n) (λ m. fits_test m n ≡ true) (λ m g. g) before f) found)
    (tag_anti n.name m.name (at-key tag_cmp map_name tag_total tag_anti n.name before m found))) after e

-- of two views of which the second may follow the first, each map that is in both has one size
pub follows_fits : (a b : View) → IsView a → IsView b → FollowsView a b → All (FitsAmong a.maps) b.maps
follows_fits a b fa fb f =
    λ k d h m found.
    let n : MapView = get_or b.maps k d in
    let old : IsMapView a.gm m = at-all tag_cmp map_name tag_total tag_anti (IsMapView a.gm) n.name a.maps m fa.each_map found in
    let new : IsMapView b.gm n = fb.each_map k d h in
    let name : n.name ≡ m.name = tag_anti n.name m.name (at-key tag_cmp map_name tag_total tag_anti n.name a.maps m found) in
    let size : m.size ≡ n.size =
    at-all tag_cmp map_name tag_total tag_anti (λ z. All (λ n. z.name ≡ n.name → z.size ≡ n.size) b.maps) n.name a.maps m f.sizes found k d h (sym name) in
    record {
      seen = new.seen_size ∙ sym size ∙ sym old.seen_size;
      exposed = new.exposed_size ∙ sym size ∙ sym old.exposed_size;
    }
