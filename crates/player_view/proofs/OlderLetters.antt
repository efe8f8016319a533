-- Letters that are taken from older views of maps.
use Rattle.std.proofs.Common.{◌≡◌, ◌≢◌, ℕ, Bool, true, false, cond, List, [], ◌∷◌, Some, refl, sym, ◌∙◌, ap, subst, get_or}
use Rattle.std.specs.Prelude.{Option, All, IfSome, option_map, unwrap_or}
use Rattle.std.specs.List.{filter, find}
use Rattle.std.specs.Str.{bytes_eq}
use Rattle.std.proofs.lemmas.List.Elements.{All-map, All-filter, All-head, All-tail}
use Rattle.std.proofs.lemmas.Slice.Eq.{bytes_eq-Decides}
use Rattle.cells.specs.Cells.{Cells}
use Rattle.maps.specs.Maps.{Grid, changed, map_of}
use Rattle.maps.proofs.Laws.{KeepsName, map_of-changed, map_of_other-changed}
use Rattle.views.specs.Views.{KeepLetters, KeepsLetters}
use Rattle.views.specs.declared.view.MapView.{MapView}
use Rattle.world.specs.Scene.{Scene}
use Rattle.player_view.specs.Lettered.{HasLetters, HaveLetters, LettersStay, SameLetters}
use Rattle.player_view.specs.Tables.{HasTables}
use Rattle.player_view.specs.View.{has_map, exposed_to, letters_in, map_view, view_of}
use Rattle.player_view.proofs.ViewIs.{each_map_there}

-- ---- the older view of a map

has_first : (maps : List Grid) (m : Grid) (v : MapView) (rest : Option MapView) (b : Bool) → bytes_eq v.name m.name ≡ b → map_of m.name maps ≡ Some m → HasLetters maps v
    → IfSome rest (λ w. w.letters ≡ letters_in m w.exposed) → IfSome (cond b (Some v) rest) (λ w. w.letters ≡ letters_in m w.exposed)
has_first maps m v rest true e there has then = has m (ap (λ name. map_of name maps) ((bytes_eq-Decides v.name m.name).0 e) ∙ there)
has_first maps m v rest false e there has then = then

found_has : (maps : List Grid) (m : Grid) (older : List MapView) → map_of m.name maps ≡ Some m → HaveLetters maps older
    → IfSome (find (λ (v : MapView). bytes_eq v.name m.name) older) (λ v. v.letters ≡ letters_in m v.exposed)
found_has maps m [] there have = tt
found_has maps m (v ∷ older) there have =
    has_first maps m v (find (λ (w : MapView). bytes_eq w.name m.name) older) (bytes_eq v.name m.name) refl there
    (All-head (HasLetters maps) v older have) (found_has maps m older there (All-tail (HasLetters maps) v older have))

pub older_has : (maps : List Grid) (m : Grid) (older : List MapView) (o : Option MapView) → map_of m.name maps ≡ Some m → HaveLetters maps older
    → o ≡ find (λ (v : MapView). bytes_eq v.name m.name) older → IfSome o (λ v. v.letters ≡ letters_in m v.exposed)
older_has maps m older o there have is = subst (λ found. IfSome found (λ (v : MapView). v.letters ≡ letters_in m v.exposed)) (sym is) (found_has maps m older there have)

-- ---- the views of scenes whose maps have the same letters

same_map : (a b : Grid) → Some a ≡ Some b → a ≡ b
same_map a b e = ap (λ o. unwrap_or o a) e

pub same_maps : (before after : List Grid) → after ≡ before → SameLetters before after
same_maps before after same name m n cells had has = ap (λ k. letters_in k cells) (same_map n m (sym has ∙ ap (map_of name) same ∙ had))

-- one map is changed, but for its letters
pub same_but : (f : Grid → Grid) → KeepsName f → ((m : Grid) (cells : Cells) → letters_in (f m) cells ≡ letters_in m cells) → (name : List ℕ) (maps : List Grid)
    → SameLetters maps (changed name f maps)
same_but f keeps letters name maps other m n cells had has = by (bytes_eq other name) refl
  where
    by : (b : Bool) → bytes_eq other name ≡ b → letters_in n cells ≡ letters_in m cells
    by true e =
        let here : other ≡ name = (bytes_eq-Decides other name).0 e in
        let now : Some n ≡ Some (f m) =
        sym has ∙ ap (λ k. map_of k (changed name f maps)) here ∙ map_of-changed f keeps name maps ∙ ap (option_map f) (ap (λ k. map_of k maps) (sym here) ∙ had) in
        ap (λ k. letters_in k cells) (same_map n (f m) now) ∙ letters m cells
    by false e =
        let apart : other ≢ name = λ same. (let no : true ≡ false = sym ((bytes_eq-Decides other name).1 same) ∙ e in cc) in
        ap (λ k. letters_in k cells) (same_map n m (sym has ∙ map_of_other-changed f keeps name other apart maps ∙ had))

had_letters : (s : Scene) (maps : List Grid) (q : ℕ) → HasTables s → SameLetters s.maps maps → HaveLetters maps (view_of s q).maps
unfolding view_of
had_letters s maps q are same =
    All-map (HasLetters maps) (map_view s q) (filter (has_map q) s.maps)
    (All-filter (has_map q) (λ m. HasLetters maps (map_view s q m)) s.maps
    (λ k d h.
    let m : Grid = get_or s.maps k d in
    λ n there. sym (same m.name m n (exposed_to s q m) (each_map_there s are k d h) there)))

keeps : (maps : List Grid) (a b : MapView) (m : Grid) → map_of b.name maps ≡ Some m → HasLetters maps a → HasLetters maps b → KeepsLetters a b
keeps maps a b m there first second name exposed =
    first m (ap (λ n. map_of n maps) name ∙ there) ∙ ap (letters_in m) exposed ∙ sym (second m there)

keep_letters : (t : Scene) (q : ℕ) (older : List MapView) → HasTables t → HaveLetters t.maps older → KeepLetters older (view_of t q).maps
unfolding view_of
keep_letters t q older are had =
    All-map (λ (b : MapView). All (λ (a : MapView). KeepsLetters a b) older) (map_view t q) (filter (has_map q) t.maps)
    (All-filter (has_map q) (λ m. All (λ (a : MapView). KeepsLetters a (map_view t q m)) older) t.maps
    (λ k d h.
    let m : Grid = get_or t.maps k d in
    λ j e i. keeps t.maps (get_or older j e) (map_view t q m) m (each_map_there t are k d h) (had j e i)
    (λ n there. sym (same_maps t.maps t.maps refl m.name m n (exposed_to t q m) (each_map_there t are k d h) there))))

pub letters_stay : (s t : Scene) → HasTables s → HasTables t → SameLetters s.maps t.maps → LettersStay s t
letters_stay s t before after same =
    let had : (q : ℕ) → HaveLetters t.maps (view_of s q).maps = λ q. had_letters s t.maps q before same in
    record { had = had; kept = λ q. keep_letters t q (view_of s q).maps after (had q) }
