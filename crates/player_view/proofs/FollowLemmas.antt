-- Views follow where scenes do.
use Rattle.std.proofs.Common.{◌≡◌, ℕ, Bool, true, false, cond, List, [], ◌∷◌, Some, map, refl, sym, ◌∙◌, ap, get_or}
use Rattle.std.specs.Prelude.{option_map, is_some, All}
use Rattle.std.specs.List.{filter}
use Rattle.std.specs.Ordering.{eq_by_cmp}
use Rattle.std.proofs.lemmas.List.Elements.{All-map, All-filter}
use Rattle.names.specs.Tag.{tag_cmp}
use Rattle.maps.specs.Maps.{Grid, map_of}
use Rattle.type_table.specs.Types.{type_of}
use Rattle.views.specs.Keys.{Named, name_of}
use Rattle.views.specs.Views.{FollowsView, at_name}
use Rattle.views.specs.declared.view.MapView.{MapView}
use Rattle.world.specs.Scene.{Scene}
use Rattle.world.specs.Rules.{size_of}
use Rattle.player_view.specs.Follows.{Follows}
use Rattle.player_view.specs.Tables.{HasTables}
use Rattle.player_view.specs.View.{has_map, light_text, sight_text, map_view, view_of}
use Rattle.player_view.proofs.ViewIs.{each_map_there}

-- a type is in the view where it is in the scene
type_in_view : {V W : Type 0} (f : List ℕ × V → Named W) → ((t : List ℕ × V) → (f t).0 ≡ t.0) → (name : List ℕ) (types : List (List ℕ × V))
    → is_some (at_name name_of name (map f types)) ≡ is_some (type_of name types)
type_in_view f kept name [] = refl
type_in_view {V} {W} f kept name (t ∷ types) =
    ap (λ k. is_some (cond (eq_by_cmp tag_cmp name k) (Some (f t)) (at_name name_of name (map f types)))) (kept t)
    ∙ here (eq_by_cmp tag_cmp name t.0) (type_in_view f kept name types)
  where
    here : (b : Bool) → is_some (at_name name_of name (map f types)) ≡ is_some (type_of name types)
        → is_some (cond b (Some (f t)) (at_name name_of name (map f types))) ≡ is_some (cond b (Some t.1) (type_of name types))
    here true i = refl
    here false i = i

size_there : (s : Scene) (m : Grid) → map_of m.name s.maps ≡ Some m → size_of m.name s.maps ≡ Some m.walls.extent
size_there s m e = ap (option_map (λ (g : Grid). g.walls.extent)) e

one_size : (s t : Scene) → Follows s t → (m n : Grid) → map_of m.name s.maps ≡ Some m → map_of n.name t.maps ≡ Some n → m.name ≡ n.name → m.walls.extent ≡ n.walls.extent
one_size s t follows m n there here name =
    let before : size_of m.name t.maps ≡ Some m.walls.extent = follows.sizes m.name m.walls.extent (size_there s m there) in
    let after : size_of m.name t.maps ≡ Some n.walls.extent = ap (λ k. size_of k t.maps) name ∙ size_there t n here in
    cc

pub views_follow : (s t : Scene) → HasTables s → HasTables t → Follows s t → (q : ℕ) → FollowsView (view_of s q) (view_of t q)
unfolding view_of
views_follow s t are still follows q = record {
  gm = refl;
  sizes = All-map (λ (a : MapView). All (λ (b : MapView). a.name ≡ b.name → a.size ≡ b.size) (map (map_view t q) (filter (has_map q) t.maps))) (map_view s q) (filter (has_map q) s.maps)
      (All-filter (has_map q) (λ m. All (λ (b : MapView). m.name ≡ b.name → m.walls.extent ≡ b.size) (map (map_view t q) (filter (has_map q) t.maps))) s.maps
      (λ k d h.
      All-map (λ (b : MapView). (get_or s.maps k d).name ≡ b.name → (get_or s.maps k d).walls.extent ≡ b.size) (map_view t q) (filter (has_map q) t.maps)
      (All-filter (has_map q) (λ n. (get_or s.maps k d).name ≡ n.name → (get_or s.maps k d).walls.extent ≡ n.walls.extent) t.maps
      (λ j e i. one_size s t follows (get_or s.maps k d) (get_or t.maps j e) (each_map_there s are k d h) (each_map_there t still j e i)))));
  lights = λ name there. type_in_view light_text (λ l. refl) name t.lights ∙ follows.lights name (sym (type_in_view light_text (λ l. refl) name s.lights) ∙ there);
  sights = λ name there. type_in_view sight_text (λ l. refl) name t.sights ∙ follows.sights name (sym (type_in_view sight_text (λ l. refl) name s.sights) ∙ there);
}
