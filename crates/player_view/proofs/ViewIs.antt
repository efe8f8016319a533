-- What a seat sees is a view.
use Rattle.std.proofs.Common.{◌≡◌, ℕ, zero, suc, ◌+◌, ◌<◌, ◌≤◌, inl, inr, Bool, true, false, cond, ◌&&◌, ◌||◌, List, Some, None, map, refl, sym, ◌∙◌, ap, subst, arith, get_or}
use Rattle.std.specs.Prelude.{nat_le, Option, option_map, is_some, All, IfSome, IfOk, Result, Ok, Err}
use Rattle.std.specs.Str.{bytes_eq}
use Rattle.std.specs.Ordering.{nat_cmp, is_lt}
use Rattle.std.specs.Cmp.{nat_cmp_is}
use Rattle.std.specs.declared.cmp.Ordering.TheVariants.{Less}
use Rattle.std.specs.FinMap.Entries.{below_all}
use Rattle.std.specs.List.{filter, find, range_with_len}
use Rattle.std.proofs.lemmas.Bool.Decides.{nat_tests}
use Rattle.std.proofs.lemmas.List.Elements.{All-map, All-filter, filter_passes}
use Rattle.std.proofs.lemmas.List.Sums.{AllPass-from_list_all}
use Rattle.names.specs.Tag.{tag_cmp}
use Rattle.names.specs.TokenId.{id_cmp}
use Rattle.cells.specs.Cells.{Cells, IsToldByCells}
use Rattle.cells.proofs.SetLaws.{IsToldByCells-cells_where}
use Rattle.fog_book.specs.Exposures.{exposed_of}
use Rattle.maps.specs.Maps.{Grid, map_of, has_name}
use Rattle.tokens.specs.declared.token.Token.{Token}
use Rattle.tokens.specs.Owners.{has_owner}
use Rattle.views.specs.declared.view.View.{View}
use Rattle.views.specs.Keys.{name_of, map_name, token_id}
use Rattle.views.specs.Order.{keyed, in_order}
use Rattle.views.specs.Views.{IsView, IsMapView, IsTokenView, itself}
use Rattle.views.proofs.InOrder.{both, in_order-entries, in_order-map, in_order-filter, each_found, at-find}
use Rattle.views.proofs.Orders.{tag_total, tag_ties_turned}
use Rattle.world.specs.Scene.{Scene}
use Rattle.world.specs.Rules.{IsScene, IsSetOf, belongs, fits_on, is_player}
use Rattle.player_view.specs.Relations.{IsShownMap, IsShown}
use Rattle.player_view.specs.Sight.{owns, visible}
use Rattle.player_view.specs.Shown.{exposed, set_or_none, is_shown}
use Rattle.player_view.specs.Tables.{HasTables}
use Rattle.player_view.specs.View.{is_gm, has_map, has_token, all_cells, seen_by, exposed_to, light_text, sight_text, map_view, token_view, owned_part, gm_part, view_of}
use Rattle.player_view.proofs.Alike.{find-map-filter}
use Rattle.player_view.proofs.LetterOrder.{letters_rise, letters_there}
use Rattle.player_view.proofs.SceneLemmas.{first, set_there}
use Rattle.player_view.proofs.Tells.{shown_tells}
use Rattle.player_view.proofs.ViewLemmas.{kept, find-both}

-- ---- maps

-- each map is the one of its name
pub each_map_there : (s : Scene) → HasTables s → All (λ m. map_of m.name s.maps ≡ Some m) s.maps
each_map_there s are =
    λ k d h.
    let m : Grid = get_or s.maps k d in
    sym (at-find tag_cmp (λ g. g.name) m.name (λ g. bytes_eq g.name m.name) (λ g. tag_ties_turned m.name g.name) s.maps)
    ∙ each_found tag_cmp (λ g. g.name) tag_total s.maps are.maps k d h

player : (seats q : ℕ) → is_gm q ≡ false → q ≤ seats → is_player seats q ≡ true
player seats q e h = both (nat_le 1 q) (nat_le q seats) (grind (arith, nat_tests)) (grind (arith, nat_tests))

-- what is exposed to a player of a map that is there
exposed_set : (s : Scene) (q : ℕ) (m : Grid) → IsScene s → map_of m.name s.maps ≡ Some m → q ≤ s.fog.players → is_gm q ≡ false
    → IsToldByCells (exposed s q m) × ((exposed s q m).extent ≡ m.walls.extent)
unfolding exposed
exposed_set s q m is there seat gm = here (exposed_of s.fog q m.name) (set_there s m.name q m is there (player s.fog.players q gm seat))
  where
    here : (o : Option Cells) → IsSetOf m.walls.extent o → IsToldByCells (set_or_none m.walls.extent o) × ((set_or_none m.walls.extent o).extent ≡ m.walls.extent)
    here None h = absurd h
    here (Some cells) h = (h.1, h.0)

exposed_told : (s : Scene) (q : ℕ) (m : Grid) → IsScene s → map_of m.name s.maps ≡ Some m → q ≤ s.fog.players
    → IsToldByCells (exposed_to s q m) × ((exposed_to s q m).extent ≡ m.walls.extent)
exposed_told s q m is there seat = here (is_gm q) (exposed_set s q m is there seat)
  where
    here : (b : Bool) → (b ≡ false → IsToldByCells (exposed s q m) × ((exposed s q m).extent ≡ m.walls.extent))
        → IsToldByCells (cond b (all_cells m) (exposed s q m)) × ((cond b (all_cells m) (exposed s q m)).extent ≡ m.walls.extent)
    here true i = (IsToldByCells-cells_where m.walls.extent (λ x y. true), refl)
    here false i = i refl

seen_told : (s : Scene) (q : ℕ) (m : Grid) → IsToldByCells (seen_by s q m) × ((seen_by s q m).extent ≡ m.walls.extent)
unfolding visible
seen_told s q m = here (is_gm q)
  where
    here : (b : Bool) → IsToldByCells (cond b (all_cells m) (visible s q m)) × ((cond b (all_cells m) (visible s q m)).extent ≡ m.walls.extent)
    here true = (IsToldByCells-cells_where m.walls.extent (λ x y. true), refl)
    here false = (IsToldByCells-cells_where m.walls.extent _, refl)

flag : {X : Type 0} (b : Bool) (x : X) → is_some (cond b (Some x) None) ≡ b
flag true x = refl
flag false x = refl

map_is : (s : Scene) (q : ℕ) (m : Grid) → IsScene s → q ≤ s.fog.players → map_of m.name s.maps ≡ Some m → IsMapView (is_gm q) (map_view s q m)
map_is s q m is seat there =
    let seen = seen_told s q m in
    let shown = exposed_told s q m is there seat in
    record {
      shown = flag (is_gm q) m.shown;
      seen = seen.0;
      seen_size = seen.1;
      exposed = shown.0;
      exposed_size = shown.1;
      ordered = letters_rise m (exposed_to s q m);
      letters = letters_there m (exposed_to s q m);
    }

-- ---- tokens

under : (k a n : ℕ) → k < a → below_all nat_cmp k (keyed nat_cmp itself (range_with_len a n)) ≡ true
under k a zero l = refl
under k a (suc n) l = both _ _ (ap is_lt (sym (nat_cmp_is k a Less l))) (under k (a + 1) n (omega arith))

range_rises : (a n : ℕ) → in_order nat_cmp itself (range_with_len a n) ≡ true
range_rises a zero = refl
range_rises a (suc n) = both _ _ (under a (a + 1) n (omega arith)) (range_rises (a + 1) n)

owners_rise : (owners n : ℕ) → in_order nat_cmp itself (filter (has_owner owners) (range_with_len 0 n)) ≡ true
owners_rise owners n = in_order-filter nat_cmp itself (has_owner owners) (range_with_len 0 n) (range_rises 0 n)

-- the map of that name in a seat's view
pub map_in_view : (s : Scene) (q : ℕ) (name : List ℕ) → HasTables s
    → find (λ v. bytes_eq v.name name) (map (map_view s q) (filter (has_map q) s.maps)) ≡ option_map (map_view s q) (kept (has_map q) (map_of name s.maps))
map_in_view s q name are =
    find-map-filter (λ v. bytes_eq v.name name) (map_view s q) (has_map q) (λ m. has_map q m && has_name name m) (λ m. refl) s.maps
    ∙ ap (option_map (map_view s q)) (find-both (has_map q) name s.maps are.maps)

shown_map : (s : Scene) (q : ℕ) (t : Token) → IsShown s q t → IsShownMap s t.map
shown_map s q t (inl own) = own.map
shown_map s q t (inr in_open) = record { map = in_open.map; there = in_open.there; shown = in_open.shown }

-- a token's map is in the view
stands : (s : Scene) (q : ℕ) (t : Token) → belongs s t ≡ true → has_token s q t ≡ true → is_some (option_map (map_view s q) (kept (has_map q) (map_of t.map s.maps))) ≡ true
stands s q t on shown = by (map_of t.map s.maps) refl (first _ _ on)
  where
    kept_some : (m : Grid) → has_map q m ≡ true → is_some (option_map (map_view s q) (cond (has_map q m) (Some m) None)) ≡ true
    kept_some m h = ap (λ b. is_some (option_map (map_view s q) (cond b (Some m) None))) h

    seen_map : (m : Grid) → map_of t.map s.maps ≡ Some m → (b : Bool) → (b || is_shown s q t) ≡ true → (b || m.shown) ≡ true
    seen_map m e true h = refl
    seen_map m e false h =
        let k = shown_map s q t ((shown_tells s q t).0 h) in
        let there = k.there in
        let same : k.map ≡ m = cc in
        ap (λ (g : Grid). g.shown) (sym same) ∙ k.shown

    by : (o : Option Grid) → map_of t.map s.maps ≡ o → fits_on (option_map (λ m. m.walls.extent) o) t.cell t.size ≡ true
        → is_some (option_map (map_view s q) (kept (has_map q) o)) ≡ true
    by None e h = cc
    by (Some m) e h = kept_some m (seen_map m e (is_gm q) shown)

token_is : (s : Scene) (q : ℕ) (t : Token) → HasTables s → belongs s t ≡ true → has_token s q t ≡ true
    → IsTokenView (is_gm q) (map (map_view s q) (filter (has_map q) s.maps)) (token_view s q t)
token_is s q t are on shown = record {
  map = ap is_some (at-find tag_cmp map_name t.map (λ v. bytes_eq v.name t.map) (λ v. tag_ties_turned t.map v.name) (map (map_view s q) (filter (has_map q) s.maps)) ∙ map_in_view s q t.map are) ∙ stands s q t on shown;
  owned = λ gm. whole (is_gm q) (owns s q t) gm;
  whole = flag (is_gm q) (gm_part t);
  owners = ascending (is_gm q);
}
  where
    whole : (g o : Bool) → g ≡ true → is_some (cond (g || o) (Some (owned_part t)) None) ≡ true
    whole true o e = refl
    whole false o e = cc

    ascending : (g : Bool) → IfSome (cond g (Some (gm_part t)) None) (λ part. in_order nat_cmp itself part.owners ≡ true)
    ascending true = owners_rise t.owners 33
    ascending false = tt

-- ---- the whole

pub view_is : (s : Scene) (q : ℕ) → HasTables s → q ≤ s.fog.players → IsView (view_of s q)
unfolding view_of
view_is s q are seat = record {
  lights = in_order-map tag_cmp (λ l. l.0) name_of light_text (λ l. refl) s.lights ∙ in_order-entries tag_cmp s.lights ∙ are.lights;
  sights = in_order-map tag_cmp (λ l. l.0) name_of sight_text (λ l. refl) s.sights ∙ in_order-entries tag_cmp s.sights ∙ are.sights;
  maps = in_order-map tag_cmp (λ g. g.name) map_name (map_view s q) (λ m. refl) (filter (has_map q) s.maps)
      ∙ in_order-filter tag_cmp (λ g. g.name) (has_map q) s.maps are.maps;
  tokens = in_order-map id_cmp (λ t. t.id) token_id (token_view s q) (λ t. refl) (filter (has_token s q) s.tokens)
      ∙ in_order-filter id_cmp (λ t. t.id) (has_token s q) s.tokens are.tokens;
  each_map = All-map (IsMapView (is_gm q)) (map_view s q) (filter (has_map q) s.maps)
      (All-filter (has_map q) (λ m. IsMapView (is_gm q) (map_view s q m)) s.maps
      (λ k d h. map_is s q (get_or s.maps k d) are.fitting seat (each_map_there s are k d h)));
  each_token = All-map (IsTokenView (is_gm q) (map (map_view s q) (filter (has_map q) s.maps))) (token_view s q) (filter (has_token s q) s.tokens)
      (λ k d h.
      token_is s q (get_or (filter (has_token s q) s.tokens) k d) are
      (All-filter (has_token s q) (λ t. belongs s t ≡ true) s.tokens (AllPass-from_list_all (belongs s) s.tokens are.fitting.tokens) k d h)
      (filter_passes (has_token s q) s.tokens k d h));
}

pub view_is_if_ok : {E : Type 0} (s : Scene) (q : ℕ) (r : Result View E) → HasTables s → q ≤ s.fog.players → IfOk r (λ v. v ≡ view_of s q) → IfOk r IsView
view_is_if_ok s q (Ok v) are seat e = subst IsView (sym e) (view_is s q are seat)
view_is_if_ok s q (Err fault) are seat e = tt
