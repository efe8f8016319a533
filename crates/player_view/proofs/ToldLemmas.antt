-- A player's view has what the relations say.
use Rattle.std.proofs.Common.{◌≡◌, ℕ, ◌<◌, ◌≤◌, Bool, true, false, cond, ◌&&◌, ◌||◌, List, [], ◌∷◌, Some, None, map, refl, sym, ◌∙◌, ap, subst, get_or}
use Rattle.std.specs.Prelude.{◌↔◌, Option, option_map, is_some, All, Any, IfOk, Result, Ok, Err}
use Rattle.std.specs.Bool.{Decides}
use Rattle.std.specs.Str.{bytes_eq}
use Rattle.std.specs.List.{filter, find, list_any}
use Rattle.std.proofs.lemmas.Bool.Decides.{Decides-and, Decides-at, Decides-like}
use Rattle.std.proofs.lemmas.List.Elements.{All-map, All-filter}
use Rattle.std.proofs.lemmas.Slice.Eq.{bytes_eq-Decides}
use Rattle.names.specs.declared.token_id.TokenId.{TokenId}
use Rattle.names.specs.TokenId.{id_cmp, id_eq}
use Rattle.names.proofs.SameIds.{id_eq-Decides}
use Rattle.cells.specs.Cells.{has}
use Rattle.initiative.specs.declared.entry.Entry.{Entry}
use Rattle.maps.specs.Maps.{Grid, map_of}
use Rattle.tokens.specs.declared.token.Token.{Token}
use Rattle.tokens.specs.Tokens.{token_of}
use Rattle.views.specs.declared.view.MapView.{MapView}
use Rattle.views.specs.declared.view.TokenView.{TokenView}
use Rattle.views.specs.Same.{same_entry}
use Rattle.views.specs.declared.view.View.{View}
use Rattle.views.proofs.SameLemmas.{same_entry-tells}
use Rattle.views.proofs.InOrder.{each_found, at-find}
use Rattle.views.proofs.Orders.{id_total, id_ties_turned}
use Rattle.vision.proofs.SeenLemmas.{Decides-any}
use Rattle.world.specs.Scene.{Scene}
use Rattle.player_view.specs.Fights.{entry_text, fight_in, list_in, stands_in}
use Rattle.player_view.specs.Relations.{IsShownMap, IsVisible, IsShown, Owns}
use Rattle.player_view.specs.Sight.{is_shown_map, owns, visible}
use Rattle.player_view.specs.Shown.{is_shown}
use Rattle.player_view.specs.Tables.{HasTables}
use Rattle.player_view.specs.Told.{IsTold, IsShownEntry, HasSight, HasOwned}
use Rattle.player_view.specs.View.{is_gm, has_map, has_token, all_cells, seen_by, map_view, token_view, owned_part, gm_part, tokens_of, view_of}
use Rattle.player_view.proofs.Alike.{not_gm}
use Rattle.player_view.proofs.FightLemmas.{entry_in, is_entry, is_entry-tells, listed}
use Rattle.player_view.proofs.LetterOrder.{any_kept}
use Rattle.player_view.proofs.Tells.{shown_tells, has_visible_tells, map_tells, owns_tells}
use Rattle.player_view.proofs.ViewIs.{each_map_there, map_in_view}
use Rattle.player_view.proofs.ViewLemmas.{kept}

-- two tests that agree tell the same
same_fact : {P Q : Type 0} (a b : Bool) → a ≡ b → Decides a P → Decides b Q → P ↔ Q
same_fact a b e p q = (λ x. q.0 (sym e ∙ p.1 x), λ y. p.0 (e ∙ q.1 y))

found_any : {X : Type 0} (p : X → Bool) (xs : List X) → is_some (find p xs) ≡ list_any p xs
found_any p [] = refl
found_any {X} p (x ∷ xs) = here (p x) (found_any p xs)
  where
    here : (b : Bool) → is_some (find p xs) ≡ list_any p xs → is_some (cond b (Some x) (find p xs)) ≡ (b || list_any p xs)
    here true i = refl
    here false i = i

-- each token is the one of its id
each_token_there : (s : Scene) → HasTables s → All (λ t. token_of t.id s.tokens ≡ Some t) s.tokens
each_token_there s are =
    λ k d h.
    let t : Token = get_or s.tokens k d in
    sym (at-find id_cmp (λ u. u.id) t.id (λ u. id_eq u.id t.id) (λ u. id_ties_turned t.id u.id) s.tokens)
    ∙ each_found id_cmp (λ u. u.id) id_total s.tokens are.tokens k d h

module _ (s : Scene) (q : ℕ) (are : HasTables s) (gm : is_gm q ≡ false) where
  token_tells : (t : Token) → Decides (has_token s q t) (IsShown s q t)
  token_tells t = Decides-at _ _ (ap (λ b. b || is_shown s q t) gm) (shown_tells s q t)

  tokens_tell : (id : TokenId) → Any (λ t. t.id ≡ id) (map (token_view s q) (filter (has_token s q) s.tokens)) ↔ Any (λ t. (t.id ≡ id) × IsShown s q t) s.tokens
  tokens_tell id =
      same_fact _ _ (any_kept (λ v. id_eq v.id id) (token_view s q) (has_token s q) s.tokens)
      (Decides-any (λ v. id_eq v.id id) (λ v. v.id ≡ id) (λ v. id_eq-Decides v.id id) (map (token_view s q) (filter (has_token s q) s.tokens)))
      (Decides-any (λ t. has_token s q t && id_eq t.id id) (λ t. (t.id ≡ id) × IsShown s q t)
      (λ t. Decides-like _ (λ h. (h.1, h.0)) (λ h. (h.1, h.0)) (Decides-and _ _ (token_tells t) (id_eq-Decides t.id id))) s.tokens)

  stands_tells : (id : TokenId) → Decides (stands_in (is_gm q) (tokens_of s q) id) (Any (λ t. (t.id ≡ id) × IsShown s q t) s.tokens)
  stands_tells id =
      Decides-like _ (tokens_tell id).0 (tokens_tell id).1
      (Decides-at _ _ (ap (λ b. b || list_any (λ t. id_eq t.id id) (tokens_of s q)) gm) (Decides-any (λ v. id_eq v.id id) (λ v. v.id ≡ id) (λ v. id_eq-Decides v.id id) (tokens_of s q)))

  entries_tell : (e : Entry) → Any (λ x. x ≡ entry_text e) (list_in (fight_in (is_gm q) (tokens_of s q) s.fight)) ↔ IsShownEntry s q e
  entries_tell e =
      same_fact _ _ (ap (list_any (λ x. same_entry x (entry_text e))) (listed (is_gm q) (tokens_of s q) s.fight) ∙ entry_in (is_gm q) (tokens_of s q) e s.fight.list)
      (Decides-any (λ x. same_entry x (entry_text e)) (λ x. x ≡ entry_text e) (λ x. same_entry-tells x (entry_text e)) (list_in (fight_in (is_gm q) (tokens_of s q) s.fight)))
      (Decides-and _ _ (Decides-any (is_entry e) (λ f. f ≡ e) (is_entry-tells e) s.fight.list) (stands_tells e.id))

  shown_kept : (o : Option Grid) → is_some (option_map (map_view s q) (kept (has_map q) o)) ≡ is_shown_map o
  shown_kept None = refl
  shown_kept (Some m) = ap (λ b. is_some (option_map (map_view s q) (cond (b || m.shown) (Some m) None))) gm ∙ here m.shown
    where
      here : (b : Bool) → is_some (option_map (map_view s q) (cond b (Some m) None)) ≡ b
      here true = refl
      here false = refl

  maps_tell : (name : List ℕ) → Any (λ m. m.name ≡ name) (map (map_view s q) (filter (has_map q) s.maps)) ↔ IsShownMap s name
  maps_tell name =
      same_fact _ _ (sym (found_any (λ v. bytes_eq v.name name) (map (map_view s q) (filter (has_map q) s.maps))) ∙ ap is_some (map_in_view s q name are) ∙ shown_kept (map_of name s.maps))
      (Decides-any (λ v. bytes_eq v.name name) (λ v. v.name ≡ name) (λ v. bytes_eq-Decides v.name name) (map (map_view s q) (filter (has_map q) s.maps)))
      (map_tells s name)

  seen_tells : (m : Grid) (x y : ℕ) → x < m.walls.extent.w → y < m.walls.extent.h → (has (seen_by s q m) x y ≡ true) ↔ IsVisible s q m x y
  seen_tells m x y hx hy = Decides-at _ _ (ap (λ b. has (cond b (all_cells m) (visible s q m)) x y) gm) (has_visible_tells s q m x y hx hy)

  seen_at : (m : Grid) → map_of m.name s.maps ≡ Some m → HasSight s q (map_view s q m)
  seen_at m there g found =
      let same : m ≡ g = cc in
      subst (λ z. (x y : ℕ) → x < z.walls.extent.w → y < z.walls.extent.h → (has (seen_by s q m) x y ≡ true) ↔ IsVisible s q z x y) same (seen_tells m)

  owned_tells : (t : Token) → Decides (is_some (token_view s q t).owned) (Owns s q t)
  owned_tells t = Decides-at _ _ (ap (λ b. is_some (cond (b || owns s q t) (Some (owned_part t)) None)) gm ∙ here (owns s q t)) (owns_tells s q t)
    where
      here : (b : Bool) → is_some (cond b (Some (owned_part t)) None) ≡ b
      here true = refl
      here false = refl

  owned_at : (t : Token) → token_of t.id s.tokens ≡ Some t → HasOwned s q (token_view s q t)
  owned_at t there token found =
      let same : t ≡ token = cc in
      subst (λ z. (is_some (token_view s q t).owned ≡ true) ↔ Owns s q z) same (owned_tells t)

told : (s : Scene) (q : ℕ) → HasTables s → 1 ≤ q → IsTold s q (view_of s q)
unfolding view_of
told s q are player =
    let gm : is_gm q ≡ false = not_gm q player in
    record {
      player = gm;
      tokens = tokens_tell s q are gm;
      maps = maps_tell s q are gm;
      seen = All-map (HasSight s q) (map_view s q) (filter (has_map q) s.maps)
          (All-filter (has_map q) (λ m. HasSight s q (map_view s q m)) s.maps (λ k d h. seen_at s q are gm (get_or s.maps k d) (each_map_there s are k d h)));
      owned = All-map (HasOwned s q) (token_view s q) (filter (has_token s q) s.tokens)
          (All-filter (has_token s q) (λ t. HasOwned s q (token_view s q t)) s.tokens (λ k d h. owned_at s q are gm (get_or s.tokens k d) (each_token_there s are k d h)));
      fight = entries_tell s q are gm;
      no_whole = All-map (λ (t : TokenView). t.whole ≡ None) (token_view s q) (filter (has_token s q) s.tokens)
          (λ k d h. ap (λ b. cond b (Some (gm_part (get_or (filter (has_token s q) s.tokens) k d))) None) gm);
      no_flag = All-map (λ (m : MapView). m.shown ≡ None) (map_view s q) (filter (has_map q) s.maps)
          (λ k d h. ap (λ b. cond b (Some ((get_or (filter (has_map q) s.maps) k d).shown)) None) gm);
    }

pub told_if_ok : {E : Type 0} (s : Scene) (q : ℕ) (r : Result View E) → HasTables s → IfOk r (λ v. v ≡ view_of s q) → 1 ≤ q → IfOk r (IsTold s q)
told_if_ok s q (Ok v) are e player = subst (IsTold s q) (sym e) (told s q are player)
told_if_ok s q (Err fault) are e player = tt
