-- A command that puts a token elsewhere changes nothing else of what the game master is shown.
use Rattle.std.proofs.Common.{◌≡◌, ℕ, Bool, true, false, cond, List, [], ◌∷◌, map, Some, None, refl, sym, ◌∙◌, ap, ℤ}
use Rattle.std.specs.Prelude.{Option, option_map}
use Rattle.names.specs.declared.token_id.TokenId.{TokenId}
use Rattle.names.specs.TokenId.{id_eq}
use Rattle.cells.specs.declared.cell.Cell.{Cell}
use Rattle.fog_book.specs.Exposures.{Fog}
use Rattle.initiative.specs.declared.entry.Entry.{Entry}
use Rattle.tokens.specs.declared.token.Token.{Token}
use Rattle.tokens.specs.Tokens.{changed, placed, token_of}
use Rattle.tokens.proofs.LookupLaws.{token_of-changed}
use Rattle.views.specs.declared.view.TokenView.{TokenView}
use Rattle.world.specs.Scene.{Scene, with_token}
use Rattle.player_view.specs.Fights.{entries_in, fight_in, part_with, turn_in}
use Rattle.player_view.specs.View.{light_text, map_view, sight_text, token_view, view_of}
use Rattle.initiative.specs.Fights.{Rounds}
use Rattle.command_json.specs.declared.command.Command.TheVariants.{Move, Place}
use Rattle.command_rules.specs.Places.{cell_at}
use Rattle.command_effects.specs.Effects.{after_steps, cell_after, own_token, scene_by}
use Rattle.command_effects.specs.GmEffects.{gm_scene_by}
use Rattle.command_effects.specs.Settle.{settled}
use Rattle.command_effects.specs.Way.{after_by, exposed_on}
use Rattle.command_effects.proofs.Moves.{may_move}
use Rattle.view_marks.specs.declared.placed.Placed.{Placed}
use Rattle.view_marks.specs.Placed.{placed_as, placed_in, placed_of, placed_token, PlacesOneToken}
use Rattle.view_marks.proofs.Masters.{masters_view}

-- ---- the game master's part of a fight has each entry, whatever tokens are there

turns_same : (a b : List TokenView) (list : List Entry) (turn : Option TokenId) → turn_in true a list turn ≡ turn_in true b list turn
turns_same a b list None = refl
turns_same a b list (Some id) = refl

fights_same : (a b : List TokenView) (fight : Rounds) → fight_in true a fight ≡ fight_in true b fight
unfolding fight_in
fights_same a b fight = ap (λ turn. part_with fight.round turn (entries_in true a fight.list)) (turns_same a b fight.list fight.turn)

-- ---- one token stands elsewhere

one_placed : (id : TokenId) (name : List ℕ) (cell : Cell) (after s : Scene) (t : Token) (b : Bool)
    → token_view after 0 (cond b (placed name cell t) t) ≡ cond b (record (token_view s 0 t) { map = name; cell = cell }) (token_view s 0 t)
one_placed id name cell after s t true = refl
one_placed id name cell after s t false = refl

tokens_placed : (id : TokenId) (name : List ℕ) (cell : Cell) (after s : Scene) (ts : List Token)
    → map (token_view after 0) (changed id (placed name cell) ts) ≡ map (placed_token (record { id = id; map = name; cell = cell })) (map (token_view s 0) ts)
tokens_placed id name cell after s [] = refl
tokens_placed id name cell after s (t ∷ ts) = λ i. one_placed id name cell after s t (id_eq t.id id) i ∷ tokens_placed id name cell after s ts i

-- whatever is exposed
view_placed : (id : TokenId) (name : List ℕ) (cell : Cell) (s : Scene) (fog : Fog)
    → view_of (record s { tokens = changed id (placed name cell) s.tokens; fog = fog }) 0 ≡ placed_in (record { id = id; map = name; cell = cell }) (view_of s 0)
view_placed id name cell s fog =
    let after : Scene = record s { tokens = changed id (placed name cell) s.tokens; fog = fog } in
    masters_view after
    ∙ (λ i. record { gm = true; lights = map light_text s.lights; sights = map sight_text s.sights; maps = map (map_view s 0) s.maps; tokens = tokens_placed id name cell after s s.tokens i; fight = fights_same (map (token_view after 0) (changed id (placed name cell) s.tokens)) (map (token_view s 0) s.tokens) s.fight i })
    ∙ ap (placed_in (record { id = id; map = name; cell = cell })) (sym (masters_view s))

settled_placed : (id : TokenId) (name : List ℕ) (cell : Cell) (s : Scene)
    → view_of (settled (with_token id (placed name cell) s)) 0 ≡ placed_in (record { id = id; map = name; cell = cell }) (view_of s 0)
unfolding settled
settled_placed id name cell s = view_placed id name cell s (settled (with_token id (placed name cell) s)).fog

-- ---- where it stands

stands_there : (id : TokenId) (name : List ℕ) (cell : Cell) (ts : List Token) (p : Placed) → placed_of id (changed id (placed name cell) ts) ≡ Some p → record { id = id; map = name; cell = cell } ≡ p
stands_there id name cell ts p is = by (token_of id ts) (token_of-changed (placed name cell) (λ t. refl) id ts)
  where
    by : (o : Option Token) → token_of id (changed id (placed name cell) ts) ≡ option_map (placed name cell) o → record { id = id; map = name; cell = cell } ≡ p
    by None e = let no : None ≡ Some p = sym (ap (option_map (placed_as id)) e) ∙ is in cc
    by (Some t) e = let same : Some (record { id = id; map = name; cell = cell }) ≡ Some p = sym (ap (option_map (placed_as id)) e) ∙ is in cc

moved_placed : (steps : ℕ) (id : TokenId) (path : List (ℤ × ℤ)) (o : Option Token) (s : Scene) (p : Placed) (found : Token) → o ≡ Some found → placed_of id (after_steps steps id path o s).tokens ≡ Some p
    → view_of (settled (after_steps steps id path o s)) 0 ≡ placed_in p (view_of s 0)
moved_placed steps id path None s p found own is = cc
moved_placed steps id path (Some t) s p found own is =
    settled_placed id t.map (cell_after steps t.cell path) s ∙ ap (λ (x : Placed). placed_in x (view_of s 0)) (stands_there id t.map (cell_after steps t.cell path) s.tokens p is)

-- ---- commands

pub one_token : PlacesOneToken
unfolding after_by scene_by gm_scene_by
one_token steps intents seat s (Move token path) p tables allowed is none =
    let may = may_move s seat token path tables.fitting tables.maps allowed in
    ap (λ way. view_of (settled (exposed_on way (after_steps steps token path (own_token s seat token) s))) 0) none
    ∙ moved_placed steps token path (own_token s seat token) s p may.token may.found is
one_token steps intents seat s (Place token map cell) p tables allowed is none =
    ap (λ way. view_of (settled (exposed_on way (with_token token (placed map (cell_at cell)) s))) 0) none
    ∙ settled_placed token map (cell_at cell) s ∙ ap (λ (x : Placed). placed_in x (view_of s 0)) (stands_there token map (cell_at cell) s.tokens p is)
one_token steps intents seat s c p tables allowed is none = (let no : None ≡ Some p = is in cc)
