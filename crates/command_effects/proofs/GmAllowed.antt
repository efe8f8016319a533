-- What a game master's command that breaks no rule may rely on.
use Rattle.std.proofs.Common.{◌≡◌, ℕ, Bool, true, false, cond, eqb, List, Some, None, refl, sym, ap, subst, arith, ℤ}
use Rattle.std.specs.Prelude.{Option, option_map, is_some, IfSome, nat_le}
use Rattle.std.proofs.lemmas.Bool.{and_parts, and_from}
use Rattle.std.proofs.lemmas.Bool.Decides.{nat_tests}
use Rattle.names.specs.declared.kinds.WallKind.{WallKind}
use Rattle.names.specs.declared.kinds.PropClass.TheVariants.{Secret as SecretClass}
use Rattle.names.specs.declared.token_id.TokenId.{TokenId}
use Rattle.maps.specs.Maps.{Grid, map_of, has_map}
use Rattle.tokens.specs.declared.token.Token.{Token}
use Rattle.tokens.specs.Tokens.{token_of, has_token}
use Rattle.tokens.specs.Properties.{is_full_for}
use Rattle.topology.specs.Order.{wall_between}
use Rattle.topology.specs.WallLists.{has_wall, walls_of}
use Rattle.topology.specs.WallFaults.{wall_fault}
use Rattle.command_json.specs.declared.command.Command.{Command}
use Rattle.world.specs.Scene.{Scene}
use Rattle.world.specs.Rules.{size_of, is_player, is_known}
use Rattle.player_view.specs.View.{is_gm}
use Rattle.command_rules.specs.declared.refusal.Refusal.{Refusal}
use Rattle.command_rules.specs.declared.refusal.Refusal.TheVariants.{OffMap, NoSuchSeat, NotAPlayer, NoSuchWall, UnknownSight, PropertyLimit}
use Rattle.command_rules.specs.Places.{Numbers, point_at, point_fits}
use Rattle.command_rules.specs.GmRules.{map_rule, token_rule, player_rule, then_rule, unless, rect_rule, square_rule, ends_fit, wall_rule, unwall_rule, tag_rule, new_token_rule, room_rule, gm_rule, of_wall_fault}
use Rattle.command_rules.specs.Rules.{by_scene}
use Rattle.command_effects.specs.Allowed.{MayStand, MayPlace, MaySet, MayFill, MayWall}

-- ---- parts of rules that aren't broken

pub unless_holds : (test : Bool) (r : Refusal) → unless test r ≡ None → test ≡ true
unless_holds true r h = refl
unless_holds false r h = cc

pub then_parts : (first second : Option Refusal) → then_rule first second ≡ None → (first ≡ None) × (second ≡ None)
then_parts None second h = (refl, h)
then_parts (Some r) second h = cc

-- a fault that is no refusal is none
pub no_fault : {A : Type 0} (f : A → Refusal) (o : Option A) → option_map f o ≡ None → o ≡ None
no_fault f None h = refl
no_fault f (Some a) h = cc

-- the map is there, and its rule isn't broken
pub record OnMap (s : Scene) (name : List ℕ) (rule : Grid → Option Refusal) : Type 0 where
  pub grid : Grid
  pub there : map_of name s.maps ≡ Some grid
  pub kept : rule grid ≡ None

pub on_map : (s : Scene) (name : List ℕ) (rule : Grid → Option Refusal) → map_rule rule (map_of name s.maps) ≡ None → OnMap s name rule
on_map s name rule h = by (map_of name s.maps) refl h
  where
    by : (o : Option Grid) → map_of name s.maps ≡ o → map_rule rule o ≡ None → OnMap s name rule
    by None e h = cc
    by (Some m) e h = record { grid = m; there = e; kept = h }

pub record OfToken (s : Scene) (id : TokenId) (rule : Token → Option Refusal) : Type 0 where
  pub token : Token
  pub found : token_of id s.tokens ≡ Some token
  pub kept : rule token ≡ None

pub of_token : (s : Scene) (id : TokenId) (rule : Token → Option Refusal) → token_rule rule (token_of id s.tokens) ≡ None → OfToken s id rule
of_token s id rule h = by (token_of id s.tokens) refl h
  where
    by : (o : Option Token) → token_of id s.tokens ≡ o → token_rule rule o ≡ None → OfToken s id rule
    by None e h = cc
    by (Some t) e h = record { token = t; found = e; kept = h }

pub map_there : (s : Scene) (name : List ℕ) (rule : Grid → Option Refusal) → map_rule rule (map_of name s.maps) ≡ None → has_map name s.maps ≡ true
map_there s name rule h = ap is_some (on_map s name rule h).there

pub token_there : (s : Scene) (id : TokenId) (rule : Token → Option Refusal) → token_rule rule (token_of id s.tokens) ≡ None → has_token id s.tokens ≡ true
token_there s id rule h = ap is_some (of_token s id rule h).found

-- ---- players

pub plays : (players seat : ℕ) → player_rule players seat ≡ None → is_player players seat ≡ true
plays players seat h = by (eqb seat 0) (nat_le seat players) refl refl h
  where
    one_at_least : (n : ℕ) → eqb n 0 ≡ false → nat_le 1 n ≡ true
    one_at_least n h = grind (arith, nat_tests)

    by : (a b : Bool) → eqb seat 0 ≡ a → nat_le seat players ≡ b → cond a (Some NotAPlayer) (cond b None (Some NoSuchSeat)) ≡ None → is_player players seat ≡ true
    by true b e f h = cc
    by false true e f h = and_from _ _ (one_at_least seat e) f
    by false false e f h = cc

-- ---- the whole scene is decided over, so the seat is the game master's

pub gm_kept : (s : Scene) (seat : ℕ) (tags : List (List ℕ)) (c : Command) → by_scene tags c (cond (is_gm seat) (Some s) None) ≡ None → (is_gm seat ≡ true) × (gm_rule s tags c ≡ None)
gm_kept s seat tags c h = by (is_gm seat) refl h
  where
    by : (b : Bool) → is_gm seat ≡ b → by_scene tags c (cond b (Some s) None) ≡ None → (is_gm seat ≡ true) × (gm_rule s tags c ≡ None)
    by true e h = (e, h)
    by false e h = cc

-- ---- on a map

sized : (s : Scene) (name : List ℕ) (m : Grid) → map_of name s.maps ≡ Some m → size_of name s.maps ≡ Some m.walls.extent
sized s name m h = ap (option_map (λ (n : Grid). n.walls.extent)) h

pub may_fill : (s : Scene) (name : List ℕ) (rect : Numbers) → map_rule (rect_rule rect) (map_of name s.maps) ≡ None → MayFill s name rect
may_fill s name rect h =
    let on = on_map s name (rect_rule rect) h in
    record { size = on.grid.walls.extent; there = sized s name on.grid on.there; fits = unless_holds _ _ on.kept }

pub may_stand : (s : Scene) (name : List ℕ) (side : ℕ) (place : ℤ × ℤ) → map_rule (square_rule side place) (map_of name s.maps) ≡ None → MayStand s name side place
may_stand s name side place h =
    let on = on_map s name (square_rule side place) h in
    record { size = on.grid.walls.extent; there = sized s name on.grid on.there; fits = unless_holds _ _ on.kept }

pub may_stand_new : (s : Scene) (tags : List (List ℕ)) (tag name : List ℕ) (side : ℕ) (place : ℤ × ℤ) → map_rule (new_token_rule tags tag side place) (map_of name s.maps) ≡ None → MayStand s name side place
may_stand_new s tags tag name side place h =
    let on = on_map s name (new_token_rule tags tag side place) h in
    record { size = on.grid.walls.extent; there = sized s name on.grid on.there; fits = unless_holds _ _ (then_parts (square_rule side place on.grid) (tag_rule tags tag) on.kept).0 }

pub may_place : (s : Scene) (id : TokenId) (name : List ℕ) (place : ℤ × ℤ) → token_rule (λ t. map_rule (square_rule t.size place) (map_of name s.maps)) (token_of id s.tokens) ≡ None → MayPlace s id name place
may_place s id name place h =
    let of = of_token s id (λ t. map_rule (square_rule t.size place) (map_of name s.maps)) h in
    record { token = of.token; found = of.found; stands = may_stand s name of.token.size place of.kept }

-- ---- walls

record EndsFit (m : Grid) (a b : ℤ × ℤ) : Type 0 where
  first : point_fits m.walls.extent a ≡ true
  second : point_fits m.walls.extent b ≡ true

ends : (m : Grid) (a b : ℤ × ℤ) → ends_fit m.walls a b ≡ true → EndsFit m a b
ends m a b h = let parts = and_parts (point_fits m.walls.extent a) (point_fits m.walls.extent b) h in record { first = parts.0; second = parts.1 }

pub record MayAdd (s : Scene) (name : List ℕ) (kind : WallKind) (a b : ℤ × ℤ) : Type 0 where
  pub wall : MayWall s name a b
  pub new : IfSome (map_of name s.maps) (λ m. wall_fault m.walls kind (point_at a) (point_at b) ≡ None)

pub may_add : (s : Scene) (name : List ℕ) (kind : WallKind) (a b : ℤ × ℤ) → map_rule (wall_rule kind a b) (map_of name s.maps) ≡ None → MayAdd s name kind a b
may_add s name kind a b h =
    let on = on_map s name (wall_rule kind a b) h in
    let parts = kept on.grid (ends_fit on.grid.walls a b) refl on.kept in
    record {
      wall = record { grid = on.grid; there = on.there; first = (ends on.grid a b parts.0).first; second = (ends on.grid a b parts.0).second };
      new = subst (λ (o : Option Grid). IfSome o (λ m. wall_fault m.walls kind (point_at a) (point_at b) ≡ None)) (sym on.there) parts.1;
    }
  where
    kept : (m : Grid) (fit : Bool) → ends_fit m.walls a b ≡ fit → cond fit (option_map of_wall_fault (wall_fault m.walls kind (point_at a) (point_at b))) (Some OffMap) ≡ None → (ends_fit m.walls a b ≡ true) × (wall_fault m.walls kind (point_at a) (point_at b) ≡ None)
    kept m true e h = (e, no_fault of_wall_fault (wall_fault m.walls kind (point_at a) (point_at b)) h)
    kept m false e h = cc

pub record MayCut (s : Scene) (name : List ℕ) (kind : WallKind) (a b : ℤ × ℤ) : Type 0 where
  pub wall : MayWall s name a b
  pub there : IfSome (map_of name s.maps) (λ m. has_wall (wall_between (point_at a) (point_at b)) (walls_of m.walls kind) ≡ true)

pub may_cut : (s : Scene) (name : List ℕ) (kind : WallKind) (a b : ℤ × ℤ) → map_rule (unwall_rule kind a b) (map_of name s.maps) ≡ None → MayCut s name kind a b
may_cut s name kind a b h =
    let on = on_map s name (unwall_rule kind a b) h in
    let parts = and_parts (ends_fit on.grid.walls a b) (has_wall (wall_between (point_at a) (point_at b)) (walls_of on.grid.walls kind)) (unless_holds _ NoSuchWall on.kept) in
    record {
      wall = record { grid = on.grid; there = on.there; first = (ends on.grid a b parts.0).first; second = (ends on.grid a b parts.0).second };
      there = subst (λ (o : Option Grid). IfSome o (λ m. has_wall (wall_between (point_at a) (point_at b)) (walls_of m.walls kind) ≡ true)) (sym on.there) parts.1;
    }

-- ---- tokens

pub may_own : (s : Scene) (id : TokenId) (seat : ℕ) → token_rule (λ t. player_rule s.fog.players seat) (token_of id s.tokens) ≡ None → (has_token id s.tokens ≡ true) × (is_player s.fog.players seat ≡ true)
may_own s id seat h = let of = of_token s id (λ t. player_rule s.fog.players seat) h in (ap is_some of.found, plays s.fog.players seat of.kept)

pub may_see : (s : Scene) (id : TokenId) (sight : Option (List ℕ)) → token_rule (λ t. unless (is_known s.sights sight) UnknownSight) (token_of id s.tokens) ≡ None → (has_token id s.tokens ≡ true) × (is_known s.sights sight ≡ true)
may_see s id sight h = let of = of_token s id (λ t. unless (is_known s.sights sight) UnknownSight) h in (ap is_some of.found, unless_holds _ _ of.kept)

pub has_room : (full : Bool) → cond full (Some PropertyLimit) None ≡ None → full ≡ false
has_room true h = cc
has_room false h = refl

pub may_keep : (s : Scene) (id : TokenId) (name : List ℕ) → token_rule (λ t. room_rule t.secret name) (token_of id s.tokens) ≡ None → MaySet s id SecretClass name
may_keep s id name h = let of = of_token s id (λ t. room_rule t.secret name) h in record { token = of.token; found = of.found; room = has_room (is_full_for name of.token.secret) of.kept }

-- ---- fog

pub may_mark : (s : Scene) (seat : ℕ) (name : List ℕ) (rect : Numbers) → then_rule (player_rule s.fog.players seat) (map_rule (rect_rule rect) (map_of name s.maps)) ≡ None → MayFill s name rect × (is_player s.fog.players seat ≡ true)
may_mark s seat name rect h = let parts = then_parts (player_rule s.fog.players seat) (map_rule (rect_rule rect) (map_of name s.maps)) h in (may_fill s name rect parts.1, plays s.fog.players seat parts.0)
