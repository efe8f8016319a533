-- The tree of a campaign has no float, and isn't deep.
use Rattle.std.proofs.Common.{◌≡◌, ℕ, suc, ◌≤◌, List, [], ◌∷◌, map, Option, Some, None, ℤ, pos, negsuc, refl, arith, true, false, Bool, ◌||◌}
use Rattle.std.specs.Prelude.{codes}
use Rattle.std.specs.List.{range_with_len}
use Rattle.cells.specs.declared.cell.Run.{Run}
use Rattle.maps.specs.Maps.{Grid}
use Rattle.seats.specs.Book.{Book}
use Rattle.tokens.specs.Owners.{seats_of}
use Rattle.tokens.specs.Properties.{Property}
use Rattle.tokens.specs.declared.token.Token.{Token}
use Rattle.topology.specs.declared.wall.Wall.{Wall}
use Rattle.serde_json.specs.Data.{Data, string, object, Members, no_members, member, depth, items_depth, members_depth}
use Rattle.serde_json.specs.View.{items_of}
use Rattle.serde_json.specs.Written.{has_float, items_have_float, members_have_float}
use Rattle.world.specs.Scene.{Scene}
use Rattle.world.specs.World.{World}
use Rattle.campaign_json.specs.declared.formats.Format.{Format}
use Rattle.campaign_json.specs.declared.formats.Format.TheVariants.{First, Second}
use Rattle.campaign_writing.specs.Trees.{whole, integer, wholes, list, name_or_null, named}
use Rattle.campaign_writing.specs.Scenes.{sight_tree, row_letters, wall_tree, walls_tree, trail_member, map_tree, property_tree, owners_tree, token_tree, run_tree, runs_tree, exposed_maps}
use Rattle.campaign_writing.specs.Canonical.{seat_tree, campaign_tree, campaign_tree_in}

-- no float, and nested so deep at most
pub record IsPlain (most : ℕ) (d : Data) : Type 0 where
  pub exact : has_float d ≡ false
  pub shallow : depth d ≤ most

no_floats : {A : Type 0} (tree : A → Data) → ((a : A) → has_float (tree a) ≡ false) → (xs : List A) → items_have_float (items_of (map tree xs)) ≡ false
no_floats tree h [] = refl
no_floats tree h (x ∷ xs) = rw (h x) (no_floats tree h xs)

not_deep : {A : Type 0} (most : ℕ) (tree : A → Data) → ((a : A) → depth (tree a) ≤ most) → (xs : List A) → items_depth (items_of (map tree xs)) ≤ most
not_deep most tree h [] = omega arith
not_deep most tree h (x ∷ xs) = let first = h x in let rest = not_deep most tree h xs in omega (arith, first, rest)

list_plain : {A : Type 0} (most : ℕ) (tree : A → Data) → ((a : A) → IsPlain most (tree a)) → (xs : List A) → IsPlain (suc most) (list (map tree xs))
list_plain most tree h xs = record { exact = no_floats tree (λ a. (h a).exact) xs; shallow = let all = not_deep most tree (λ a. (h a).shallow) xs in omega (arith, all) }

named_floats : {V : Type 0} (tree : V → Data) → ((v : V) → has_float (tree v) ≡ false) → (all : List (List ℕ × V)) → members_have_float (named tree all) ≡ false
named_floats tree h [] = refl
named_floats tree h (x ∷ all) = rw (h x.1) (named_floats tree h all)

named_deep : {V : Type 0} (most : ℕ) (tree : V → Data) → ((v : V) → depth (tree v) ≤ most) → (all : List (List ℕ × V)) → members_depth (named tree all) ≤ most
named_deep most tree h [] = omega arith
named_deep most tree h (x ∷ all) = let first = h x.1 in let rest = named_deep most tree h all in omega (arith, first, rest)

named_plain : {V : Type 0} (most : ℕ) (tree : V → Data) → ((v : V) → IsPlain most (tree v)) → (all : List (List ℕ × V)) → IsPlain (suc most) (object (named tree all))
named_plain most tree h all = record { exact = named_floats tree (λ v. (h v).exact) all; shallow = let rest = named_deep most tree (λ v. (h v).shallow) all in omega (arith, rest) }

whole_plain : (n : ℕ) → IsPlain 0 (whole n)
whole_plain n = record { exact = refl; shallow = omega arith }

integer_plain : (z : ℤ) → IsPlain 0 (integer z)
integer_plain (pos n) = whole_plain n
integer_plain (negsuc n) = record { exact = refl; shallow = omega arith }

string_plain : (bytes : List ℕ) → IsPlain 0 (string bytes)
string_plain bytes = record { exact = refl; shallow = omega arith }

wholes_plain : (ns : List ℕ) → IsPlain 1 (wholes ns)
wholes_plain ns = list_plain 0 whole whole_plain ns

name_plain : (name : Option (List ℕ)) → IsPlain 0 (name_or_null name)
name_plain None = record { exact = refl; shallow = omega arith }
name_plain (Some name) = string_plain name

property_plain : (p : Property) → IsPlain 1 (property_tree p)
property_plain p = record { exact = refl; shallow = omega arith }

walls_plain : (walls : List Wall) → IsPlain 2 (list (map wall_tree walls))
walls_plain walls = list_plain 1 wall_tree (λ w. wholes_plain (w.first.x ∷ w.first.y ∷ w.second.x ∷ w.second.y ∷ [])) walls

-- the members of a map from its trail on
trail_plain : (format : Format) (on : Bool) (later : Members) → members_have_float later ≡ false → members_depth later ≤ 2 → (members_have_float (trail_member format on later) ≡ false) × (members_depth (trail_member format on later) ≤ 2)
trail_plain First on later exact shallow = (exact, shallow)
trail_plain Second on later exact shallow = (exact, omega (arith, shallow))

map_plain : (format : Format) (m : Grid) → IsPlain 3 (map_tree format m)
unfolding map_tree
map_plain format m =
    let vbl = walls_plain m.walls.vbl in
    let mbl = walls_plain m.walls.mbl in
    let row : ℕ → Data = λ y. string (row_letters m y) in
    let rows = list_plain 0 row (λ y. string_plain (row_letters m y)) (range_with_len 0 m.walls.extent.h) in
    let later : Members = member (codes "vbl") (walls_tree m.walls.vbl) (member (codes "w") (whole m.walls.extent.w) no_members) in
    let low : members_depth later ≤ 2 = (let a = vbl.shallow in omega (arith, a)) in
    let trail = trail_plain format m.trail later (rw vbl.exact refl) low in
    record { exact = rw (mbl.exact, rows.exact, trail.0) refl; shallow = let a = trail.1 in let b = mbl.shallow in let c = rows.shallow in omega (arith, a, b, c) }

or_none : (a b : Bool) → a ≡ false → b ≡ false → (a || b) ≡ false
or_none true b h k = h
or_none false b h k = k

owners_plain : (owners : ℕ) → IsPlain 1 (owners_tree owners)
unfolding owners_tree
owners_plain owners = wholes_plain (seats_of owners)

token_plain : (t : Token) → IsPlain 3 (token_tree t)
unfolding token_tree
token_plain t =
    let light = name_plain t.light in
    let sight = name_plain t.sight in
    let owners = owners_plain t.owners in
    let public = list_plain 1 property_tree property_plain t.public in
    let own = list_plain 1 property_tree property_plain t.own in
    let secret = list_plain 1 property_tree property_plain t.secret in
    record { exact = rw (light.exact, own.exact) (rw (owners.exact, public.exact, secret.exact, sight.exact) refl); shallow = let a = light.shallow in let b = sight.shallow in let c = owners.shallow in let d = public.shallow in let e = own.shallow in let f = secret.shallow in omega (arith, a, b, c, d, e, f) }

runs_plain : (runs : List Run) → IsPlain 2 (runs_tree runs)
runs_plain runs = list_plain 1 run_tree (λ run. wholes_plain (run.y ∷ run.x0 ∷ run.x1 ∷ [])) runs

seat_plain : (s : Scene) (b : Book) → IsPlain 4 (seat_tree s b)
unfolding seat_tree
seat_plain s b =
    let fog = named_plain 2 runs_tree runs_plain (exposed_maps s b.seat) in
    let macros = named_plain 0 string string_plain b.macros in
    let tags = list_plain 0 string string_plain b.tags in
    record { exact = rw (fog.exact, macros.exact, tags.exact) refl; shallow = let a = fog.shallow in let m = macros.shallow in let c = tags.shallow in omega (arith, a, m, c) }

pub campaign_plain_in : (format : Format) (w : World) → IsPlain 6 (campaign_tree_in format w)
unfolding campaign_tree_in
campaign_plain_in format w =
    let lights = named_plain 0 integer integer_plain w.scene.lights in
    let sights = named_plain 1 sight_tree (λ sight. wholes_plain (sight.range ∷ sight.night ∷ sight.mult ∷ [])) w.scene.sights in
    let maps = list_plain 3 (map_tree format) (map_plain format) w.scene.maps in
    let seats = list_plain 4 (seat_tree w.scene) (seat_plain w.scene) w.books in
    let tokens = list_plain 3 token_tree token_plain w.scene.tokens in
    record { exact = rw (lights.exact, maps.exact, seats.exact, sights.exact, tokens.exact) refl; shallow = let a = lights.shallow in let b = sights.shallow in let c = maps.shallow in let d = seats.shallow in let e = tokens.shallow in omega (arith, a, b, c, d, e) }

pub campaign_plain : (w : World) → IsPlain 6 (campaign_tree w)
unfolding campaign_tree
campaign_plain w = campaign_plain_in Second w
