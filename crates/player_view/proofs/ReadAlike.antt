-- A seat's macros can read of its view what they can read of the scene.
use Rattle.std.proofs.Common.{◌≡◌, ℕ, Bool, true, false, cond, ◌||◌, List, [], ◌∷◌, ◌++◌, Some, None, refl, ap, ◌∙◌}
use Rattle.std.specs.Prelude.{map, flat_map, is_some, IfOk, Result, Ok, Err}
use Rattle.std.specs.List.{filter}
use Rattle.names.specs.declared.kinds.PropClass.TheVariants.{Public, Own, Secret}
use Rattle.tokens.specs.declared.token.Token.{Token}
use Rattle.views.specs.declared.view.View.{View}
use Rattle.readable.specs.Table.{Table}
use Rattle.world.specs.Scene.{Scene}
use Rattle.player_view.specs.Sight.{owns}
use Rattle.player_view.specs.Shown.{is_shown}
use Rattle.player_view.specs.View.{is_gm, has_token, token_view, owned_part, gm_part, view_of}
use Rattle.player_view.specs.Readables.{keyed, table_of, props_in, secret_in, read_in, read_of, yours_in, yours_of, readable_of, readable_by_view}

-- what is made of what a filter keeps, changed by f
flat_map-map-filter : {X Y Z : Type 0} (g : Y → List Z) (f : X → Y) (s : X → Bool) (k : X → List Z) → ((x : X) → cond (s x) (g (f x)) [] ≡ k x) → (xs : List X)
    → flat_map g (map f (filter s xs)) ≡ flat_map k xs
flat_map-map-filter g f s k h [] = refl
flat_map-map-filter {X} {Y} {Z} g f s k h (x ∷ xs) = here (s x) (h x) (flat_map-map-filter g f s k h xs)
  where
    here : (b : Bool) → cond b (g (f x)) [] ≡ k x → flat_map g (map f (filter s xs)) ≡ flat_map k xs → flat_map g (map f (cond b (x ∷ filter s xs) (filter s xs))) ≡ k x ++ flat_map k xs
    here true e i = (λ j. e j ++ i j)
    here false e i = (λ j. e j ++ i j)

-- the token's part in what can be read, by whether the seat is the game master's, owns it, and is shown it otherwise
read_by : (t : Token) (g o w : Bool)
    → cond (g || (o || w)) (keyed t.id Public t.public ++ (keyed t.id Own (props_in (cond (g || o) (Some (owned_part t)) None)) ++ keyed t.id Secret (secret_in (cond g (Some (gm_part t)) None)))) []
    ≡ cond (g || (o || w)) (keyed t.id Public t.public) [] ++ (cond (g || o) (keyed t.id Own t.own) [] ++ cond g (keyed t.id Secret t.secret) [])
read_by t true o w = refl
read_by t false true w = refl
read_by t false false true = refl
read_by t false false false = refl

read_same : (s : Scene) (q : ℕ) (t : Token) → cond (has_token s q t) (read_in (token_view s q t)) [] ≡ read_of s q t
unfolding is_shown
read_same s q t = read_by t (is_gm q) (owns s q t) _

yours_by : (t : Token) (g o w : Bool) → cond (g || (o || w)) (cond (is_some (cond (g || o) (Some (owned_part t)) None)) (t.id ∷ []) []) [] ≡ cond (g || o) (t.id ∷ []) []
yours_by t true o w = refl
yours_by t false true w = refl
yours_by t false false true = refl
yours_by t false false false = refl

yours_same : (s : Scene) (q : ℕ) (t : Token) → cond (has_token s q t) (yours_in (token_view s q t)) [] ≡ yours_of s q t
unfolding is_shown
yours_same s q t = yours_by t (is_gm q) (owns s q t) _

-- what macros can read of a view is what they can read of the scene, also for the game master
pub readable_alike : (seats : ℕ) (s : Scene) (q : ℕ) → readable_by_view seats (view_of s q) ≡ readable_of seats s q
unfolding view_of
readable_alike seats s q =
    (λ i. table_of seats (flat_map-map-filter read_in (token_view s q) (has_token s q) (read_of s q) (read_same s q) s.tokens i)
    (flat_map-map-filter yours_in (token_view s q) (has_token s q) (yours_of s q) (yours_same s q) s.tokens i))

-- what was made of the view is what can be read of the scene
pub table_alike : {E : Type 0} (seats : ℕ) (v : View) (made : Result Table E) → IfOk made (λ table. table ≡ readable_by_view seats v)
    → (s : Scene) (q : ℕ) → v ≡ view_of s q → IfOk made (λ table. table ≡ readable_of seats s q)
table_alike seats v (Ok table) e s q is = e ∙ ap (readable_by_view seats) is ∙ readable_alike seats s q
table_alike seats v (Err fault) e s q is = tt
