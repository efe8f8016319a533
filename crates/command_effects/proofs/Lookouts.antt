-- What was found of the map of a name.
use Rattle.std.proofs.Common.{◌≡◌, ℕ, Bool, true, false, cond, List, [], ◌∷◌, Some, refl, sym, subst}
use Rattle.std.specs.Prelude.{Option, All, IfSome}
use Rattle.std.specs.List.{find}
use Rattle.std.specs.Str.{bytes_eq}
use Rattle.std.proofs.lemmas.List.Elements.{All-head, All-tail}
use Rattle.std.proofs.lemmas.Slice.Eq.{bytes_eq-Decides}
use Rattle.player_view.specs.Lookouts.{IsLookout}
use Rattle.player_view.specs.declared.lookout.Lookout.{Lookout}
use Rattle.world.specs.Scene.{Scene}

abbrev IsOf : Scene → List ℕ → Lookout → Type 0
IsOf s name lookout = IsLookout s lookout × (lookout.name ≡ name)

first_found : (s : Scene) (name : List ℕ) (all : List Lookout) → All (IsLookout s) all → IfSome (find (λ lookout. bytes_eq lookout.name name) all) (IsOf s name)
first_found s name [] are = tt
first_found s name (lookout ∷ all) are = by (bytes_eq lookout.name name) refl (first_found s name all (All-tail (IsLookout s) lookout all are))
  where
    by : (b : Bool) → bytes_eq lookout.name name ≡ b → IfSome (find (λ (l : Lookout). bytes_eq l.name name) all) (IsOf s name)
        → IfSome (cond b (Some lookout) (find (λ (l : Lookout). bytes_eq l.name name) all)) (IsOf s name)
    by true e rest = (All-head (IsLookout s) lookout all are, (bytes_eq-Decides lookout.name name).0 e)
    by false e rest = rest

pub found : (s : Scene) (name : List ℕ) (all : List Lookout) (o : Option Lookout) → All (IsLookout s) all → o ≡ find (λ lookout. bytes_eq lookout.name name) all → IfSome o (IsOf s name)
found s name all o are is = subst (λ x. IfSome x (IsOf s name)) (sym is) (first_found s name all are)
