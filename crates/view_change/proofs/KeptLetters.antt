-- Of a list of letters nothing is new beside itself.
use Rattle.std.proofs.Common.{◌≡◌, true, false, cond, ◌||◌, Bool, List, [], ◌∷◌, ◌++◌, not, refl, sym, ◌∙◌, ap, subst}
use Rattle.views.specs.Keys.{Letter}
use Rattle.views.specs.Same.{same_letter}
use Rattle.views.proofs.SameLemmas.{same_letter-tells}
use Rattle.view_change.specs.Keyed.{is_in, puts_from}

itself : (x : Letter) → same_letter x x ≡ true
itself x = (same_letter-tells x x).1 refl

or_true : (b : Bool) → (b || true) ≡ true
or_true true = refl
or_true false = refl

there : (front rest : List Letter) (x : Letter) → is_in same_letter (front ++ x ∷ rest) x ≡ true
there [] rest x = ap (λ b. b || is_in same_letter rest x) (itself x)
there (y ∷ front) rest x = ap (λ b. same_letter y x || b) (there front rest x) ∙ or_true (same_letter y x)

pushed : (front rest : List Letter) (x : Letter) → (front ++ x ∷ []) ++ rest ≡ front ++ x ∷ rest
pushed [] rest x = refl
pushed (y ∷ front) rest x = ap (λ xs. y ∷ xs) (pushed front rest x)

none_of_rest : (front rest : List Letter) → puts_from same_letter (front ++ rest) rest ≡ []
none_of_rest front [] = refl
none_of_rest front (x ∷ rest) =
    ap (λ b. cond (not b) (x ∷ puts_from same_letter (front ++ x ∷ rest) rest) (puts_from same_letter (front ++ x ∷ rest) rest)) (there front rest x)
    ∙ ap (λ xs. puts_from same_letter xs rest) (sym (pushed front rest x))
    ∙ none_of_rest (front ++ x ∷ []) rest

pub none_where_kept : (before after : List Letter) → before ≡ after → [] ≡ puts_from same_letter before after
none_where_kept before after same = sym (ap (λ xs. puts_from same_letter xs after) same ∙ none_of_rest [] after)
