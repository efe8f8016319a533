-- Sight types that are copied, or set.
use Rattle.std.proofs.Common.{◌≡◌, ℕ, Bool, true, false, List, Some, None, refl, sym, subst}
use Rattle.std.specs.Prelude.{IsTrue, if◌then◌else◌}
use Rattle.type_table.specs.Types.{with_type, AreCopies}
use Rattle.type_table.proofs.Tables.{All-values-with_type, same-AreCopies}
use Rattle.sight_types.specs.declared.Sight.{Sight}
use Rattle.sight_types.specs.Ranges.{are_ranges, AreSights, sight_of}

-- copies of sights are the sights
pub same_types : (types copies : List (List ℕ × Sight)) → AreCopies (λ x y. y ≡ x) types copies → copies ≡ types
same_types types copies h = same-AreCopies (λ x y. y ≡ x) (λ x y e. e) types copies h

-- a sight that is kept has the numbers of one
are_ranges-kept : (range night mult : ℕ) (kept : Sight) → Some kept ≡ sight_of range night mult → IsTrue (are_ranges kept.range kept.night kept.mult)
are_ranges-kept range night mult kept is = here (are_ranges range night mult) (λ h. h) is
  where
    here : (b : Bool) → (b ≡ true → are_ranges range night mult ≡ true) → Some kept ≡ (if b then Some (record { range = range; night = night; mult = mult }) else None) → are_ranges kept.range kept.night kept.mult ≡ true
    here true t e =
        let same : kept ≡ record { range = range; night = night; mult = mult } = cc in
        subst (λ (s : Sight). are_ranges s.range s.night s.mult ≡ true) (sym same) (t refl)
    here false t e = cc

pub AreSights-with_type : (types : List (List ℕ × Sight)) (name : List ℕ) (range night mult : ℕ) (kept : Sight) → AreSights types → Some kept ≡ sight_of range night mult → AreSights (with_type name kept types)
AreSights-with_type types name range night mult kept all is =
    All-values-with_type (λ s. IsTrue (are_ranges s.range s.night s.mult)) types name kept all (are_ranges-kept range night mult kept is)
