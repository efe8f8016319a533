-- The places of a turn's entries, and of all turns of a pass.
use Rattle.std.proofs.Common.{◌≡◌, ℕ, suc, ◌<◌, ◌≤◌, ◌+◌, List, [], ◌∷◌, ◌++◌, length, map, slice_get, Some, refl, ap, sym, ◌∙◌, subst, arith, append_assoc, length-append}
use Rattle.std.specs.Prelude.{All}
use Rattle.std.proofs.lemmas.List.Elements.{All-nil, All-cons, All-append}
use mathlib.Core.List.{IsPrefix}
use Rattle.turn_lock.specs.Pass.{places, OwnsWithin, Known, HasTurn}
use Rattle.turn_lock.proofs.Prefixes.{prefix_get, prefix_length, prefix_trans}

module _ {Entry : Type 0} where
  -- the places of the last entries lie within a list of this length
  pub places-below : (start : ℕ) (entries : List Entry) (limit : ℕ) → start + length entries ≤ limit → All (λ place. place < limit) (places start entries)
  places-below start [] limit fit = All-nil (λ place. place < limit)
  places-below start (entry ∷ entries) limit fit =
      All-cons (λ place. place < limit) start (places (suc start) entries) (omega arith) (places-below (suc start) entries limit (omega arith))

  -- the own places of a front lie within a longer one
  pub within-longer : (front longer : List Entry) (own : List ℕ) → length front ≤ length longer → OwnsWithin front own → OwnsWithin longer own
  within-longer front longer own le within k d lt = let here = within k d lt in omega arith

  pub within-append : (front : List Entry) (own more : List ℕ) → OwnsWithin front own → OwnsWithin front more → OwnsWithin front (own ++ more)
  within-append front own more first second = All-append (λ place. place < length front) own more first second

  -- after a turn the own places lie within the front
  pub within-turn : (ran : List Entry → List Entry → Type 0) (entries : List Entry) (before after : Known Entry) → HasTurn ran entries before after
      → OwnsWithin before.front before.own → OwnsWithin after.front after.own
  within-turn ran entries before after turn within =
      let whole : length after.front ≡ length turn.found + length entries = ap length turn.front_is ∙ length-append turn.found entries in
      let older = prefix_length before.front turn.found turn.begins in
      subst (OwnsWithin after.front) (sym turn.own_is)
      (within-append after.front before.own (places (length turn.found) entries)
      (within-longer before.front after.front before.own (omega arith) within)
      (places-below (length turn.found) entries (length after.front) (omega arith)))

  -- the front after a turn begins with the one before it
  pub front-turn : (ran : List Entry → List Entry → Type 0) (entries : List Entry) (before after : Known Entry) → HasTurn ran entries before after → IsPrefix before.front after.front
  front-turn ran entries before after turn = prefix_trans before.front turn.found after.front turn.begins (entries, sym turn.front_is)

  -- what stands at these places stands there in a longer history
  pub stands-longer : (front longer : List Entry) (own : List ℕ) (entries : List Entry) → IsPrefix front longer → map (slice_get front) own ≡ map Some entries → map (slice_get longer) own ≡ map Some entries
  stands-longer front longer [] [] prefix stand = refl
  stands-longer front longer [] (entry ∷ entries) prefix stand = absurd (cc stand)
  stands-longer front longer (place ∷ own) [] prefix stand = absurd (cc stand)
  stands-longer front longer (place ∷ own) (entry ∷ entries) prefix stand =
      let rest = stands-longer front longer own entries prefix (cc stand) in
      let here = prefix_get front longer place entry prefix (cc stand) in
      cc

  get_at_end : (front : List Entry) (entry : Entry) (entries : List Entry) → slice_get (front ++ entry ∷ entries) (length front) ≡ Some entry
  get_at_end [] entry entries = refl
  get_at_end (first ∷ front) entry entries = get_at_end front entry entries

  -- the entries of a turn stand at its places
  pub stands-places : (found entries : List Entry) → map (slice_get (found ++ entries)) (places (length found) entries) ≡ map Some entries
  stands-places found [] = refl
  stands-places found (entry ∷ entries) =
      let here = get_at_end found entry entries in
      let longer : length (found ++ entry ∷ []) ≡ suc (length found) = omega (arith, length-append found (entry ∷ [])) in
      let rest : map (slice_get (found ++ entry ∷ entries)) (places (suc (length found)) entries) ≡ map Some entries = rw (← longer, ← append_assoc found (entry ∷ []) entries) (stands-places (found ++ entry ∷ []) entries) in
      cc
