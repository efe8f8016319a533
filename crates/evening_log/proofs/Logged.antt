-- What a door knows of the outputs that were given back.
use Rattle.std.proofs.Common.{arith, ◌≡◌, ◌≤◌, ◌+◌, ◌-◌, ◌∙◌, ℕ, max, List, [], ◌∷◌, ◌++◌, Option, None, Some, sym, subst, ap}
use Rattle.std.specs.Prelude.{map}
use Rattle.std.proofs.lemmas.List.{map-append}
use Rattle.std.proofs.lemmas.List.Elements.{All-push, All-weaker}
use Rattle.line_io.specs.Connections.{IsAtLeast, add_told}
use Rattle.evening_log.specs.Logged.{SinkState, HeardAtMost, AllHeardAtMost}

module _ {In Inner Origin : Type 0} where
  heard_more : (most heard : ℕ) (ended : List (In × SinkState Inner Origin)) (ends : In × SinkState Inner Origin)
      → AllHeardAtMost most ended → ends.1.pass.heard ≤ heard → AllHeardAtMost (max most heard) (ended ++ ends ∷ [])
  heard_more most heard ended ends all le =
      All-push (HeardAtMost (max most heard)) ended ends
      (All-weaker (HeardAtMost most) (HeardAtMost (max most heard)) (λ other was. omega (arith, was)) ended all)
      (omega (arith, le))

  -- once the ends of this snapshot are given back too
  pub heard_back : {Kept : Type 0} (value : Kept → In × SinkState Inner Origin) (most heard longer : ℕ) (items more : List Kept) (kept : Kept) (ends : In × SinkState Inner Origin)
      → more ≡ items ++ kept ∷ [] → value kept ≡ ends → longer ≡ max most heard
      → AllHeardAtMost most (map value items) → ends.1.pass.heard ≤ heard → AllHeardAtMost longer (map value more)
  heard_back value most heard longer items more kept ends more_is value_is longer_is all le =
      let le' : (value kept).1.pass.heard ≤ heard = subst (λ (e : In × SinkState Inner Origin). e.1.pass.heard ≤ heard) (sym value_is) le in
      let told : map value more ≡ map value items ++ value kept ∷ [] = ap (map value) more_is ∙ map-append value items (kept ∷ []) in
      subst (λ (es : List (In × SinkState Inner Origin)). AllHeardAtMost longer es) (sym told)
      (subst (λ (n : ℕ). AllHeardAtMost n (map value items ++ value kept ∷ [])) (sym longer_is)
      (heard_more most heard (map value items) (value kept) all le'))

pub away_less : (away : ℕ) (old new : Option ℕ) → 1 ≤ away → IsAtLeast away old → old ≡ add_told 1 new → IsAtLeast (away - 1) new
away_less away old None some least is = tt
away_less away old (Some told) some least is =
    let counted : away ≤ told + 1 = subst (λ (o : Option ℕ). IsAtLeast away o) is least in
    omega (arith, counted, some)
