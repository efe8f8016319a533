-- What a turn or a stop tells where a session was cut.
use Rattle.std.proofs.Common.{◌≡◌, ◌≢◌, Bool, true, false, cond, not, ◌&&◌, refl, sym, ◌∙◌, ap}
use Rattle.session.specs.declared.input.Stop.{Stop}
use Rattle.session.specs.declared.input.Stop.TheVariants as stops
use Rattle.session.specs.declared.speaking.Said.{Said}
use Rattle.session.specs.declared.speaking.Said.TheVariants.{Cut}
use Rattle.session.specs.Inputs.{is_memory as is_memory_stop}
use Rattle.session.specs.Spoken.{is_memory, cut_first}

pub both_first : (a b : Bool) → (a && b) ≡ true → a ≡ true
both_first true b h = refl
both_first false b h = cc

-- cut, and not so: or not cut
pub not_cut : (cut other : Bool) → (cut && not other) ≡ false → other ≡ false → cut ≡ false
not_cut true true none is = cc
not_cut true false none is = cc
not_cut false other none is = refl

pub parted_cut : (cut read : Bool) → (cut && not read) ≡ true → (cut ≡ true) × (read ≡ false)
parted_cut true true h = cc
parted_cut true false h = (refl, refl)
parted_cut false read h = cc

pub no_memory : (stop : Stop) → stop ≢ stops.Memory → is_memory_stop stop ≡ false
no_memory stops.End other = refl
no_memory stops.TooLong other = refl
no_memory stops.ReadFault other = refl
no_memory stops.Memory other = absurd (other refl)

-- no cut was told: it wasn't parted, unless memory was wanting
pub record Told (parted : Bool) (by said : Said) : Type 0 where
  pub same : said ≡ by
  pub unparted : is_memory by ≡ false → parted ≡ false

pub told_by : (parted : Bool) (by said : Said) → said ≡ cut_first parted by → (said ≡ Cut → ⊥) → Told parted by said
told_by false by said is other = record { same = is; unparted = λ _. refl }
told_by true by said is other = by_memory (is_memory by) refl
  where
    by_memory : (m : Bool) → is_memory by ≡ m → Told true by said
    by_memory true e = record { same = is ∙ ap (λ m. cond (not m) Cut by) e; unparted = λ none. let z : true ≡ false = sym e ∙ none in absurd cc }
    by_memory false e = absurd (other (is ∙ ap (λ m. cond (not m) Cut by) e))

-- a cut was told
pub cut_told : (parted : Bool) (by said : Said) → said ≡ cut_first parted by → said ≡ Cut → (by ≡ Cut → ⊥) → (parted ≡ true) × (is_memory by ≡ false)
cut_told false by said is so other = absurd (other (sym is ∙ so))
cut_told true by said is so other = by_memory (is_memory by) refl
  where
    by_memory : (m : Bool) → is_memory by ≡ m → (true ≡ true) × (is_memory by ≡ false)
    by_memory false e = (refl, e)
    by_memory true e = absurd (other (sym (is ∙ ap (λ m. cond (not m) Cut by) e) ∙ so))
