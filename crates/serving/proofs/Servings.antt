-- Connections that were taken and gathered.
use Rattle.std.proofs.Common.{◌≡◌, ◌≤◌, ◌+◌, ℕ, suc, Bool, true, false, List, [], ◌∷◌, ◌++◌, map, length, All, inl, inr, refl, sym, ap, subst, ◌∙◌, arith}
use Rattle.std.specs.Prelude.{Option, ◌⊎◌, ◌≢◌}
use Rattle.std.proofs.lemmas.List.Elements.{All-nil, All-cons, All-head, All-tail}
use Rattle.std.specs.Arc.{arc_value}
use Rattle.line_io.specs.Connections.{prepend_told, append_told, count_told, IsNoneLeft}
use Rattle.line_io.specs.Counts.{CountRose}
use Rattle.campaign_law.specs.declared.entry.Entry.{Entry}
use Rattle.campaign_law.specs.World.{World}
use Rattle.turn_lock.specs.Pass.{HallState, PassState, UsherState, IsPassOf}
use Rattle.turn_lock.proofs.Prefixes.{prefix_trans}
use mathlib.Core.List.{IsPrefix}
use Rattle.session.specs.declared.service.Sat.{Sat}
use Rattle.serving.specs.declared.sittings.Sitting.{Sitting}
use Rattle.serving.specs.declared.guests.Guest.{Guest}
use Rattle.serving.specs.declared.guests.Guest.TheVariants.{Busy, Sits}
use Rattle.serving.specs.declared.guests.Stop.{Stop}
use Rattle.serving.specs.declared.guests.Stop.TheVariants as stops
use Rattle.serving.specs.declared.serving_hall.Served.{Served}
use Rattle.serving.specs.declared.serving_hall.Served.TheVariants as answers
use Rattle.serving.specs.Guests.{came_for, IsGuestOf, GotNewPasses, busy_in, sitting_in, Takes, StopsBy, HasSplit}
use Rattle.serving.specs.Fates.{Fate, busy, sat, Became, AllBecame, HoldsIn, owns_of, ends_of, HasGathered}
use Rattle.serving.specs.Outside.{Outside}
use Rattle.serving.specs.Alone.{AreNewPasses, HaveNewPasses, NobodyElse, IsToldItsOwn}
use Rattle.serving.specs.Served.{served_by, came_of, busy_of, IsOf, Serves}
use Rattle.serving.proofs.Gatherings.{same_length}

module _ {R In Out Task : Type 0} (work_of : Task → Sitting R In Out) where
  came_same : (guests : List (Guest Task In Out)) (fates : List (Fate R In Out)) → AllBecame work_of guests fates → map (came_for work_of) guests ≡ map came_of fates
  came_same [] [] all = refl
  came_same [] (f ∷ fates) all = absurd all
  came_same (g ∷ guests) [] all = absurd all
  came_same (Busy kept ∷ guests) (busy ends ∷ fates) all = cc (all.0, came_same guests fates all.1)
  came_same (Busy kept ∷ guests) (sat sitting done ∷ fates) all = absurd all.0
  came_same (Sits task ∷ guests) (busy ends ∷ fates) all = absurd all.0
  came_same (Sits task ∷ guests) (sat sitting done ∷ fates) all = ap (λ s. (came_of (sat s done)) ∷ map (came_for work_of) guests) (sym all.0) ∙ ap (λ l. came_of (sat sitting done) ∷ l) (came_same guests fates all.1)

  busy_same : (guests : List (Guest Task In Out)) (fates : List (Fate R In Out)) → AllBecame work_of guests fates → busy_in guests ≡ busy_of fates
  busy_same [] [] all = refl
  busy_same [] (f ∷ fates) all = absurd all
  busy_same (g ∷ guests) [] all = absurd all
  busy_same (Busy kept ∷ guests) (busy ends ∷ fates) all = ap (λ n. 1 + n) (busy_same guests fates all.1)
  busy_same (Busy kept ∷ guests) (sat sitting done ∷ fates) all = absurd all.0
  busy_same (Sits task ∷ guests) (busy ends ∷ fates) all = absurd all.0
  busy_same (Sits task ∷ guests) (sat sitting done ∷ fates) all = let rest = busy_same guests fates all.1 in omega (arith, rest)

  sitting_same : (guests : List (Guest Task In Out)) (fates : List (Fate R In Out)) → AllBecame work_of guests fates → sitting_in guests ≡ length (ends_of fates)
  sitting_same [] [] all = refl
  sitting_same [] (f ∷ fates) all = absurd all
  sitting_same (g ∷ guests) [] all = absurd all
  sitting_same (Busy kept ∷ guests) (busy ends ∷ fates) all = let rest = sitting_same guests fates all.1 in omega (arith, rest)
  sitting_same (Busy kept ∷ guests) (sat sitting done ∷ fates) all = absurd all.0
  sitting_same (Sits task ∷ guests) (busy ends ∷ fates) all = absurd all.0
  sitting_same (Sits task ∷ guests) (sat sitting done ∷ fates) all = let rest = sitting_same guests fates all.1 in omega (arith, rest)

  one_of : (hall : HallState World) (guest : Guest Task In Out) (fate : Fate R In Out) → Became work_of guest fate → IsGuestOf work_of hall guest → IsOf hall fate
  one_of hall (Busy kept) (busy ends) became is = tt
  one_of hall (Busy kept) (sat sitting done) became is = absurd became
  one_of hall (Sits task) (busy ends) became is = absurd became
  one_of hall (Sits task) (sat sitting done) became is = ap (λ s. arc_value s.hall) became ∙ is

  all_of : (hall : HallState World) (guests : List (Guest Task In Out)) (fates : List (Fate R In Out)) → AllBecame work_of guests fates → All (IsGuestOf work_of hall) guests → All (IsOf hall) fates
  all_of hall [] [] all each = All-nil (IsOf hall)
  all_of hall [] (f ∷ fates) all each = absurd all
  all_of hall (g ∷ guests) [] all each = absurd all
  all_of hall (g ∷ guests) (f ∷ fates) all each = All-cons (IsOf hall) f fates (one_of hall g f all.0 (All-head (IsGuestOf work_of hall) g guests each)) (all_of hall guests fates all.1 (All-tail (IsGuestOf work_of hall) g guests each))

  new_same : (low high : ℕ) (guests : List (Guest Task In Out)) (fates : List (Fate R In Out)) → AllBecame work_of guests fates → GotNewPasses work_of low guests high → HaveNewPasses low fates high
  new_same low high [] [] all new = new
  new_same low high [] (f ∷ fates) all new = absurd all
  new_same low high (g ∷ guests) [] all new = absurd all
  new_same low high (Busy kept ∷ guests) (busy ends ∷ fates) all new = new_same low high guests fates all.1 new
  new_same low high (Busy kept ∷ guests) (sat sitting done ∷ fates) all new = absurd all.0
  new_same low high (Sits task ∷ guests) (busy ends ∷ fates) all new = absurd all.0
  new_same low high (Sits task ∷ guests) (sat sitting done ∷ fates) all new =
      let rest = new_same (suc (work_of task).writer.number) high guests fates all.1 new.1 in
      subst (λ s. AreNewPasses low s.reader s.writer × HaveNewPasses (suc s.writer.number) fates high) (sym all.0) (new.0, rest)

  most_taken : (stop : Stop) (count : ℕ) (guests : List (Guest Task In Out)) (lost : List (In × Out)) (left : Option (List (In × Out))) → StopsBy stop count guests lost left → (length guests + length lost ≤ count) × (length lost ≤ 1)
  most_taken stops.Full count guests lost left is = let none = ap length is.1 in let long = is.0 in (omega (arith, none, long), omega (arith, none))
  most_taken stops.End count guests lost left is = let none = ap length is.2 in let long = is.1 in (omega (arith, none, long), omega (arith, none))
  most_taken stops.DoorFault count guests lost left is = let none = ap length is.1 in let long = is.0 in (omega (arith, none, long), omega (arith, none))
  most_taken stops.Memory count guests lost left is = is

  none_lost : (stop : Stop) (whole : Bool) (count : ℕ) (guests : List (Guest Task In Out)) (lost : List (In × Out)) (left : Option (List (In × Out))) → StopsBy stop count guests lost left → served_by stop whole ≢ answers.Memory → lost ≡ []
  none_lost stops.Full whole count guests lost left is other = is.1
  none_lost stops.End whole count guests lost left is other = is.2
  none_lost stops.DoorFault whole count guests lost left is other = is.1
  none_lost stops.Memory whole count guests lost left is other = absurd (other refl)

  is_done : (stop : Stop) (whole : Bool) (count : ℕ) (guests : List (Guest Task In Out)) (lost : List (In × Out)) (left : Option (List (In × Out))) → StopsBy stop count guests lost left → served_by stop whole ≡ answers.Done
      → (whole ≡ true) × ((length guests ≡ count) ⊎ IsNoneLeft left)
  is_done stops.Full true count guests lost left is done = (refl, inl is.0)
  is_done stops.Full false count guests lost left is done = absurd (cc done)
  is_done stops.End true count guests lost left is done = (refl, inr is.0)
  is_done stops.End false count guests lost left is done = absurd (cc done)
  is_done stops.DoorFault whole count guests lost left is done = absurd (cc done)
  is_done stops.Memory whole count guests lost left is done = absurd (cc done)

  pub served : (hall : HallState World) (Done : Sitting R In Out → (In × Out) × Sat → Type 0) (written : Out → Option (List ℕ)) (stop : Stop) (whole : Bool) (count : ℕ) (guests : List (Guest Task In Out))
      (p r q : PassState Entry World) (low high : ℕ) (early late : Outside In Out) (b e : Option (List (In × Out))) (away0 away1 started : Option ℕ) (faults : ℕ) (answer : Served)
      → Takes work_of hall stop count guests early.coming b away0 away1 early.started started early.busy faults → HasGathered work_of Done guests r q e late.ended whole early.written late.written
      → late.coming ≡ b → e ≡ early.ended → late.started ≡ started → faults ≤ late.busy → answer ≡ served_by stop whole
      → r.own ≡ p.own → GotNewPasses work_of low guests high → (whole ≡ false → CountRose early.out_faults late.out_faults)
      → ((fates : List (Fate R In Out)) → All (IsOf hall) fates → All (HoldsIn Done q.front) fates → HaveNewPasses low fates high → NobodyElse q.front fates → All (IsToldItsOwn hall.origin q.front written) fates)
      → Serves hall Done written answer count p q low high early late
  served hall Done written stop whole count guests p r q low high early late b e away0 away1 started faults answer takes gathered left same_ended same_started more_faults is same_own new unprinted tell =
      let taken = takes.taken in
      let fates = gathered.fates in
      let became = gathered.became in
      let long = same_length work_of Done guests fates became in
      let most = most_taken stop count guests takes.lost b takes.stops in
      let shared = all_of hall guests fates became taken.each in
      let numbers = new_same low high guests fates became new in
      record {
        fates = fates;
        lost = takes.lost;
        came = taken.came ∙ ap (prepend_told (map (came_for work_of) guests ++ takes.lost)) (sym left) ∙ ap (λ l. prepend_told (l ++ takes.lost) late.coming) (came_same guests fates became);
        most = let bound = most.0 in omega (arith, bound, long);
        one_lost = most.1;
        none_lost = λ other. none_lost stop whole count guests takes.lost b takes.stops (λ same. other (is ∙ same));
        shared = shared;
        each = gathered.each;
        new = numbers;
        own = gathered.own ∙ ap (λ l. l ++ owns_of fates) same_own;
        told = tell fates shared gathered.each numbers;
        ended = gathered.ended ∙ ap (λ told. append_told told (ends_of fates)) same_ended;
        started = same_started ∙ taken.started ∙ ap (λ n. count_told n early.started) (sitting_same guests fates became);
        busy_rose =
            let rose = taken.busy in
            let number = busy_same guests fates became in
            let first = rose.0 in
            (omega (arith, first, more_faults), λ below. let next = rose.1 (omega (arith, below, more_faults)) in omega (arith, next, more_faults, number));
        whole = whole;
        printed = gathered.printed;
        unprinted = unprinted;
        done = λ so. let told = is_done stop whole count guests takes.lost b takes.stops (sym is ∙ so) in (told.0, by_cases (subst IsNoneLeft (sym left)) told.1 long);
      }
    where
      by_cases : {n m k : ℕ} {L M : Type 0} → (L → M) → (n ≡ k) ⊎ L → n ≡ m → (m ≡ k) ⊎ M
      by_cases f (inl e) same = inl (sym same ∙ e)
      by_cases f (inr l) same = inr (f l)

  pub few_taken : (stop : Stop) (count : ℕ) (guests : List (Guest Task In Out)) (lost : List (In × Out)) (left : Option (List (In × Out))) → StopsBy stop count guests lost left → count ≤ 1024 → length guests ≤ 1024
  few_taken stop count guests lost left is few = let most = most_taken stop count guests lost left is in let bound = most.0 in omega (arith, bound, few)

pub write_faults : (stop : Stop) (whole : Bool) (answer : Served) (before after : ℕ) → answer ≡ served_by stop whole → (whole ≡ false → CountRose before after) → answer ≡ answers.WriteFault → CountRose before after
write_faults stops.Full true answer before after is fault so = absurd (cc (is, so))
write_faults stops.Full false answer before after is fault so = fault refl
write_faults stops.End true answer before after is fault so = absurd (cc (is, so))
write_faults stops.End false answer before after is fault so = fault refl
write_faults stops.DoorFault whole answer before after is fault so = absurd (cc (is, so))
write_faults stops.Memory whole answer before after is fault so = absurd (cc (is, so))

pub door_faults : (stop : Stop) (whole : Bool) (answer : Served) (before mid after : ℕ) → answer ≡ served_by stop whole → (stop ≡ stops.DoorFault → CountRose before mid) → mid ≤ after → answer ≡ answers.DoorFault → CountRose before after
door_faults stops.Full true answer before mid after is fault more so = absurd (cc (is, so))
door_faults stops.Full false answer before mid after is fault more so = absurd (cc (is, so))
door_faults stops.End true answer before mid after is fault more so = absurd (cc (is, so))
door_faults stops.End false answer before mid after is fault more so = absurd (cc (is, so))
door_faults stops.DoorFault whole answer before mid after is fault more so = λ below. let rose = fault refl (omega (arith, below, more)) in omega (arith, rose, more)
door_faults stops.Memory whole answer before mid after is fault more so = absurd (cc (is, so))

pub split_longer : (hall : HallState World) (m : ℕ) (p q r : PassState Entry World) (u v : UsherState World) → HasSplit hall m p q u v → IsPassOf hall r → r.number ≡ q.number → IsPrefix q.front r.front → HasSplit hall m p r u v
split_longer hall m p q r u v split is same longer = record {
  can = record { pass_is = is; usher_is = split.can.usher_is; below = let b = split.can.below in omega (arith, b, same) };
  number = same ∙ split.number;
  front = prefix_trans p.front q.front r.front split.front longer;
  rose = split.rose;
  most_rose = split.most_rose;
}
