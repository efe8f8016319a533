-- Connections that were taken, one more and then another.
use Rattle.std.proofs.Common.{◌≡◌, ◌≤◌, ◌<◌, ◌+◌, ℕ, suc, List, [], ◌∷◌, ◌++◌, map, length, refl, sym, ap, subst, ◌∙◌, arith, append_assoc}
use Rattle.std.specs.Prelude.{Option, Some, None, IfSome}
use Rattle.std.proofs.lemmas.List.{append-nil}
use Rattle.std.proofs.lemmas.List.Elements.{All-nil, All-push}
use Rattle.line_io.specs.Connections.{prepend_told, add_told, count_told, IsAtLeast}
use Rattle.campaign_law.specs.declared.entry.Entry.{Entry}
use Rattle.campaign_law.specs.World.{World}
use Rattle.turn_lock.specs.Pass.{HallState}
use Rattle.serving.specs.declared.sittings.Sitting.{Sitting}
use Rattle.serving.specs.declared.guests.Guest.{Guest}
use Rattle.serving.specs.declared.guests.Guest.TheVariants.{Busy, Sits}
use Rattle.serving.specs.declared.guests.Admission.{Admission}
use Rattle.serving.specs.declared.guests.Admission.TheVariants.{Taken, Stopped}
use Rattle.serving.specs.declared.guests.Stop.{Stop}
use Rattle.serving.specs.declared.guests.Stop.TheVariants as stops
use Rattle.turn_lock.specs.Pass.{UsherState, PassState}
use Rattle.turn_lock.proofs.Prefixes.{prefix_self, prefix_trans}
use Rattle.serving.specs.Alone.{AreNewPasses}
use Rattle.serving.specs.Guests.{GotNewPasses, Takes, StaysAs, HasSplit, CanSplit, came_for, IsGuestOf, one_busy, one_sitting, busy_in, sitting_in, Admits, Seats, HasTaken, HasTakenOne, HasLostOne}

module _ {R In Out Task : Type 0} (work_of : Task → Sitting R In Out) (hall : HallState World) where
  pub admits_seated : (ends : In × Out) (came : Admission Task In Out) (to_come left : Option (List (In × Out))) (away_before away_after started_before started_after : Option ℕ) (faults_before faults_after : ℕ)
      → to_come ≡ prepend_told (ends ∷ []) left → away_after ≡ add_told 1 away_before
      → Seats work_of hall ends came started_before started_after faults_before faults_after
      → Admits work_of hall came to_come left away_before away_after started_before started_after faults_before faults_after
  admits_seated ends (Taken guest) to_come left away_before away_after started_before started_after faults_before faults_after coming away seats = record {
    guest_is = seats.0;
    came = coming ∙ ap (λ e. prepend_told (e ∷ []) left) (sym seats.1);
    away = away;
    started = seats.2;
    busy = seats.3;
  }
  admits_seated ends (Stopped stops.Full) to_come left away_before away_after started_before started_after faults_before faults_after coming away seats = absurd seats
  admits_seated ends (Stopped stops.End) to_come left away_before away_after started_before started_after faults_before faults_after coming away seats = absurd seats
  admits_seated ends (Stopped stops.DoorFault) to_come left away_before away_after started_before started_after faults_before faults_after coming away seats = absurd seats
  admits_seated ends (Stopped stops.Memory) to_come left away_before away_after started_before started_after faults_before faults_after coming away seats = record {
    ends = ends;
    came = coming;
    away = away;
    started = seats.0;
    count = seats.1;
  }

pub of_some : {A : Type 0} (P : A → Type 0) (found : Option A) (x : A) → found ≡ Some x → IfSome found P → P x
of_some P found x is holds = subst (λ o. IfSome o P) is holds

module _ {A : Type 0} where
  prepend_more : (first more : List A) (a b c : Option (List A)) → a ≡ prepend_told first b → b ≡ prepend_told more c → a ≡ prepend_told (first ++ more) c
  prepend_more first more a b None one two = one ∙ ap (prepend_told first) two
  prepend_more first more a b (Some left) one two = one ∙ ap (prepend_told first) two ∙ ap Some (sym (append_assoc first more left))

module _ {Task In Out : Type 0} where
  pub busy_snoc : (guests : List (Guest Task In Out)) (guest : Guest Task In Out) → busy_in (guests ++ guest ∷ []) ≡ busy_in guests + one_busy guest
  busy_snoc [] guest = omega arith
  busy_snoc (g ∷ gs) guest = omega (arith, busy_snoc gs guest)

  pub sitting_snoc : (guests : List (Guest Task In Out)) (guest : Guest Task In Out) → sitting_in (guests ++ guest ∷ []) ≡ sitting_in guests + one_sitting guest
  sitting_snoc [] guest = omega arith
  sitting_snoc (g ∷ gs) guest = omega (arith, sitting_snoc gs guest)

  one_more : (n : ℕ) (guest : Guest Task In Out) (a b c : Option ℕ) → b ≡ count_told n a → c ≡ count_told (one_sitting guest) b → c ≡ count_told (n + one_sitting guest) a
  one_more n (Busy ends) a b c first next = let same : n ≡ n + 0 = omega arith in next ∙ first ∙ ap (λ k. count_told k a) same
  one_more n (Sits task) a b c first next = let same : suc n ≡ n + 1 = omega arith in next ∙ ap (count_told 1) first ∙ ap (λ k. count_told k a) same

  one_away : (n : ℕ) (guest : Guest Task In Out) (a b : Option ℕ) → IsAtLeast n a → b ≡ add_told 1 a → IsAtLeast (n + one_sitting guest) b
  one_away n guest None b least is = subst (IsAtLeast (n + one_sitting guest)) (sym is) tt
  one_away n (Busy ends) (Some k) b least is = subst (IsAtLeast (n + 0)) (sym is) (omega (arith, least))
  one_away n (Sits task) (Some k) b least is = subst (IsAtLeast (n + 1)) (sym is) (omega (arith, least))

map_snoc : {A B : Type 0} (f : A → B) (xs : List A) (x : A) → map f (xs ++ x ∷ []) ≡ map f xs ++ f x ∷ []
map_snoc f [] x = refl
map_snoc f (y ∷ ys) x = ap (λ l. f y ∷ l) (map_snoc f ys x)

append_nothing : {A : Type 0} (told : Option (List A)) → told ≡ prepend_told [] told
append_nothing None = refl
append_nothing (Some all) = refl

module _ {R In Out Task : Type 0} (work_of : Task → Sitting R In Out) (hall : HallState World) where
  -- none so far
  pub took_none : (to_come : Option (List (In × Out))) (away started : Option ℕ) (faults : ℕ) → HasTaken work_of hall [] [] to_come to_come away away started started faults faults
  took_none to_come away started faults = record {
    each = All-nil (IsGuestOf work_of hall);
    came = append_nothing to_come;
    away = at_least_none away;
    started = refl;
    busy = (omega arith, λ below. omega arith);
  }
    where
      at_least_none : (told : Option ℕ) → IsAtLeast 0 told
      at_least_none None = tt
      at_least_none (Some n) = omega arith

  -- and one more
  pub took_more : (guests : List (Guest Task In Out)) (guest : Guest Task In Out) (a b c : Option (List (In × Out))) (away0 away1 away2 started0 started1 started2 : Option ℕ) (faults0 faults1 faults2 : ℕ)
      → HasTaken work_of hall guests [] a b away0 away1 started0 started1 faults0 faults1
      → HasTakenOne work_of hall guest b c away1 away2 started1 started2 faults1 faults2
      → HasTaken work_of hall (guests ++ guest ∷ []) [] a c away0 away2 started0 started2 faults0 faults2
  took_more guests guest a b c away0 away1 away2 started0 started1 started2 faults0 faults1 faults2 taken one = record {
    each = All-push (IsGuestOf work_of hall) guests guest taken.each one.guest_is;
    came = prepend_more (map (came_for work_of) guests ++ []) (came_for work_of guest ∷ []) a b c taken.came one.came
        ∙ ap (λ l. prepend_told l c) (ap (λ l. l ++ came_for work_of guest ∷ []) (append-nil (map (came_for work_of) guests)) ∙ sym (map_snoc (came_for work_of) guests guest) ∙ sym (append-nil (map (came_for work_of) (guests ++ guest ∷ []))));
    away = subst (λ n. IsAtLeast n away2) (sym (sitting_snoc guests guest)) (one_away (sitting_in guests) guest away1 away2 taken.away one.away);
    started = one_more (sitting_in guests) guest started0 started1 started2 taken.started one.started ∙ ap (λ n. count_told n started0) (sym (sitting_snoc guests guest));
    busy =
        let first = taken.busy in
        let next = one.busy in
        let sums = busy_snoc guests guest in
        (omega (arith, first.0, next.0), λ below. let more = next.1 below in let start = first.1 (omega (arith, below, next.0)) in omega (arith, sums, more, start));
  }

  -- and one that was lost
  pub took_lost : (guests : List (Guest Task In Out)) (a b c : Option (List (In × Out))) (away0 away1 away2 started0 started1 started2 : Option ℕ) (faults0 faults1 faults2 : ℕ)
      → HasTaken work_of hall guests [] a b away0 away1 started0 started1 faults0 faults1
      → (lost : HasLostOne work_of hall b c away1 away2 started1 started2 faults1 faults2)
      → HasTaken work_of hall guests (lost.ends ∷ []) a c away0 away2 started0 started2 faults0 faults2
  took_lost guests a b c away0 away1 away2 started0 started1 started2 faults0 faults1 faults2 taken lost = record {
    each = taken.each;
    came = prepend_more (map (came_for work_of) guests ++ []) (lost.ends ∷ []) a b c taken.came lost.came
        ∙ ap (λ l. prepend_told (l ++ lost.ends ∷ []) c) (append-nil (map (came_for work_of) guests));
    away = at_least_more (sitting_in guests) away1 away2 taken.away lost.away;
    started = lost.started ∙ taken.started;
    busy =
        let first = taken.busy in
        let next = lost.count in
        (omega (arith, first.0, next), λ below. let start = first.1 (omega (arith, below, next)) in omega (arith, next, start));
  }
    where
      at_least_more : (n : ℕ) (a b : Option ℕ) → IsAtLeast n a → b ≡ add_told 1 a → IsAtLeast n b
      at_least_more n None b least is = subst (IsAtLeast n) (sym is) tt
      at_least_more n (Some k) b least is = subst (IsAtLeast n) (sym is) (omega (arith, least))

  took_same : (guests : List (Guest Task In Out)) (a b c : Option (List (In × Out))) (away0 away1 away2 started0 started1 started2 : Option ℕ) (faults0 faults1 faults2 : ℕ)
      → HasTaken work_of hall guests [] a b away0 away1 started0 started1 faults0 faults1
      → StaysAs b c away1 away2 started1 started2 faults1 faults2
      → HasTaken work_of hall guests [] a c away0 away2 started0 started2 faults0 faults2
  took_same guests a b c away0 away1 away2 started0 started1 started2 faults0 faults1 faults2 taken same = record {
    each = taken.each;
    came = taken.came ∙ ap (prepend_told (map (came_for work_of) guests ++ [])) (sym same.0);
    away = subst (IsAtLeast (sitting_in guests)) (sym same.1) taken.away;
    started = same.2 ∙ taken.started;
    busy =
        let first = taken.busy in
        let next = same.3 in
        (omega (arith, first.0, next), λ below. let start = first.1 (omega (arith, below, next)) in omega (arith, next, start));
  }

  -- the connections so far, where no more are taken
  pub takes_stopped : (stop : Stop) (k count : ℕ) (guests : List (Guest Task In Out)) (a b c : Option (List (In × Out))) (away0 away1 away2 started0 started1 started2 : Option ℕ) (faults0 faults1 faults2 : ℕ)
      → HasTaken work_of hall guests [] a b away0 away1 started0 started1 faults0 faults1 → length guests ≡ k → k < count
      → Admits work_of hall (Stopped stop) b c away1 away2 started1 started2 faults1 faults2
      → Takes work_of hall stop count guests a c away0 away2 started0 started2 faults0 faults2
  takes_stopped stops.Full k count guests a b c away0 away1 away2 started0 started1 started2 faults0 faults1 faults2 taken long more stopped = absurd stopped
  takes_stopped stops.End k count guests a b c away0 away1 away2 started0 started1 started2 faults0 faults1 faults2 taken long more stopped = record {
    lost = [];
    taken = took_same guests a b c away0 away1 away2 started0 started1 started2 faults0 faults1 faults2 taken stopped.1;
    stops = (stopped.0, omega (arith, long, more), refl);
  }
  takes_stopped stops.DoorFault k count guests a b c away0 away1 away2 started0 started1 started2 faults0 faults1 faults2 taken long more stopped = record {
    lost = [];
    taken = took_same guests a b c away0 away1 away2 started0 started1 started2 faults0 faults1 faults2 taken stopped;
    stops = (omega (arith, long, more), refl);
  }
  takes_stopped stops.Memory k count guests a b c away0 away1 away2 started0 started1 started2 faults0 faults1 faults2 taken long more stopped = record {
    lost = stopped.ends ∷ [];
    taken = took_lost guests a b c away0 away1 away2 started0 started1 started2 faults0 faults1 faults2 taken stopped;
    stops = (omega (arith, long, more), omega arith);
  }

  pub takes_full : (k count : ℕ) (guests : List (Guest Task In Out)) (a b : Option (List (In × Out))) (away0 away1 started0 started1 : Option ℕ) (faults0 faults1 : ℕ)
      → HasTaken work_of hall guests [] a b away0 away1 started0 started1 faults0 faults1 → length guests ≡ k → k ≤ count → (k < count → ⊥)
      → Takes work_of hall stops.Full count guests a b away0 away1 started0 started1 faults0 faults1
  takes_full k count guests a b away0 away1 started0 started1 faults0 faults1 taken long most all = record {
    lost = [];
    taken = taken;
    stops = (omega (arith, long, most, all), refl);
  }

  pub takes_none : (count : ℕ) (guests : List (Guest Task In Out)) (to_come : Option (List (In × Out))) (away started : Option ℕ) (faults : ℕ) → guests ≡ []
      → Takes work_of hall stops.Memory count guests to_come to_come away away started started faults faults
  takes_none count guests to_come away started faults none =
      subst (λ items. Takes work_of hall stops.Memory count items to_come to_come away away started started faults faults) (sym none)
      (record { lost = []; taken = took_none to_come away started faults; stops = (omega arith, omega arith) })

module _ {R In Out Task : Type 0} (work_of : Task → Sitting R In Out) where
  -- further numbers may be given
  pub new_passes_below : (low high higher : ℕ) (guests : List (Guest Task In Out)) → GotNewPasses work_of low guests high → high ≤ higher → GotNewPasses work_of low guests higher
  new_passes_below low high higher [] new le = omega (arith, new, le)
  new_passes_below low high higher (Busy ends ∷ guests) new le = new_passes_below low high higher guests new le
  new_passes_below low high higher (Sits task ∷ guests) new le = (new.0, new_passes_below (suc (work_of task).writer.number) high higher guests new.1 le)

  from_lower : (lower low : ℕ) (reader writer : PassState Entry World) → lower ≤ low → AreNewPasses low reader writer → AreNewPasses lower reader writer
  from_lower lower low reader writer le new = record { reader_new = new.reader_new; writer_new = new.writer_new; from_low = let from = new.from_low in omega (arith, le, from); next = new.next }

  new_passes_from : (lower low high : ℕ) (guests : List (Guest Task In Out)) → lower ≤ low → GotNewPasses work_of low guests high → GotNewPasses work_of lower guests high
  new_passes_from lower low high [] le new = omega (arith, le, new)
  new_passes_from lower low high (Busy ends ∷ guests) le new = new_passes_from lower low high guests le new
  new_passes_from lower low high (Sits task ∷ guests) le new = (from_lower lower low (work_of task).reader (work_of task).writer le new.0, new.1)

  pub new_passes_more : (low mid high : ℕ) (guests : List (Guest Task In Out)) (guest : Guest Task In Out) → GotNewPasses work_of low guests mid → GotNewPasses work_of mid (guest ∷ []) high → GotNewPasses work_of low (guests ++ guest ∷ []) high
  new_passes_more low mid high [] guest new one = new_passes_from low mid high (guest ∷ []) new one
  new_passes_more low mid high (Busy ends ∷ guests) guest new one = new_passes_more low mid high guests guest new one
  new_passes_more low mid high (Sits task ∷ guests) guest new one = (new.0, new_passes_more (suc (work_of task).writer.number) mid high guests guest new.1 one)

module _ (hall : HallState World) where
  pub split_none : (p : PassState Entry World) (u : UsherState World) → CanSplit hall p u → HasSplit hall 0 p p u u
  split_none p u can = record { can = can; number = refl; front = prefix_self p.front; rose = omega arith; most_rose = omega arith }

  pub split_more : (k m : ℕ) (p q r : PassState Entry World) (u v w : UsherState World) → HasSplit hall k p q u v → HasSplit hall 2 q r v w → k + 2 ≤ m → HasSplit hall m p r u w
  split_more k m p q r u v w first next room = record {
    can = next.can;
    number = next.number ∙ first.number;
    front = prefix_trans p.front q.front r.front first.front next.front;
    rose = let a = first.rose in let b = next.rose in omega (arith, a, b);
    most_rose = let a = first.most_rose in let b = next.most_rose in omega (arith, a, b, room);
  }

  pub split_at_most : (k m : ℕ) (p q : PassState Entry World) (u v : UsherState World) → HasSplit hall k p q u v → k ≤ m → HasSplit hall m p q u v
  split_at_most k m p q u v split room = record {
    can = split.can;
    number = split.number;
    front = split.front;
    rose = split.rose;
    most_rose = let a = split.most_rose in omega (arith, a, room);
  }
