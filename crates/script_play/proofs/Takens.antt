-- Takens send nothing, and behind those of all seats nothing waits.
use Rattle.std.proofs.Common.{◌≡◌, ℕ, zero, suc, ◌+◌, ◌<◌, ◌≤◌, Bool, true, false, cond, ◌&&◌, eqb, List, [], ◌∷◌, ◌++◌, length, Some, None, refl, sym, ◌∙◌, ap, subst, arith, add-zero, eq-eqb}
use Rattle.std.specs.Prelude.{Option, option_map, IfSome, slice_get, nat_lt}
use Rattle.std.specs.List.{AllByRecursion}
use Rattle.std.proofs.lemmas.List.{append-nil}
use Rattle.std.proofs.lemmas.Bool.{eqb-true, ne_eqb}
use Rattle.std.proofs.lemmas.Bool.Decides.{nat_tests}
use Rattle.campaign_law.specs.declared.entry.Entry.{Entry}
use Rattle.campaign_law.specs.declared.entry.Entry.TheVariants.{Taken}
use Rattle.player_view.specs.Asked.{Asked}
use Rattle.views.specs.declared.view.View.{View}
use Rattle.view_lines.specs.Lines.{full_line}
use Rattle.player_view.specs.View.{view_of}
use Rattle.command_effects.specs.Settle.{IsSettled}
use Rattle.campaign_law.specs.Views.{change_line}
use Rattle.campaign_law.specs.Seat.{Seat, freed_seat, is_let_go, settled}
use Rattle.campaign_law.specs.Outcome.{Outcome, outcome_at, Report}
use Rattle.campaign_law.specs.World.{World, seat_at, asked_of, report_of, outcome_of, scene_after, addressed, is_present, some_to_list, lines_if_present, queued_lines, changed, seat_after, lines_of, step, replay}
use Rattle.campaign_law.proofs.Lists.{ap₂}
use Rattle.campaign_law.proofs.Settled.{scene_stays, replay_settled}
use Rattle.campaign_law.proofs.Views.{same_no_change}
use Rattle.campaign_law.proofs.Seats.{IsSound, settled-IsSound}
use Rattle.campaign_law.proofs.Sessions.{seat_at-after}
use Rattle.script_play.specs.Script.{taken_of, takens_below, takens, NothingWaits}
use Rattle.script_play.specs.Tagged.{tagged_lines, entry_text_below, entry_text, tagged}
use Rattle.script_play.proofs.Fronts.{replay-append, tagged-append}
use Rattle.script_play.proofs.EntryLines.{slice_get-past}

-- ---- what the definitions of views say of a Taken: it leaves what every seat is shown

done_none : (asked : Asked) (report : Report) (before : Option Seat) (seat count : ℕ) → (outcome_at asked report before (Taken seat count)).done ≡ None
done_none asked report None seat count = refl
done_none asked report (Some s) seat count = refl

scene_kept : (w : World) (seat count : ℕ) → IsSettled w.scene → scene_after w (Taken seat count) ≡ w.scene
scene_kept w seat count is = scene_stays w (Taken seat count) is (done_none (asked_of w seat) (report_of w (Taken seat count)) (seat_at w seat) seat count)

addressed_none : (p : ℕ) → addressed p [] ≡ []
unfolding addressed
addressed_none p = refl

view_kept : (w : World) (seat count p : ℕ) → IsSettled w.scene → change_line (view_of w.scene p) (view_of (scene_after w (Taken seat count)) p) ≡ None
view_kept w seat count p steady = ap (λ scene. change_line (view_of w.scene p) (view_of scene p)) (scene_kept w seat count steady) ∙ same_no_change (view_of w.scene p)

-- ---- it sends nothing

and_none : (acts : Bool) → (acts && false) ≡ false
and_none true = refl
and_none false = refl

present_none : (p : ℕ) (acts : Bool) (o : Outcome) (v v' : View) (present : Bool) → o.messages ≡ [] → o.full ≡ false → change_line v v' ≡ None → lines_if_present p acts o v v' present ≡ []
present_none p acts o v v' false m f c = refl
present_none p acts o v v' true m f c =
    ap₂ (λ ms full. addressed p ms ++ cond (acts && full) (full_line v' ∷ []) (some_to_list (change_line v v'))) m f
    ∙ ap₂ (λ ms full. ms ++ cond full (full_line v' ∷ []) (some_to_list (change_line v v'))) (addressed_none p) (and_none acts)
    ∙ ap some_to_list c

-- the outcome of a Taken, by its seat
record IsQuiet (o : Outcome) : Type 0 where
  reply : o.reply ≡ []
  direct : o.direct ≡ false
  messages : o.messages ≡ []
  full : o.full ≡ false
  book : o.book ≡ None

quiet_at : (asked : Asked) (report : Report) (before : Option Seat) (seat count : ℕ) → IsQuiet (outcome_at asked report before (Taken seat count))
quiet_at asked report None seat count = record { reply = refl; direct = refl; messages = refl; full = refl; book = refl }
quiet_at asked report (Some s) seat count = record { reply = refl; direct = refl; messages = refl; full = refl; book = refl }

quiet_of : (w : World) (seat count : ℕ) → IsQuiet (outcome_of w (Taken seat count))
quiet_of w seat count = quiet_at (asked_of w seat) (report_of w (Taken seat count)) (seat_at w seat) seat count

reply_none : (acts : Bool) (reply : List (List ℕ)) → reply ≡ [] → cond acts reply [] ≡ []
reply_none true reply h = h
reply_none false reply h = refl

reply_queued : (acts direct : Bool) (reply : List (List ℕ)) → reply ≡ [] → cond acts (cond direct [] reply) [] ≡ []
reply_queued true true reply h = refl
reply_queued true false reply h = h
reply_queued false direct reply h = refl

pub quiet_lines : (w : World) (seat count p : ℕ) → IsSettled w.scene → lines_of w (Taken seat count) p ≡ []
quiet_lines w seat count p steady =
    let o : Outcome = outcome_of w (Taken seat count) in
    let q = quiet_of w seat count in
    ap₂ (λ r ls. r ++ ls) (reply_none (eqb seat p) o.reply q.reply)
    (present_none p (eqb seat p) o (view_of w.scene p) (view_of (scene_after w (Taken seat count)) p) (is_present (eqb seat p) (seat_at w p) o) q.messages q.full (view_kept w seat count p steady))

quiet_queued : (w : World) (seat count p : ℕ) (before : Option Seat) → IsSettled w.scene → queued_lines p (eqb seat p) before (outcome_of w (Taken seat count)) (view_of w.scene p) (view_of (scene_after w (Taken seat count)) p) ≡ []
quiet_queued w seat count p before steady =
    let o : Outcome = outcome_of w (Taken seat count) in
    let q = quiet_of w seat count in
    ap₂ (λ r ls. r ++ ls) (reply_queued (eqb seat p) o.direct o.reply q.reply)
    (present_none p (eqb seat p) o (view_of w.scene p) (view_of (scene_after w (Taken seat count)) p) (is_present (eqb seat p) before o) q.messages q.full (view_kept w seat count p steady))

quiet_below : (w : World) (seat count n : ℕ) → IsSettled w.scene → entry_text_below w (Taken seat count) n ≡ []
quiet_below w seat count zero steady = refl
quiet_below w seat count (suc n) steady = ap₂ (λ t ls. t ++ tagged_lines n ls) (quiet_below w seat count n steady) (quiet_lines w seat count n steady)

quiet_text : (w : World) (seat count : ℕ) → IsSettled w.scene → entry_text w (Taken seat count) ≡ []
unfolding entry_text
quiet_text w seat count steady = quiet_below w seat count 33 steady

quiet_taken : (w : World) (seat : ℕ) (before : Option Seat) → IsSettled w.scene → tagged w (taken_of seat before) ≡ []
quiet_taken w seat None steady = refl
quiet_taken w seat (Some s) steady = by_waiting (eqb s.taken s.queued)
  where
    by_waiting : (all : Bool) → tagged w (cond all [] (Taken seat s.queued ∷ [])) ≡ []
    by_waiting true = refl
    by_waiting false = append-nil (entry_text w (Taken seat s.queued)) ∙ quiet_text w seat s.queued steady

quiet_takens : (now w : World) (n : ℕ) → IsSettled now.scene → tagged now (takens_below w n) ≡ []
quiet_takens now w zero steady = refl
quiet_takens now w (suc n) steady =
    tagged-append now (takens_below w n) (taken_of n (seat_at w n))
    ∙ ap₂ (λ x y. x ++ y) (quiet_takens now w n steady) (quiet_taken (replay now (takens_below w n)) n (seat_at w n) (replay_settled now (takens_below w n) steady))

pub takens_send_nothing : (w : World) → IsSettled w.scene → tagged w (takens w) ≡ []
unfolding takens
takens_send_nothing w steady = quiet_takens w w (length w.seats) steady

front_none : (xs ys : List ℕ) → xs ++ ys ≡ [] → xs ≡ []
front_none [] ys h = refl
front_none (x ∷ xs) ys h = cc

-- and so do the first of them
pub first_takens_send_nothing : (w : World) (front rest : List Entry) → IsSettled w.scene → takens w ≡ front ++ rest → tagged w front ≡ []
first_takens_send_nothing w front rest steady is = front_none (tagged w front) (tagged (replay w front) rest) (sym (tagged-append w front rest) ∙ ap (tagged w) (sym is) ∙ takens_send_nothing w steady)

-- ---- behind them nothing waits

pub record IsTaken (s : Seat) : Type 0 where
  pub all : s.taken ≡ s.queued
  pub sound : IsSound s

-- of the seat itself
taken_seat : (s : Seat) (o : Outcome) → IsSound s → o.book ≡ None → o.taken ≡ s.queued → IsTaken (settled 0 (changed o true s))
taken_seat s o sound book taken =
    let all : (changed o true s).taken ≡ s.queued = omega (arith, taken, sound.taken) in
    let within : (changed o true s).taken ≤ (changed o true s).queued = omega (arith, all) in
    record { all = by_going (changed o true s) (is_let_go (record (changed o true s) { queued = s.queued + 0 })) all; sound = settled-IsSound 0 (changed o true s) within }
  where
    by_going : (c : Seat) (t : Bool) → c.taken ≡ c.queued → (cond t (freed_seat (record c { queued = c.queued + 0 })) (record c { queued = c.queued + 0 })).taken ≡ (cond t (freed_seat (record c { queued = c.queued + 0 })) (record c { queued = c.queued + 0 })).queued
    by_going c true h = refl
    by_going c false h = h ∙ sym (add-zero c.queued)

count_at : (asked : Asked) (report : Report) (before : Option Seat) (s : Seat) (seat count : ℕ) → before ≡ Some s → (outcome_at asked report before (Taken seat count)).taken ≡ count
count_at asked report before s seat count is = ap (λ b. (outcome_at asked report b (Taken seat count)).taken) is

-- a seat after a Taken, before it is steady
after_taken : (w : World) (seat count p : ℕ) (s : Seat) → IsSettled w.scene → seat_at w p ≡ Some s → seat_at (step w (Taken seat count)) p ≡ Some (settled 0 (changed (outcome_of w (Taken seat count)) (eqb seat p) s))
after_taken w seat count p s steady is =
    seat_at-after w (Taken seat count) p
    ∙ ap (option_map (seat_after w (Taken seat count) p)) is
    ∙ ap (λ ls. Some (settled (length ls) (changed (outcome_of w (Taken seat count)) (eqb seat p) s))) (quiet_queued w seat count p (Some s) steady)

own_taken : (w : World) (seat : ℕ) (s : Seat) → IsSettled w.scene → seat_at w seat ≡ Some s → IsSound s → IfSome (seat_at (step w (Taken seat s.queued)) seat) IsTaken
own_taken w seat s steady is sound =
    let o : Outcome = outcome_of w (Taken seat s.queued) in
    let acts : eqb seat seat ≡ true = eq-eqb seat seat refl in
    subst (λ b. IfSome b IsTaken) (sym (after_taken w seat s.queued seat s steady is ∙ ap (λ a. Some (settled 0 (changed o a s))) acts))
    (taken_seat s o sound (quiet_of w seat s.queued).book (count_at (asked_of w seat) (report_of w (Taken seat s.queued)) (seat_at w seat) s seat s.queued is))

-- other seats stay as they were
other_kept : (w : World) (seat count p : ℕ) (before : Option Seat) → IsSettled w.scene → seat_at w p ≡ before → eqb seat p ≡ false → IfSome before IsSound → seat_at (step w (Taken seat count)) p ≡ before
other_kept w seat count p None steady is other sound = seat_at-after w (Taken seat count) p ∙ ap (option_map (seat_after w (Taken seat count) p)) is
other_kept w seat count p (Some s) steady is other sound =
    after_taken w seat count p s steady is
    ∙ ap (λ a. Some (settled 0 (changed (outcome_of w (Taken seat count)) a s))) other
    ∙ ap Some sound.settled

-- ---- one seat after the other

record IsTakenBelow (w now : World) (n : ℕ) : Type 0 where
  below : (p : ℕ) → p < n → IfSome (seat_at now p) IsTaken
  others : (p : ℕ) → n ≤ p → seat_at now p ≡ seat_at w p

abbrev pub AllSound : World → Type 0
AllSound w = (p : ℕ) → IfSome (seat_at w p) IsSound

some_sound : (before : Option Seat) → IfSome before IsTaken → IfSome before IsSound
some_sound None t = t
some_sound (Some s) t = t.sound

-- up to here, and here
one_more : (now : World) (n : ℕ) → ((p : ℕ) → p < n → IfSome (seat_at now p) IsTaken) → IfSome (seat_at now n) IsTaken → (p : ℕ) → p < suc n → IfSome (seat_at now p) IsTaken
one_more now n below here p lt = by_place (eqb n p) refl
  where
    by_place : (own : Bool) → eqb n p ≡ own → IfSome (seat_at now p) IsTaken
    by_place true h = subst (λ q. IfSome (seat_at now q) IsTaken) (eqb-true n p h) here
    by_place false h = below p (grind (arith, nat_tests))

-- with no Taken
passed : (w now : World) (n : ℕ) → IsTakenBelow w now n → IfSome (seat_at w n) IsTaken → IsTakenBelow w now (suc n)
passed w now n t here = record {
  below = one_more now n t.below (subst (λ b. IfSome b IsTaken) (sym (t.others n (omega arith))) here);
  others = λ p le. t.others p (omega arith);
}

distinct : (n p : ℕ) → p < n → eqb n p ≡ false
distinct n p lt = ne_eqb n p (λ h. absurd (omega (arith, h)))

distinct_above : (n p : ℕ) → suc n ≤ p → eqb n p ≡ false
distinct_above n p le = ne_eqb n p (λ h. absurd (omega (arith, h)))

-- with one
taken_here : (w now : World) (n : ℕ) (s : Seat) → IsSettled now.scene → AllSound w → IsTakenBelow w now n → seat_at w n ≡ Some s → IsTakenBelow w (step now (Taken n s.queued)) (suc n)
taken_here w now n s steady sound t is =
    let here : seat_at now n ≡ Some s = t.others n (omega arith) ∙ is in
    let sure : IsSound s = subst (λ b. IfSome b IsSound) is (sound n) in
    record {
      below = one_more (step now (Taken n s.queued)) n
          (λ p lt. subst (λ b. IfSome b IsTaken) (sym (other_kept now n s.queued p (seat_at now p) steady refl (distinct n p lt) (some_sound (seat_at now p) (t.below p lt)))) (t.below p lt))
          (own_taken now n s steady here sure);
      others = λ p le.
          let same : seat_at now p ≡ seat_at w p = t.others p (omega arith) in
          other_kept now n s.queued p (seat_at now p) steady refl (distinct_above n p le) (subst (λ b. IfSome b IsSound) (sym same) (sound p)) ∙ same;
    }

taken_next : (w now : World) (n : ℕ) (before : Option Seat) → IsSettled now.scene → AllSound w → IsTakenBelow w now n → seat_at w n ≡ before → IsTakenBelow w (replay now (taken_of n before)) (suc n)
taken_next w now n None steady sound t is = passed w now n t (subst (λ b. IfSome b IsTaken) (sym is) tt)
taken_next w now n (Some s) steady sound t is = by_waiting (eqb s.taken s.queued) refl
  where
    by_waiting : (all : Bool) → eqb s.taken s.queued ≡ all → IsTakenBelow w (replay now (cond all [] (Taken n s.queued ∷ []))) (suc n)
    by_waiting true h = passed w now n t (subst (λ b. IfSome b IsTaken) (sym is) (record { all = eqb-true s.taken s.queued h; sound = subst (λ b. IfSome b IsSound) is (sound n) }))
    by_waiting false h = taken_here w now n s steady sound t is

taken_below : (w : World) (n : ℕ) → IsSettled w.scene → AllSound w → IsTakenBelow w (replay w (takens_below w n)) n
taken_below w zero steady sound = record { below = λ p lt. absurd (omega arith); others = λ p le. refl }
taken_below w (suc n) steady sound =
    subst (λ now. IsTakenBelow w now (suc n)) (sym (replay-append w (takens_below w n) (taken_of n (seat_at w n))))
    (taken_next w (replay w (takens_below w n)) n (seat_at w n) (replay_settled w (takens_below w n) steady) sound (taken_below w n steady sound) refl)

all_of : (seats : List Seat) → ((p : ℕ) → IfSome (slice_get seats p) IsTaken) → AllByRecursion (λ s. s.taken ≡ s.queued) seats
all_of [] h = tt
all_of (s ∷ seats) h = ((h 0).all, all_of seats (λ p. h (suc p)))

-- behind the Takens no line waits
pub takens_take_all : (w : World) → IsSettled w.scene → AllSound w → NothingWaits (replay w (takens w))
unfolding takens
takens_take_all w steady sound =
    let now : World = replay w (takens_below w (length w.seats)) in
    let t : IsTakenBelow w now (length w.seats) = taken_below w (length w.seats) steady sound in
    all_of now.seats (λ p. by_place t p (nat_lt p (length w.seats)) refl)
  where
    by_place : {now : World} → IsTakenBelow w now (length w.seats) → (p : ℕ) → (within : Bool) → nat_lt p (length w.seats) ≡ within → IfSome (seat_at now p) IsTaken
    by_place t p true h = t.below p (grind (arith, nat_tests))
    by_place t p false h =
        let past : length w.seats ≤ p = grind (arith, nat_tests) in
        subst (λ b. IfSome b IsTaken) (sym (t.others p past ∙ slice_get-past w.seats p past)) tt

-- a seat of a world where nothing waits
pub all_at : (seats : List Seat) (p : ℕ) (s : Seat) → AllByRecursion (λ s. s.taken ≡ s.queued) seats → slice_get seats p ≡ Some s → s.taken ≡ s.queued
all_at [] p s all is = cc
all_at (x ∷ seats) zero s all is = subst (λ b. IfSome b (λ s. s.taken ≡ s.queued)) is all.0
all_at (x ∷ seats) (suc p) s all is = all_at seats p s all.1 is
