-- Leaves that drop send nothing, and behind those of all seats nothing waits.
use Rattle.std.proofs.Common.{◌≡◌, ℕ, zero, suc, ◌+◌, ◌<◌, ◌≤◌, Bool, true, false, cond, ◌&&◌, eqb, List, [], ◌∷◌, ◌++◌, length, Some, None, refl, sym, ◌∙◌, ap, subst, arith}
use Rattle.std.specs.Prelude.{Option, option_map, IfSome, slice_get, nat_lt}
use Rattle.std.specs.List.{AllByRecursion}
use Rattle.std.proofs.lemmas.List.{append-nil}
use Rattle.std.proofs.lemmas.Bool.{eqb-true, ne_eqb}
use Rattle.std.proofs.lemmas.Bool.Decides.{nat_tests}
use Rattle.seats.specs.Book.{freed}
use Rattle.seats.specs.SeatState.{is_free}
use Rattle.seats.specs.declared.seat_state.SeatState.{SeatState}
use Rattle.world.specs.Scene.{Scene}
use Rattle.views.specs.declared.view.View.{View}
use Rattle.view_lines.specs.Lines.{full_line}
use Rattle.player_view.specs.Asked.{Asked}
use Rattle.player_view.specs.View.{view_of}
use Rattle.command_effects.specs.Settle.{IsSettled}
use Rattle.campaign_law.specs.declared.entry.Entry.{Entry}
use Rattle.campaign_law.specs.declared.entry.Entry.TheVariants.{Leave}
use Rattle.campaign_law.specs.Views.{change_line}
use Rattle.campaign_law.specs.Seat.{Seat, freed_seat, settled}
use Rattle.campaign_law.specs.Outcome.{Outcome, Report, nothing, outcome_at}
use Rattle.campaign_law.specs.World.{World, seat_at, asked_of, report_of, outcome_of, scene_after, addressed, is_present, some_to_list, lines_if_present, entry_lines, changed, seat_after, lines_of, step, replay}
use Rattle.campaign_law.proofs.Lists.{ap₂}
use Rattle.campaign_law.proofs.Settled.{scene_stays, replay_settled}
use Rattle.campaign_law.proofs.Views.{same_no_change}
use Rattle.campaign_law.proofs.Seats.{IsSound, settled-free}
use Rattle.campaign_law.proofs.Sessions.{seat_at-after}
use Rattle.campaign_law.proofs.Refused.{after_quiet, queued_quiet, eqb-same, after_at, other_at}
use Rattle.crash_log.specs.Entries.{entry_bytes}
use Rattle.script_play.specs.Script.{NothingWaits}
use Rattle.script_play.specs.Tagged.{tagged_lines, entry_text_below, entry_text, tagged}
use Rattle.script_play.proofs.Fronts.{replay-append, tagged-append}
use Rattle.script_play.proofs.EntryLines.{slice_get-past}
use Rattle.script_play.proofs.Takens.{IsTaken, AllSound}
use Rattle.tabletop.specs.Logged.{leave_of, leaves_below, leaves, start_of}

-- ---- a Leave leaves what every seat is shown

abbrev leaving : ℕ → Entry
leaving seat = Leave seat true

record IsStill (o : Outcome) : Type 0 where
  reply : o.reply ≡ []
  messages : o.messages ≡ []
  full : o.full ≡ false
  done : o.done ≡ None

still_at : (asked : Asked) (report : Report) (before : Option Seat) (seat : ℕ) → IsStill (outcome_at asked report before (leaving seat))
still_at asked report None seat = record { reply = refl; messages = refl; full = refl; done = refl }
still_at asked report (Some s) seat = record { reply = refl; messages = refl; full = refl; done = refl }

still : (w : World) (seat : ℕ) → IsStill (outcome_of w (leaving seat))
still w seat = still_at (asked_of w seat) (report_of w (leaving seat)) (seat_at w seat) seat

scene_kept : (w : World) (seat : ℕ) → IsSettled w.scene → scene_after w (leaving seat) ≡ w.scene
scene_kept w seat steady = scene_stays w (leaving seat) steady (still w seat).done

-- ---- it sends nothing

addressed_none : (p : ℕ) → addressed p [] ≡ []
unfolding addressed
addressed_none p = refl

and_none : (acts : Bool) → (acts && false) ≡ false
and_none true = refl
and_none false = refl

reply_none : (acts : Bool) (reply : List (List ℕ)) → reply ≡ [] → cond acts reply [] ≡ []
reply_none true reply h = h
reply_none false reply h = refl

present_none : (p : ℕ) (acts : Bool) (o : Outcome) (v : View) (present : Bool) → o.messages ≡ [] → o.full ≡ false → lines_if_present p acts o v v present ≡ []
present_none p acts o v false m f = refl
present_none p acts o v true m f =
    ap₂ (λ ms full. addressed p ms ++ cond (acts && full) (full_line v ∷ []) (some_to_list (change_line v v))) m f
    ∙ ap₂ (λ ms full. ms ++ cond full (full_line v ∷ []) (some_to_list (change_line v v))) (addressed_none p) (and_none acts)
    ∙ ap some_to_list (same_no_change v)

lines_none : (p : ℕ) (acts : Bool) (before : Option Seat) (o : Outcome) (v : View) → IsStill o → entry_lines p acts before o v v ≡ []
lines_none p acts before o v h = ap₂ (λ r ls. r ++ ls) (reply_none acts o.reply h.reply) (present_none p acts o v (is_present acts before o) h.messages h.full)

quiet_lines : (w : World) (seat p : ℕ) → IsSettled w.scene → lines_of w (leaving seat) p ≡ []
quiet_lines w seat p steady =
    ap (λ (scene : Scene). entry_lines p (eqb seat p) (seat_at w p) (outcome_of w (leaving seat)) (view_of w.scene p) (view_of scene p)) (scene_kept w seat steady)
    ∙ lines_none p (eqb seat p) (seat_at w p) (outcome_of w (leaving seat)) (view_of w.scene p) (still w seat)

quiet_below : (w : World) (seat n : ℕ) → IsSettled w.scene → entry_text_below w (leaving seat) n ≡ []
quiet_below w seat zero steady = refl
quiet_below w seat (suc n) steady = ap₂ (λ t ls. t ++ tagged_lines n ls) (quiet_below w seat n steady) (quiet_lines w seat n steady)

quiet_text : (w : World) (seat : ℕ) → IsSettled w.scene → entry_text w (leaving seat) ≡ []
unfolding entry_text
quiet_text w seat steady = quiet_below w seat 33 steady

quiet_leave : (w : World) (seat : ℕ) (before : Option Seat) → IsSettled w.scene → tagged w (leave_of seat before) ≡ []
quiet_leave w seat None steady = refl
quiet_leave w seat (Some s) steady = by_state (is_free s.book.state)
  where
    by_state : (free : Bool) → tagged w (cond free [] (leaving seat ∷ [])) ≡ []
    by_state true = refl
    by_state false = append-nil (entry_text w (leaving seat)) ∙ quiet_text w seat steady

quiet_leaves : (now w : World) (n : ℕ) → IsSettled now.scene → tagged now (leaves_below w n) ≡ []
quiet_leaves now w zero steady = refl
quiet_leaves now w (suc n) steady =
    tagged-append now (leaves_below w n) (leave_of n (seat_at w n))
    ∙ ap₂ (λ x y. x ++ y) (quiet_leaves now w n steady) (quiet_leave (replay now (leaves_below w n)) n (seat_at w n) (replay_settled now (leaves_below w n) steady))

pub leaves_send_nothing : (w : World) → IsSettled w.scene → tagged w (leaves w) ≡ []
unfolding leaves
leaves_send_nothing w steady = quiet_leaves w w (length w.seats) steady

front_none : (xs ys : List ℕ) → xs ++ ys ≡ [] → xs ≡ []
front_none [] ys h = refl
front_none (x ∷ xs) ys h = cc

-- and so do the first of them
pub first_leaves_send_nothing : (w : World) (front rest : List Entry) → IsSettled w.scene → leaves w ≡ front ++ rest → tagged w front ≡ []
first_leaves_send_nothing w front rest steady is = front_none (tagged w front) (tagged (replay w front) rest) (sym (tagged-append w front rest) ∙ ap (tagged w) (sym is) ∙ leaves_send_nothing w steady)

-- ---- behind them nothing waits

freed_taken : (s : Seat) → IsTaken (freed_seat s)
freed_taken s = record { all = refl; sound = record { settled = refl; taken = omega arith } }

-- a seat that is Free already
free_taken : (s : Seat) → IsSound s → is_free s.book.state ≡ true → IsTaken s
free_taken s sound free =
    let same : s ≡ freed_seat s = sym sound.settled ∙ settled-free 0 s free in
    record { all = ap (λ (x : Seat). x.taken) same ∙ sym (ap (λ (x : Seat). x.queued) same); sound = sound }

frees : (seat : ℕ) (s : Seat) (scene : Scene) → after_quiet seat true (record nothing { book = Some (freed s.book) }) (view_of scene seat) s ≡ freed_seat s
frees seat s scene =
    let o : Outcome = record nothing { book = Some (freed s.book) } in
    ap (λ ls. settled (length ls) (changed o true s)) (queued_quiet seat true s o scene refl refl)

-- the seat itself
own_freed : (w : World) (seat : ℕ) (s : Seat) → IsSettled w.scene → seat_at w seat ≡ Some s → seat_at (step w (leaving seat)) seat ≡ Some (freed_seat s)
own_freed w seat s steady is =
    seat_at-after w (leaving seat) seat
    ∙ ap (option_map (seat_after w (leaving seat) seat)) is
    ∙ ap Some (after_at w (leaving seat) seat true s (scene_kept w seat steady) (eqb-same seat)
    ∙ ap (λ b. after_quiet seat true (outcome_at (asked_of w seat) (report_of w (leaving seat)) b (leaving seat)) (view_of w.scene seat) s) is
    ∙ frees seat s w.scene)

-- other seats stay as they were
other_kept : (w : World) (seat p : ℕ) → IsSettled w.scene → eqb seat p ≡ false → IfSome (seat_at w p) IsSound → seat_at (step w (leaving seat)) p ≡ seat_at w p
other_kept w seat p steady other sound =
    seat_at-after w (leaving seat) p ∙ other_at w (leaving seat) p (seat_at w p) (scene_kept w seat steady) sound other ((still w seat).messages, (still w seat).full)

-- ---- one seat after the other

record IsGoneBelow (w now : World) (n : ℕ) : Type 0 where
  below : (p : ℕ) → p < n → IfSome (seat_at now p) IsTaken
  others : (p : ℕ) → n ≤ p → seat_at now p ≡ seat_at w p

some_sound : (before : Option Seat) → IfSome before IsTaken → IfSome before IsSound
some_sound None t = t
some_sound (Some s) t = t.sound

-- up to here, and here
one_more : (now : World) (n : ℕ) → ((p : ℕ) → p < n → IfSome (seat_at now p) IsTaken) → IfSome (seat_at now n) IsTaken → (p : ℕ) → p < suc n → IfSome (seat_at now p) IsTaken
one_more now n below here p lt = by_place (eqb n p) refl
  where
    by_place : (own : Bool) → eqb n p ≡ own → IfSome (seat_at now p) IsTaken
    by_place true h = subst (λ q. IfSome (seat_at now q) IsTaken) (eqb-true n p h) here
    by_place false h = below p (grind (arith, nat_tests))

-- with no Leave
passed : (w now : World) (n : ℕ) → IsGoneBelow w now n → IfSome (seat_at w n) IsTaken → IsGoneBelow w now (suc n)
passed w now n t here = record {
  below = one_more now n t.below (subst (λ b. IfSome b IsTaken) (sym (t.others n (omega arith))) here);
  others = λ p le. t.others p (omega arith);
}

-- with one
gone_here : (w now : World) (n : ℕ) (s : Seat) → IsSettled now.scene → AllSound w → IsGoneBelow w now n → seat_at w n ≡ Some s → IsGoneBelow w (step now (leaving n)) (suc n)
gone_here w now n s steady sound t is =
    let here : seat_at now n ≡ Some s = t.others n (omega arith) ∙ is in
    record {
      below = one_more (step now (leaving n)) n
          (λ p lt. subst (λ b. IfSome b IsTaken) (sym (other_kept now n p steady (ne_eqb n p (λ h. absurd (omega (arith, h)))) (some_sound (seat_at now p) (t.below p lt)))) (t.below p lt))
          (subst (λ b. IfSome b IsTaken) (sym (own_freed now n s steady here)) (freed_taken s));
      others = λ p le.
          let same : seat_at now p ≡ seat_at w p = t.others p (omega arith) in
          other_kept now n p steady (ne_eqb n p (λ h. absurd (omega (arith, h)))) (subst (λ b. IfSome b IsSound) (sym same) (sound p)) ∙ same;
    }

gone_next : (w now : World) (n : ℕ) (before : Option Seat) → IsSettled now.scene → AllSound w → IsGoneBelow w now n → seat_at w n ≡ before → IsGoneBelow w (replay now (leave_of n before)) (suc n)
gone_next w now n None steady sound t is = passed w now n t (subst (λ b. IfSome b IsTaken) (sym is) tt)
gone_next w now n (Some s) steady sound t is = by_state (is_free s.book.state) refl
  where
    by_state : (free : Bool) → is_free s.book.state ≡ free → IsGoneBelow w (replay now (cond free [] (leaving n ∷ []))) (suc n)
    by_state true h = passed w now n t (subst (λ b. IfSome b IsTaken) (sym is) (free_taken s (subst (λ b. IfSome b IsSound) is (sound n)) h))
    by_state false h = gone_here w now n s steady sound t is

gone_below : (w : World) (n : ℕ) → IsSettled w.scene → AllSound w → IsGoneBelow w (replay w (leaves_below w n)) n
gone_below w zero steady sound = record { below = λ p lt. absurd (omega arith); others = λ p le. refl }
gone_below w (suc n) steady sound =
    subst (λ now. IsGoneBelow w now (suc n)) (sym (replay-append w (leaves_below w n) (leave_of n (seat_at w n))))
    (gone_next w (replay w (leaves_below w n)) n (seat_at w n) (replay_settled w (leaves_below w n) steady) sound (gone_below w n steady sound) refl)

all_of : (seats : List Seat) → ((p : ℕ) → IfSome (slice_get seats p) IsTaken) → AllByRecursion (λ s. s.taken ≡ s.queued) seats
all_of [] h = tt
all_of (s ∷ seats) h = ((h 0).all, all_of seats (λ p. h (suc p)))

pub nobody_waits : (w : World) → IsSettled w.scene → AllSound w → NothingWaits (start_of w)
unfolding leaves
nobody_waits w steady sound =
    let now : World = replay w (leaves_below w (length w.seats)) in
    let t : IsGoneBelow w now (length w.seats) = gone_below w (length w.seats) steady sound in
    all_of now.seats (λ p. by_place t p (nat_lt p (length w.seats)) refl)
  where
    by_place : {now : World} → IsGoneBelow w now (length w.seats) → (p : ℕ) → (within : Bool) → nat_lt p (length w.seats) ≡ within → IfSome (seat_at now p) IsTaken
    by_place t p true h = t.below p (grind (arith, nat_tests))
    by_place t p false h =
        let past : length w.seats ≤ p = grind (arith, nat_tests) in
        subst (λ b. IfSome b IsTaken) (sym (t.others p past ∙ slice_get-past w.seats p past)) tt

-- ---- their bytes

-- as a log takes them
abbrev pub IsShort : Entry → Type 0
IsShort e = length (entry_bytes e) ≤ 4098

leave_short : (seat : ℕ) (before : Option Seat) → AllByRecursion IsShort (leave_of seat before)
leave_short seat None = tt
leave_short seat (Some s) = by_state (is_free s.book.state)
  where
    by_state : (free : Bool) → AllByRecursion IsShort (cond free [] (leaving seat ∷ []))
    by_state true = tt
    by_state false = (omega arith, tt)

both_short : (xs ys : List Entry) → AllByRecursion IsShort xs → AllByRecursion IsShort ys → AllByRecursion IsShort (xs ++ ys)
both_short [] ys h k = k
both_short (x ∷ xs) ys h k = (h.0, both_short xs ys h.1 k)

short_below : (w : World) (n : ℕ) → AllByRecursion IsShort (leaves_below w n)
short_below w zero = tt
short_below w (suc n) = both_short (leaves_below w n) (leave_of n (seat_at w n)) (short_below w n) (leave_short n (seat_at w n))

pub leaves_short : (w : World) → AllByRecursion IsShort (leaves w)
unfolding leaves
leaves_short w = short_below w (length w.seats)

-- ---- as they are found, seat by seat

pub none_leaves : (seat : ℕ) (state : SeatState) (before : Option Seat) → Some state ≡ option_map (λ (s : Seat). s.book.state) before → is_free state ≡ true → leave_of seat before ≡ []
none_leaves seat state None is free = cc
none_leaves seat state (Some s) is free = by_state (is_free s.book.state) refl
  where
    by_state : (now : Bool) → is_free s.book.state ≡ now → cond now [] (leaving seat ∷ []) ≡ []
    by_state true h = refl
    by_state false h = let z : true ≡ false = sym free ∙ ap is_free (let same : state ≡ s.book.state = cc in same) ∙ h in cc

pub one_leaves : (seat : ℕ) (state : SeatState) (before : Option Seat) → Some state ≡ option_map (λ (s : Seat). s.book.state) before → is_free state ≡ false → leave_of seat before ≡ Leave seat true ∷ []
one_leaves seat state None is busy = cc
one_leaves seat state (Some s) is busy = by_state (is_free s.book.state) refl
  where
    by_state : (now : Bool) → is_free s.book.state ≡ now → cond now [] (leaving seat ∷ []) ≡ leaving seat ∷ []
    by_state true h = let z : false ≡ true = sym busy ∙ ap is_free (let same : state ≡ s.book.state = cc in same) ∙ h in cc
    by_state false h = refl

pub leaves_next : (w : World) (n : ℕ) → leaves_below w (n + 1) ≡ leaves_below w n ++ leave_of n (seat_at w n)
leaves_next w n = let next : n + 1 ≡ suc n = omega arith in ap (leaves_below w) next
