-- A session whose lines nobody else takes.
use Rattle.std.proofs.Common.{◌≡◌, ℕ, zero, suc, ◌≤◌, ◌<◌, Bool, true, false, List, [], ◌∷◌, ◌++◌, length, take, drop, map, max, get_or, slice_get, refl, sym, ◌∙◌, ap, subst, arith, inl, inr, eq-eqb}
use Rattle.std.specs.Prelude.{Option, Some, None, option_map, IfSome, All}
use Rattle.std.proofs.lemmas.List.{take-append-le, take_all}
use Rattle.std.proofs.lemmas.Option.{slice_get_within}
use Rattle.std.proofs.lemmas.List.Elements.{All-contains, Contains-append_cases}
use mathlib.Core.List.{IsPrefix}
use Rattle.seats.specs.SeatState.{is_free}
use Rattle.campaign_law.specs.declared.entry.Entry.{Entry}
use Rattle.campaign_law.specs.declared.entry.Entry.TheVariants.{Join, Line, Leave, Taken, Cut}
use Rattle.campaign_law.specs.Seat.{Seat}
use Rattle.campaign_law.specs.World.{World, seat_at, replay}
use Rattle.campaign_law.specs.Law.{IsOpening}
use Rattle.campaign_law.specs.Session.{session, waiting, standing_after, is_held_by, is_drop_of, DropsNone, TakesAtMost, NoneRejoins}
use Rattle.campaign_law.proofs.SessionLaws.{still_held, lasts, at_most, lines_counted, no_more_lines}
use Rattle.campaign_law.specs.SessionLaws.{Lasts}
use Rattle.campaign_law.proofs.CutSessions.{uncut_drops_by_leave}
use Rattle.turn_lock.proofs.Prefixes.{prefix_get}
use Rattle.session.specs.declared.hold.Hold.{Hold}
use Rattle.session.specs.Held.{is_held, is_cut, lines_of, is_over, HasJoined}
use Rattle.session.specs.Exchanged.{Waits}
use Rattle.session.specs.Own.{StandsAt, takes_from, IsAlone}
use Rattle.session.specs.Written.{IsTakenOf}

-- ---- in a front

front_take : {A : Type 0} (k : ℕ) (f h : List A) → IsPrefix f h → k ≤ length f → take k h ≡ take k f
front_take k f h prefix le = ap (take k) (sym prefix.1) ∙ take-append-le k f prefix.0 le

get_in_front : {A : Type 0} (f h : List A) (k : ℕ) (x : A) → IsPrefix f h → k < length f → slice_get h k ≡ Some x → slice_get f k ≡ Some x
get_in_front [] h k x prefix lt there = absurd (omega arith)
get_in_front (y ∷ f) [] k x prefix lt there = absurd (cc (prefix.1))
get_in_front (y ∷ f) (z ∷ h) zero x prefix lt there = cc (prefix.1, there)
get_in_front (y ∷ f) (z ∷ h) (suc k) x prefix lt there = get_in_front f h k x (prefix.0, cc (prefix.1)) (omega arith) there

-- what was accepted in a front was so in the whole, and the other way round once the front is long enough
pub joined_in_front : (w : World) (f h : List Entry) (hold : Hold) → IsPrefix f h → hold.place < length f → HasJoined w h hold → HasJoined w f hold
joined_in_front w f h hold prefix long joined = record {
  key = joined.key;
  join = get_in_front f h hold.place (Join hold.seat joined.key hold.reader hold.writer) prefix long joined.join;
  free = ap (λ l. is_free (standing_after w l hold.seat)) (sym (front_take hold.place f h prefix (omega arith))) ∙ joined.free;
  held = ap (λ l. is_held_by hold.reader hold.writer (standing_after w l hold.seat)) (sym (front_take (suc hold.place) f h prefix (omega arith))) ∙ joined.held;
}

pub alone_in_front : (w : World) (f h : List Entry) (own more : List ℕ) (hold : Hold) → IsPrefix f h → All (λ k. length f ≤ k) more → IsAlone w h (own ++ more) hold → IsAlone w f own hold
alone_in_front w f h own more hold prefix late alone = record {
  takes = λ k e behind open_ there takes.
      let lt = slice_get_within f k e there in
      elim (Contains-append_cases own more k (alone.takes k e behind (ap (λ l. is_over w l hold) (front_take k f h prefix (omega arith)) ∙ open_) (prefix_get f h k e prefix there) takes)) [
        | inl mine ↦ mine
        | inr new ↦ (let l : length f ≤ k = All-contains (λ k. length f ≤ k) more k late new in absurd (omega arith))
      ];
  once = λ k key behind there. alone.once k key behind (prefix_get f h k (Join hold.seat key hold.reader hold.writer) prefix there);
}

-- ---- own entries

-- what stands at own places stands there in a longer history
pub stands_longer : (rule : List Entry → Entry → Type 0) (f h : List Entry) (own : List ℕ) → IsPrefix f h → All (StandsAt rule f) own → All (StandsAt rule h) own
stands_longer rule f h own prefix each = λ i d lt. longer (get_or own i d) (each i d lt)
  where
    longer : (k : ℕ) → StandsAt rule f k → StandsAt rule h k
    longer k at =
        let lt = slice_get_within f k at.entry at.there in
        record { entry = at.entry; there = prefix_get f h k at.entry prefix at.there; lawful = subst (λ l. rule l at.entry) (sym (front_take k f h prefix (omega arith))) at.lawful }

pub more_counted : (w : World) (hold : Hold) (count larger : ℕ) (h : List Entry) (own : List ℕ) → count ≤ larger → All (StandsAt (IsTakenOf w hold count) h) own → All (StandsAt (IsTakenOf w hold larger) h) own
more_counted w hold count larger h own le each = λ i d lt. more (get_or own i d) (each i d lt)
  where
    more_of : (l : List Entry) (e : Entry) → IsTakenOf w hold count l e → IsTakenOf w hold larger l e
    more_of l (Join seat key reader writer) is = is
    more_of l (Line seat bytes) is = is
    more_of l (Leave seat drop) is = is
    more_of l (Taken seat taken) is = (is.0, omega (arith, is.1), is.2)
    more_of l (Cut seat) is = is

    more : (k : ℕ) → StandsAt (IsTakenOf w hold count) h k → StandsAt (IsTakenOf w hold larger) h k
    more k at = record { entry = at.entry; there = at.there; lawful = more_of (take k h) at.entry at.lawful }

module _ (w : World) (h : List Entry) (own : List ℕ) (hold : Hold) (count : ℕ) (alone : IsAlone w h own hold) (each : All (StandsAt (IsTakenOf w hold count) h) own) where
  own_at : (k : ℕ) (e : Entry) → hold.place < k → is_over w (take k h) hold ≡ false → slice_get h k ≡ Some e → takes_from hold.seat e ≡ true → IsTakenOf w hold count (take k h) e
  own_at k e behind open_ there takes =
      let at = All-contains (StandsAt (IsTakenOf w hold count) h) own k each (alone.takes k e behind open_ there takes) in
      let same : at.entry ≡ e = cc (at.there, there) in
      subst (IsTakenOf w hold count (take k h)) same at.lawful

  pub takes_within : TakesAtMost w h hold.place hold.seat count
  takes_within k n behind open_ there = (own_at k (Taken hold.seat n) behind open_ there (eq-eqb hold.seat hold.seat refl)).1

  -- where the session isn't cut
  pub drops_nothing : HasJoined w h hold → is_cut w h hold ≡ false → DropsNone w h hold.place hold.seat
  drops_nothing joined uncut k e behind open_ there = by_drop (is_drop_of hold.seat (standing_after w (take k h) hold.seat) e) refl
    where
      by_drop : (b : Bool) → is_drop_of hold.seat (standing_after w (take k h) hold.seat) e ≡ b → b ≡ false
      by_drop false drops = refl
      by_drop true drops =
          let lt = slice_get_within h k e there in
          let lasting : Lasts w h hold.place hold.seat k = record { behind = behind; within = omega (arith, lt); open_ = open_ } in
          let leave : e ≡ Leave hold.seat true = uncut_drops_by_leave w h hold.place hold.seat hold.reader hold.writer k e joined lasting there uncut drops in
          absurd (own_at k (Leave hold.seat true) behind open_ (there ∙ ap Some leave) (eq-eqb hold.seat hold.seat refl))

-- ---- what waits, and how it ends

-- once its passes don't hold the seat the session is over
pub over_when_gone : (w : World) (h : List Entry) (hold : Hold) → HasJoined w h hold → hold.place < length h → is_held w h hold ≡ false → is_over w h hold ≡ true
over_when_gone w h hold joined long gone = by_over (is_over w h hold) refl
  where
    whole : take (length h) h ≡ h
    whole = take_all (length h) h (omega arith)

    by_over : (b : Bool) → is_over w h hold ≡ b → b ≡ true
    by_over true e = refl
    by_over false e =
        let held = still_held w h hold.place hold.seat hold.reader hold.writer joined (length h) long (omega arith) (ap (λ l. is_over w l hold) whole ∙ e) in
        let z : true ≡ false = sym held ∙ ap (λ l. is_held w l hold) whole ∙ gone in cc

module _ (w : World) (h : List Entry) (hold : Hold) (count : ℕ) (opening : IsOpening w) (joined : HasJoined w h hold) (long : hold.place < length h) (within : TakesAtMost w h hold.place hold.seat count) where
  whole : take (length h) h ≡ h
  whole = take_all (length h) h (omega arith)

  -- the lines that wait behind the first of them are the next ones of the session
  pub waits_next : (lines : List (List ℕ)) → NoneRejoins h hold.place hold.seat hold.reader hold.writer → is_held w h hold ≡ true → Waits w h hold count lines → lines ≡ map (λ line. line ++ 10 ∷ []) (drop count (lines_of w h hold))
  waits_next lines once held waits =
      let open_ = lasts w h hold.place hold.seat hold.reader hold.writer joined (length h) long (omega arith) once (ap (λ l. is_held w l hold) whole ∙ held) in
      let same : session w h hold.seat ≡ lines_of w h hold =
      ap (λ l. session w l hold.seat) (sym whole) ∙ lines_counted w h hold.place hold.seat hold.reader hold.writer joined (length h) long (omega arith) open_ ∙ ap (λ l. lines_of w l hold) whole in
      let few = subst (λ l. IfSome (seat_at (replay w l) hold.seat) (λ s. s.taken ≤ count)) whole (at_most w h hold.place hold.seat hold.reader hold.writer joined count (length h) long (omega arith) opening within open_) in
      by_seat (seat_at (replay w h) hold.seat) few waits ∙ ap (λ ls. map (λ line. line ++ 10 ∷ []) (drop count ls)) same
    where
      by_seat : (s : Option Seat) → IfSome s (λ s. s.taken ≤ count) → Some lines ≡ option_map (λ s. waiting count s.taken (session w h hold.seat)) s → lines ≡ map (λ line. line ++ 10 ∷ []) (drop count (session w h hold.seat))
      by_seat None few is = cc
      by_seat (Some s) few is =
          let most : max count s.taken ≡ count = omega (arith, few) in
          let e : lines ≡ waiting count s.taken (session w h hold.seat) = cc in
          e ∙ ap (λ n. map (λ line. line ++ 10 ∷ []) (drop n (session w h hold.seat))) most

  -- and if nobody dropped its lines, it has no more lines than these
  pub no_more : DropsNone w h hold.place hold.seat → is_held w h hold ≡ false → length (lines_of w h hold) ≤ count
  no_more drops gone = no_more_lines w h hold.place hold.seat hold.reader hold.writer joined count long opening within drops (over_when_gone w h hold joined long gone)
