-- Cuts of seats for which too much waits, and of a session.
use Rattle.std.proofs.Common.{◌≡◌, ℕ, zero, suc, ◌≤◌, ◌<◌, ◌+◌, Bool, true, false, cond, eqb, ◌&&◌, List, [], ◌∷◌, ◌++◌, length, take, drop, map, slice_get, refl, sym, ◌∙◌, ap, subst, arith, append_assoc}
use Rattle.std.specs.Prelude.{Option, Some, None, option_map}
use Rattle.std.proofs.lemmas.Bool.{eqb-true}
use Rattle.std.proofs.lemmas.List.{append-nil}
use mathlib.Core.List.{IsPrefix}
use Rattle.seats.specs.SeatState.{is_joined}
use Rattle.seats.specs.declared.seat_state.SeatState.{SeatState}
use Rattle.seats.specs.declared.seat_state.SeatState.TheVariants.{Free, Joined, Closing}
use Rattle.campaign_law.specs.declared.entry.Entry.{Entry}
use Rattle.campaign_law.specs.declared.entry.Entry.TheVariants.{Join, Cut}
use Rattle.campaign_law.specs.Seat.{Seat, freed_seat}
use Rattle.campaign_law.specs.World.{World, seat_at, seat_after, step, replay}
use Rattle.campaign_law.specs.Law.{IsOpening}
use Rattle.campaign_law.specs.Cuts.{is_joined_by, is_cut_by}
use Rattle.campaign_law.specs.Session.{standing, standing_after, is_held_by}
use Rattle.campaign_law.specs.SessionLaws.{IsCut, cut_seat}
use Rattle.campaign_law.proofs.Cuts.{cut_frees}
use Rattle.campaign_law.proofs.CutSessions.{cut_stays, cut_at}
use Rattle.campaign_law.proofs.Lists.{length-mapped_from}
use Rattle.campaign_law.proofs.Sessions.{replay_more}
use Rattle.campaign_core.specs.Over.{over_of}
use Rattle.session.specs.declared.hold.Hold.{Hold}
use Rattle.session.specs.Held.{is_read, is_cut}
use Rattle.session.specs.Spoken.{AreOver, AreCut, CutsAll}

-- ---- how many seats are Joined

abbrev pub one_if_joined : Seat → ℕ
one_if_joined s = cond (is_joined s.book.state) 1 0

abbrev pub joined_seats : List Seat → ℕ
joined_seats [] = 0
joined_seats (s ∷ seats) = one_if_joined s + joined_seats seats

same_joined : (xs ys : List Seat) → length ys ≡ length xs → ((q : ℕ) → slice_get ys q ≡ slice_get xs q) → joined_seats ys ≡ joined_seats xs
same_joined [] [] long same = refl
same_joined [] (y ∷ ys) long same = absurd (omega (arith, long))
same_joined (x ∷ xs) [] long same = absurd (omega (arith, long))
same_joined (x ∷ xs) (y ∷ ys) long same =
    let first : y ≡ x = some_same y x (same 0) in
    let rest = same_joined xs ys (omega (arith, long)) (λ q. same (suc q)) in
    λ i. one_if_joined (first i) + rest i
  where
    some_same : (y x : Seat) → Some y ≡ Some x → y ≡ x
    some_same y x e = cc

not_next : (p q : ℕ) → (p ≡ q → ⊥) → suc p ≡ suc q → ⊥
not_next p q other same = other (omega (arith, same))

one_fewer : (x y : Seat) (xs ys : List Seat) → is_joined x.book.state ≡ true → is_joined y.book.state ≡ false → joined_seats ys ≡ joined_seats xs → joined_seats (y ∷ ys) < joined_seats (x ∷ xs)
one_fewer x y xs ys before after rest =
    let a : one_if_joined x ≡ 1 = ap (λ b. cond b 1 0) before in
    let b : one_if_joined y ≡ 0 = ap (λ b. cond b 1 0) after in
    omega (arith, a, b, rest)

-- where one is Joined before and not after, and the others stay, they are fewer
fewer_joined : (xs ys : List Seat) (p : ℕ) → length ys ≡ length xs → ((q : ℕ) → (p ≡ q → ⊥) → slice_get ys q ≡ slice_get xs q) → is_joined (standing (slice_get xs p)) ≡ true → is_joined (standing (slice_get ys p)) ≡ false → joined_seats ys < joined_seats xs
fewer_joined [] ys p long others before after = cc
fewer_joined (x ∷ xs) [] p long others before after = absurd (omega (arith, long))
fewer_joined (x ∷ xs) (y ∷ ys) zero long others before after =
    one_fewer x y xs ys before after (same_joined xs ys (omega (arith, long)) (λ q. others (suc q) (λ e. absurd (omega (arith, e)))))
fewer_joined (x ∷ xs) (y ∷ ys) (suc p) long others before after =
    let first : y ≡ x = some_same y x (others 0 (λ e. absurd (omega (arith, e)))) in
    let rest = fewer_joined xs ys p (omega (arith, long)) (λ q other. others (suc q) (not_next p q other)) before after in
    let a = ap one_if_joined first in
    omega (arith, a, rest)
  where
    some_same : (y x : Seat) → Some y ≡ Some x → y ≡ x
    some_same y x e = cc

-- a Joined seat isn't after its Cut
cut_is_not_joined : (before : Option Seat) → is_joined (standing before) ≡ true → is_joined (standing (option_map cut_seat before)) ≡ false
cut_is_not_joined None joined = cc
cut_is_not_joined (Some s) joined = ap (λ b. is_joined (cond b (freed_seat s) s).book.state) joined

eqb_other : (p q : ℕ) → (p ≡ q → ⊥) → eqb p q ≡ false
eqb_other p q other = by_bool (eqb p q) refl
  where
    by_bool : (b : Bool) → eqb p q ≡ b → b ≡ false
    by_bool false e = refl
    by_bool true e = absurd (other (eqb-true p q e))

-- so with each Cut of a Joined seat they are fewer
pub cut_fewer : (w : World) (h : List Entry) (seat : ℕ) → IsOpening w → is_joined (standing (seat_at (replay w h) seat)) ≡ true → joined_seats (replay w (h ++ Cut seat ∷ [])).seats < joined_seats (replay w h).seats
cut_fewer w h seat opening joined =
    let v : World = replay w h in
    let cut = cut_frees w h seat opening in
    subst (λ x. joined_seats x.seats < joined_seats v.seats) (sym (replay_more w h (Cut seat)))
    (fewer_joined v.seats (step v (Cut seat)).seats seat (length-mapped_from (seat_after v (Cut seat)) 0 v.seats) (λ q other. cut.others q (eqb_other seat q other)) joined
    (ap (λ s. is_joined (standing s)) cut.own ∙ cut_is_not_joined (seat_at v seat) joined))

-- ---- one Cut more

map-append_cut : (seats : List ℕ) (seat : ℕ) → map Cut (seats ++ seat ∷ []) ≡ map Cut seats ++ Cut seat ∷ []
map-append_cut [] seat = refl
map-append_cut (s ∷ seats) seat = ap (λ l. Cut s ∷ l) (map-append_cut seats seat)

over_more : (w : World) (h : List Entry) (seats : List ℕ) (seat : ℕ) → AreOver w h seats → over_of w (h ++ map Cut seats) ≡ Some seat → AreOver w h (seats ++ seat ∷ [])
over_more w h [] seat over next = (ap (over_of w) (sym (append-nil h)) ∙ next, tt)
over_more w h (s ∷ seats) seat over next = (over.0, over_more w (h ++ Cut s ∷ []) seats seat over.1 (ap (over_of w) (append_assoc h (Cut s ∷ []) (map Cut seats)) ∙ next))

pub none_cut : (w : World) (h : List Entry) → AreCut w h h
none_cut w h = record { seats = []; over = tt; there = sym (append-nil h) }

pub cut_further : (w : World) (h mid after : List Entry) (seat : ℕ) → AreCut w h mid → over_of w mid ≡ Some seat → after ≡ mid ++ Cut seat ∷ [] → AreCut w h after
cut_further w h mid after seat are over goes = record {
  seats = are.seats ++ seat ∷ [];
  over = over_more w h are.seats seat are.over (ap (over_of w) (sym are.there) ∙ over);
  there = goes ∙ ap (λ l. l ++ Cut seat ∷ []) are.there ∙ append_assoc h (map Cut are.seats) (Cut seat ∷ []) ∙ ap (λ l. h ++ l) (sym (map-append_cut are.seats seat));
}

-- ---- a seat that isn't read stays so

abbrev reads_by : Hold → SeatState → Bool
reads_by hold state = is_held_by hold.reader hold.writer state && is_joined state

own_unread : (hold : Hold) (before : Option Seat) → reads_by hold (standing before) ≡ false → reads_by hold (standing (option_map cut_seat before)) ≡ false
own_unread hold None closed = refl
own_unread hold (Some s) closed = by_joined (is_joined s.book.state) refl
  where
    by_joined : (j : Bool) → is_joined s.book.state ≡ j → reads_by hold (cond j (freed_seat s) s).book.state ≡ false
    by_joined true e = refl
    by_joined false e = closed

cut_unread : (w : World) (h : List Entry) (hold : Hold) (seat : ℕ) → IsOpening w → is_read w h hold ≡ false → is_read w (h ++ Cut seat ∷ []) hold ≡ false
cut_unread w h hold seat opening closed =
    ap (λ v. reads_by hold (standing (seat_at v hold.seat))) (replay_more w h (Cut seat)) ∙ by_seat (eqb seat hold.seat) refl
  where
    cut : IsCut (replay w h) seat
    cut = cut_frees w h seat opening

    by_seat : (b : Bool) → eqb seat hold.seat ≡ b → reads_by hold (standing (seat_at (step (replay w h) (Cut seat)) hold.seat)) ≡ false
    by_seat false e = ap (λ s. reads_by hold (standing s)) (cut.others hold.seat e) ∙ closed
    by_seat true e =
        let same : seat ≡ hold.seat = eqb-true seat hold.seat e in
        subst (λ p. reads_by hold (standing (seat_at (step (replay w h) (Cut seat)) p)) ≡ false) same
        (ap (λ s. reads_by hold (standing s)) cut.own ∙ own_unread hold (seat_at (replay w h) seat) (ap (λ p. reads_by hold (standing (seat_at (replay w h) p))) same ∙ closed))

cuts_unread : (w : World) (h : List Entry) (hold : Hold) (seats : List ℕ) → IsOpening w → is_read w h hold ≡ false → is_read w (h ++ map Cut seats) hold ≡ false
cuts_unread w h hold [] opening closed = ap (λ l. is_read w l hold) (append-nil h) ∙ closed
cuts_unread w h hold (s ∷ seats) opening closed =
    ap (λ l. is_read w l hold) (sym (append_assoc h (Cut s ∷ []) (map Cut seats))) ∙ cuts_unread w (h ++ Cut s ∷ []) hold seats opening (cut_unread w h hold s opening closed)

pub all_cut_unread : (w : World) (h after : List Entry) (hold : Hold) → IsOpening w → CutsAll w h after → is_read w h hold ≡ false → is_read w after hold ≡ false
all_cut_unread w h after hold opening cuts closed = ap (λ l. is_read w l hold) cuts.are.there ∙ cuts_unread w h hold cuts.are.seats opening closed

-- ---- Cuts of a session

-- one in a front of the history is one in the whole
pub cut_longer : (w : World) (f h : List Entry) (hold : Hold) → IsPrefix f h → hold.place < length f → is_cut w f hold ≡ true → is_cut w h hold ≡ true
cut_longer w f h hold prefix long cut = subst (λ l. is_cut w l hold ≡ true) prefix.1 (cut_stays w f prefix.0 hold.place hold.seat hold.reader hold.writer (omega (arith, long)) cut)

joined_by : (reader writer : ℕ) (state : SeatState) → (is_held_by reader writer state && is_joined state) ≡ true → is_joined_by reader writer state ≡ true
joined_by reader writer Free read = cc
joined_by reader writer (Joined r v) read = first (eqb r reader && eqb v writer) true read
  where
    first : (a b : Bool) → (a && b) ≡ true → a ≡ true
    first true b h = refl
    first false b h = cc
joined_by reader writer (Closing r v) read = second (eqb r reader && eqb v writer) false read
  where
    second : (a b : Bool) → (a && b) ≡ true → b ≡ true
    second true b h = h
    second false b h = cc

-- a Cut of its seat, which it finds read
pub read_seat_cut : (w : World) (h : List Entry) (hold : Hold) (n seat : ℕ) → hold.place ≤ n → slice_get h n ≡ Some (Cut seat) → eqb seat hold.seat ≡ true → is_read w (take n h) hold ≡ true → is_cut w h hold ≡ true
read_seat_cut w h hold n seat behind there own read =
    cut_at w h hold.place hold.seat hold.reader hold.writer n (Cut seat) behind there (λ i. own i && joined_by hold.reader hold.writer (standing_after w (take n h) hold.seat) read i)

drop_here : (f es : List Entry) → drop (length f) (f ++ es) ≡ es
drop_here [] es = refl
drop_here (x ∷ f) es = drop_here f es

-- where its Join is the last entry it isn't cut
pub uncut_at_join : (w : World) (found after : List Entry) (hold : Hold) (key : List ℕ) → after ≡ found ++ Join hold.seat key hold.reader hold.writer ∷ [] → hold.place ≡ length found → is_cut w after hold ≡ false
uncut_at_join w found after hold key last place =
    let behind : drop hold.place after ≡ Join hold.seat key hold.reader hold.writer ∷ [] =
    (λ i. drop (place i) (last i)) ∙ drop_here found (Join hold.seat key hold.reader hold.writer ∷ []) in
    ap (λ es. is_cut_by (replay w (take hold.place after)) es hold.seat hold.reader hold.writer) behind
