-- Where nobody else entered anything, no session of a hall is disturbed.
use Rattle.std.proofs.Common.{◌≡◌, ◌<◌, ◌≤◌, ◌⊎◌, inl, inr, ℕ, zero, suc, true, false, List, [], ◌∷◌, ◌++◌, take, length, slice_get, All, refl, sym, ap, subst, ◌∙◌, arith, append_assoc}
use Rattle.std.specs.Prelude.{◌==◌, Contains, Option, Some, None}
use Rattle.std.specs.List.{AllByRecursion}
use Rattle.std.specs.Arc.{arc_value}
use Rattle.std.proofs.lemmas.List.{take-append-le}
use Rattle.std.proofs.lemmas.List.Elements.{All-nil, All-cons, All-weaker, All-append, All-contains, All-from_recursion, recursion_from_All, Contains-append_cases}
use Rattle.std.proofs.lemmas.Bool.{and_parts, eqb-true}
use Rattle.std.proofs.lemmas.Option.{slice_get_within}
use Rattle.std.proofs.Math.Logic.{∥∥₁_map, ∥∥₁_map₂}
use mathlib.Core.List.{IsPrefix}
use Rattle.seats.specs.SeatState.{is_free, is_joined}
use Rattle.seats.specs.declared.seat_state.SeatState.{SeatState}
use Rattle.seats.specs.declared.seat_state.SeatState.TheVariants.{Free, Joined, Closing}
use Rattle.campaign_law.specs.declared.entry.Entry.{Entry}
use Rattle.campaign_law.specs.declared.entry.Entry.TheVariants.{Join, Line, Leave, Taken, Cut}
use Rattle.campaign_law.specs.World.{World, outcome_of, replay}
use Rattle.campaign_law.specs.Law.{bytes_of}
use Rattle.campaign_law.specs.Session.{standing_after, is_held_by, has_ended, session_at, IsSeated}
use Rattle.campaign_law.proofs.SessionLaws.{still_held}
use Rattle.turn_lock.specs.Pass.{HallState, PassState}
use Rattle.turn_lock.proofs.Prefixes.{prefix_get, prefix_length}
use Rattle.line_io.specs.ReaderState.{ReaderState}
use Rattle.session.specs.declared.sitting.Ended.{Ended}
use Rattle.session.specs.declared.service.Sat.{Sat}
use Rattle.session.specs.Own.{StandsAt}
use Rattle.session.specs.Heard.{IsReaders}
use Rattle.session.specs.Written.{IsWriters}
use Rattle.session.specs.Served.{IsUndisturbed, IsServed, is_of_session}
use Rattle.session.specs.Sat.{HasSat, missing, refused, seated}
use Rattle.session.specs.Session.{HasServed, unread, strange, greeted}
use Rattle.session.specs.Safely.{SaysSafely}
use Rattle.session.specs.Safely as safely
use Rattle.serving.specs.declared.sittings.Sitting.{Sitting}
use Rattle.serving.specs.Runs.{IsSafeRun}
use Rattle.serving.specs.Fates.{Fate, busy, sat, HoldsIn, owns_of}
use Rattle.serving.specs.Outside.{Outside}
use Rattle.serving.specs.declared.serving_hall.Served.{Served}
use Rattle.serving.specs.Served.{IsOf, Serves}
use Rattle.serving.specs.Alone.{AreNewPasses, HaveNewPasses, NobodyElse, IsAccepted, WroteItsOwn, IsToldItsOwn}
use Rattle.serving.specs.Safely.{NobodyElseFrom, WroteSafely, IsToldSafely}

-- ---- what a session with this reader's number enters

-- a pass of this number holds the seat, as the reader's
abbrev IsHeldBy : World → List Entry → ℕ → ℕ → Type 0
IsHeldBy w before seat reader = (writer : ℕ) × (is_held_by reader writer (standing_after w before seat) ≡ true)

abbrev IsEnteredBy : World → ℕ → List Entry → Entry → Type 0
IsEnteredBy w r before (Join seat key reader writer) = reader ≡ r
IsEnteredBy w r before (Line seat bytes) = IsHeldBy w before seat r
IsEnteredBy w r before (Leave seat drop) = IsHeldBy w before seat r
IsEnteredBy w r before (Taken seat count) = IsHeldBy w before seat r
IsEnteredBy w r before (Cut seat) = Unit {0}

-- behind its Join at a seat it enters no other
abbrev IsBehindJoin : World → ℕ → ℕ → ℕ → List Entry → Entry → Type 0
IsBehindJoin w seat r s before (Join other key reader writer) = ⊥
IsBehindJoin w seat r s before (Line other bytes) = (other ≡ seat) × (is_held_by r s (standing_after w before seat) ≡ true)
IsBehindJoin w seat r s before (Leave other drop) = (other ≡ seat) × (is_held_by r s (standing_after w before seat) ≡ true)
IsBehindJoin w seat r s before (Taken other count) = (other ≡ seat) × (is_held_by r s (standing_after w before seat) ≡ true)
IsBehindJoin w seat r s before (Cut other) = Unit {0}

stands_as : (A B : List Entry → Entry → Type 0) → ((before : List Entry) (e : Entry) → A before e → B before e) → (h : List Entry) (own : List ℕ) → All (StandsAt A h) own → All (StandsAt B h) own
stands_as A B weaker h own each = All-weaker (StandsAt A h) (StandsAt B h) (λ place s. record { entry = s.entry; there = s.there; lawful = weaker (take place h) s.entry s.lawful }) own each

reader_enters : (w : World) (seat place r s : ℕ) (before : List Entry) (e : Entry) → IsReaders w (record { seat = seat; place = place; reader = r; writer = s }) before e → IsBehindJoin w seat r s before e
reader_enters w seat place r s before (Join other key reader writer) is = is
reader_enters w seat place r s before (Line other bytes) is = (is.0, (and_parts (is_held_by r s (standing_after w before seat)) (is_joined (standing_after w before seat)) is.2).0)
reader_enters w seat place r s before (Leave other drop) is = (is.0, is.2)
reader_enters w seat place r s before (Taken other taken) is = absurd is
reader_enters w seat place r s before (Cut other) is = tt

writer_enters : (w : World) (seat place r s : ℕ) (count : ℕ) (before : List Entry) (e : Entry) → IsWriters w (record { seat = seat; place = place; reader = r; writer = s }) count before e → IsBehindJoin w seat r s before e
writer_enters w seat place r s count before (Join other key reader writer) is = is
writer_enters w seat place r s count before (Line other bytes) is = absurd is
writer_enters w seat place r s count before (Leave other drop) is = (is.0, is.2)
writer_enters w seat place r s count before (Taken other taken) is = (is.0, is.2)
writer_enters w seat place r s count before (Cut other) is = absurd is

-- what stands at the places of an accepted session behind its Join
behind_join : (w : World) (h : List Entry) (seat place r s : ℕ) (readers writers : List ℕ) (ended : Ended) (text : Option (List ℕ)) (reader : ReaderState) (left before after : Option (List ℕ))
    → IsServed w h (record { seat = seat; place = place; reader = r; writer = s }) readers writers ended text reader left before after → All (StandsAt (IsBehindJoin w seat r s) h) (readers ++ writers)
behind_join w h seat place r s readers writers ended text reader left before after is =
    All-append (StandsAt (IsBehindJoin w seat r s) h) readers writers
    (stands_as (IsReaders w (record { seat = seat; place = place; reader = r; writer = s })) (IsBehindJoin w seat r s) (reader_enters w seat place r s) h readers is.heard)
    (stands_as (IsWriters w (record { seat = seat; place = place; reader = r; writer = s }) is.count) (IsBehindJoin w seat r s) (writer_enters w seat place r s is.count) h writers is.told)

by_number : (w : World) (seat r s : ℕ) (before : List Entry) (e : Entry) → IsBehindJoin w seat r s before e → IsEnteredBy w r before e
by_number w seat r s before (Join other key reader writer) is = absurd is
by_number w seat r s before (Line other bytes) is = (s, ap (λ x. is_held_by r s (standing_after w before x)) is.0 ∙ is.1)
by_number w seat r s before (Leave other drop) is = (s, ap (λ x. is_held_by r s (standing_after w before x)) is.0 ∙ is.1)
by_number w seat r s before (Taken other count) is = (s, ap (λ x. is_held_by r s (standing_after w before x)) is.0 ∙ is.1)
by_number w seat r s before (Cut other) is = tt

-- a seat is held by one reader
one_reader : (r writer q other : ℕ) (state : SeatState) → is_held_by r writer state ≡ true → is_held_by q other state ≡ true → r ≡ q
one_reader r writer q other Free a b = absurd cc
one_reader r writer q other (Joined x y) a b = sym (eqb-true x r (and_parts (x == r) (y == writer) a).0) ∙ eqb-true x q (and_parts (x == q) (y == other) b).0
one_reader r writer q other (Closing x y) a b = sym (eqb-true x r (and_parts (x == r) (y == writer) a).0) ∙ eqb-true x q (and_parts (x == q) (y == other) b).0

-- ---- lists of places

one_place : (x k : ℕ) (xs : List ℕ) → Contains (x ∷ xs) k → (x ≡ k) ⊎ Contains xs k
one_place x k xs (zero, lt, at) = inl at
one_place x k xs (suc i, lt, at) = inr (i, omega arith, at)

no_place : (k : ℕ) → Contains [] k → ⊥
no_place k c = absurd (let l = c.1 in omega (arith, l))

front_take : {A : Type 0} (k : ℕ) (f h : List A) → IsPrefix f h → k ≤ length f → take k h ≡ take k f
front_take k f h prefix le = ap (take k) (sym prefix.1) ∙ take-append-le k f prefix.0 le

-- What a session's passes got: nothing; a Join that was refused; or its Join and what stands behind it. `Wrote place seat` is what it wrote then, where it is
-- undisturbed
data GotPlaces (w : World) (G : List Entry) (r s : ℕ) (own : List ℕ) (Wrote : ℕ → ℕ → Type 0) : Type 0 where
  nothing : own ≡ [] → GotPlaces w G r s own Wrote
  one_refused : (place seat : ℕ) (key : List ℕ) → own ≡ place ∷ [] → slice_get G place ≡ Some (Join seat key r s) → ((outcome_of (replay w (take place G)) (Join seat key r s)).refusal ≡ None → ⊥)
      → GotPlaces w G r s own Wrote
  joined : (place seat : ℕ) (key readers writers : List ℕ) → own ≡ place ∷ (readers ++ writers) → slice_get G place ≡ Some (Join seat key r s)
      → IsSeated w G place seat r s → All (StandsAt (IsBehindJoin w seat r s) G) (readers ++ writers)
      → (IsUndisturbed w G (readers ++ writers) (record { seat = seat; place = place; reader = r; writer = s }) → Wrote place seat) → GotPlaces w G r s own Wrote

joined_longer : (w : World) (f h : List Entry) (place seat r s : ℕ) → IsPrefix f h → place < length f → IsSeated w f place seat r s → IsSeated w h place seat r s
joined_longer w f h place seat r s prefix long is = record {
  key = is.key;
  join = prefix_get f h place (Join seat is.key r s) prefix is.join;
  free = ap (λ l. is_free (standing_after w l seat)) (front_take place f h prefix (omega arith)) ∙ is.free;
  held = ap (λ l. is_held_by r s (standing_after w l seat)) (front_take (suc place) f h prefix (omega arith)) ∙ is.held;
}

sat_places : (w : World) (G : List Entry) (seat : ℕ) (key : List ℕ) (p q s t : PassState Entry World) (text : Option (List ℕ)) (reader : ReaderState) (left before after : Option (List ℕ)) (m n : ℕ) (ended : Ended)
    → HasSat w seat key p q s t text reader left before after m n ended → p.own ≡ [] → s.own ≡ [] → IsPrefix q.front G → IsPrefix t.front G → GotPlaces w G p.number s.number (q.own ++ t.own) (λ place seat. WroteItsOwn w G place seat ended before after)
sat_places w G seat key p q s t text reader left before after m n ended (missing same_q same_t wrote rest end) reader_new writer_new first second =
    let one = same_q ∙ reader_new in
    let two = ap (λ x. x.own) same_t ∙ writer_new in
    nothing (λ i. one i ++ two i)
sat_places w G seat key p q s t text reader left before after m n ended (refused refusal is same_t rest end) reader_new writer_new first second =
    let e = Join seat key p.number s.number in
    let one : q.own ≡ is.place ∷ [] = is.entered.own ∙ ap (λ l. l ++ is.place ∷ []) reader_new in
    let two = ap (λ x. x.own) same_t ∙ writer_new in
    let within = slice_get_within q.front is.place e is.entered.there in
    let same = front_take is.place q.front G first (omega (arith, within)) in
    one_refused is.place seat key (λ i. one i ++ two i) (prefix_get q.front G is.place e first is.entered.there)
    (λ none. let z = sym is.refused.cause ∙ ap (λ l. (outcome_of (replay w l) e).refusal) (sym same) ∙ none in absurd (cc z))
sat_places w G seat key p q s t text reader left before after m n ended (seated place so) reader_new writer_new first second =
    let e = Join seat key p.number s.number in
    let one : q.own ≡ place ∷ so.readers = so.reader_own ∙ ap (λ l. (l ++ place ∷ []) ++ so.readers) reader_new in
    let two : t.own ≡ so.writers = so.writer_own ∙ ap (λ l. l ++ so.writers) writer_new in
    let within = slice_get_within q.front place e so.there in
    let did = so.served G first second in
    joined place seat key so.readers so.writers (λ i. one i ++ two i) (prefix_get q.front G place e first so.there) (joined_longer w q.front G place seat p.number s.number first within so.joined)
    (behind_join w G seat place p.number s.number so.readers so.writers ended text reader left before after did)
    (λ alone. record { output = did.output; written = did.has.written; front = (did.written alone).prefix; whole = did.whole alone; player = did.player })

got_places : (w : World) (G : List Entry) (p q s t : PassState Entry World) (text left before after : Option (List ℕ)) (m n : ℕ) (ended : Ended)
    → HasServed w p q s t text left before after m n ended → p.own ≡ [] → s.own ≡ [] → IsPrefix q.front G → IsPrefix t.front G → GotPlaces w G p.number s.number (q.own ++ t.own) (λ place seat. WroteItsOwn w G place seat ended before after)
got_places w G p q s t text left before after m n ended (unread reader stop real stops why same_q same_t wrote end) reader_new writer_new first second =
    let one = ap (λ x. x.own) same_q ∙ reader_new in
    let two = ap (λ x. x.own) same_t ∙ writer_new in
    nothing (λ i. one i ++ two i)
got_places w G p q s t text left before after m n ended (strange reader real came same_q same_t tells) reader_new writer_new first second =
    let one = ap (λ x. x.own) same_q ∙ reader_new in
    let two = ap (λ x. x.own) same_t ∙ writer_new in
    nothing (λ i. one i ++ two i)
got_places w G p q s t text left before after m n ended (greeted seat key behind reader real came sits) reader_new writer_new first second =
    sat_places w G seat key p q s t behind reader left before after m n ended sits reader_new writer_new first second

-- ---- one session among others

module _ (w : World) (G : List Entry) (base r s : ℕ) (own : List ℕ) (Wrote : ℕ → ℕ → Type 0) where
  -- all its entries are by its reader's number
  entered_by : GotPlaces w G r s own Wrote → All (StandsAt (IsEnteredBy w r) G) own
  entered_by (nothing none) = subst (All (StandsAt (IsEnteredBy w r) G)) (sym none) (All-nil (StandsAt (IsEnteredBy w r) G))
  entered_by (one_refused place seat key is there never) =
      subst (All (StandsAt (IsEnteredBy w r) G)) (sym is)
      (All-cons (StandsAt (IsEnteredBy w r) G) place [] (record { entry = Join seat key r s; there = there; lawful = refl }) (All-nil (StandsAt (IsEnteredBy w r) G)))
  entered_by (joined place seat key readers writers is there sits behind wrote) =
      subst (All (StandsAt (IsEnteredBy w r) G)) (sym is)
      (All-cons (StandsAt (IsEnteredBy w r) G) place (readers ++ writers) (record { entry = Join seat key r s; there = there; lawful = refl })
      (stands_as (IsBehindJoin w seat r s) (IsEnteredBy w r) (by_number w seat r s) G (readers ++ writers) behind))

  -- what stands at a place from the base on is its own, or another's by another number
  abbrev IsApart : Type 0
  IsApart = (k : ℕ) → base ≤ k → k < length G → Contains own k ⊎ ((q : ℕ) × (q ≡ r → ⊥) × StandsAt (IsEnteredBy w q) G k)

  module _ (apart : IsApart) where
    -- no other entered a Join of its number
    no_other_join : (k seat : ℕ) (key : List ℕ) (writer : ℕ) → base ≤ k → slice_get G k ≡ Some (Join seat key r writer) → Contains own k
    no_other_join k seat key writer from there = by_apart (apart k from (slice_get_within G k (Join seat key r writer) there))
      where
        by_apart : Contains own k ⊎ ((q : ℕ) × (q ≡ r → ⊥) × StandsAt (IsEnteredBy w q) G k) → Contains own k
        by_apart (inl mine) = mine
        by_apart (inr other) =
            let is : other.2.entry ≡ Join seat key r writer = cc (other.2.there, there) in
            let law : r ≡ other.0 = subst (IsEnteredBy w other.0 (take k G)) is other.2.lawful in
            absurd (other.1 (sym law))

    module _ (place seat : ℕ) (key readers writers : List ℕ) (own_is : own ≡ place ∷ (readers ++ writers)) (sits : IsSeated w G place seat r s)
        (behind : All (StandsAt (IsBehindJoin w seat r s) G) (readers ++ writers)) where
      mine_later : (k : ℕ) → place < k → Contains own k → Contains (readers ++ writers) k
      mine_later k late mine = by_place (one_place place k (readers ++ writers) (subst (λ l. Contains l k) own_is mine))
        where
          by_place : (place ≡ k) ⊎ Contains (readers ++ writers) k → Contains (readers ++ writers) k
          by_place (inl same) = absurd (omega (arith, late, same))
          by_place (inr later) = later

      no_join_later : (k other : ℕ) (text : List ℕ) (reader writer : ℕ) → Contains (readers ++ writers) k → slice_get G k ≡ Some (Join other text reader writer) → ⊥
      no_join_later k other text reader writer later there =
          let stands = All-contains (StandsAt (IsBehindJoin w seat r s) G) (readers ++ writers) k behind later in
          let is : stands.entry ≡ Join other text reader writer = cc (stands.there, there) in
          subst (IsBehindJoin w seat r s (take k G)) is stands.lawful

      -- while it lasts, who enters for its seat has its number
      same_reader : (k q other : ℕ) → is_held_by r s (standing_after w (take k G) seat) ≡ true → (other == seat) ≡ true → IsHeldBy w (take k G) other q → q ≡ r
      same_reader k q other held is law = one_reader q law.0 r s (standing_after w (take k G) seat) (subst (λ x. is_held_by q law.0 (standing_after w (take k G) x) ≡ true) (eqb-true other seat is) law.1) held

      by_entry : (k q : ℕ) (e : Entry) → is_held_by r s (standing_after w (take k G) seat) ≡ true → is_of_session seat e ≡ true → IsEnteredBy w q (take k G) e → q ≡ r
      by_entry k q (Join other text reader writer) held is law = absurd cc
      by_entry k q (Line other bytes) held is law = same_reader k q other held is law
      by_entry k q (Leave other drop) held is law = same_reader k q other held is law
      by_entry k q (Taken other count) held is law = same_reader k q other held is law
      by_entry k q (Cut other) held is law = absurd cc

      own_alone : base ≤ place → (k : ℕ) (e : Entry) → place < k → has_ended w (take k G) place seat ≡ false → slice_get G k ≡ Some e → is_of_session seat e ≡ true → Contains (readers ++ writers) k
      own_alone from k e late open_ there is = by_apart (apart k (omega (arith, from, late)) within)
        where
          within : k < length G
          within = slice_get_within G k e there

          by_apart : Contains own k ⊎ ((q : ℕ) × (q ≡ r → ⊥) × StandsAt (IsEnteredBy w q) G k) → Contains (readers ++ writers) k
          by_apart (inl mine) = mine_later k late mine
          by_apart (inr other) =
              let entry_is : other.2.entry ≡ e = cc (other.2.there, there) in
              let held = still_held w G place seat r s sits k late (omega (arith, within)) open_ in
              absurd (other.1 (by_entry k other.0 e held is (subst (IsEnteredBy w other.0 (take k G)) entry_is other.2.lawful)))

      undisturbed : base ≤ place → IsUndisturbed w G (readers ++ writers) (record { seat = seat; place = place; reader = r; writer = s })
      undisturbed from = record {
        own_alone = own_alone from;
        once = λ k text late there. no_join_later k seat text r s (mine_later k late (no_other_join k seat text s (omega (arith, from, late)) there)) there;
      }

    told_one : GotPlaces w G r s own Wrote → (place seat : ℕ) → base ≤ place → IsAccepted w G place seat r s → Wrote place seat
    told_one got place seat from accepted = by_places got
      where
        mine : Contains own place
        mine = no_other_join place seat accepted.key s from accepted.there

        by_places : GotPlaces w G r s own Wrote → Wrote place seat
        by_places (nothing none) = absurd (no_place place (subst (λ l. Contains l place) none mine))
        by_places (one_refused there_ other key is there never) = absurd (by_place (one_place there_ place [] (subst (λ l. Contains l place) is mine)))
          where
            by_place : (there_ ≡ place) ⊎ Contains [] place → ⊥
            by_place (inl same) =
                let z : Some (Join other key r s) ≡ Some (Join seat accepted.key r s) = sym there ∙ ap (slice_get G) same ∙ accepted.there in
                let entry : Join other key r s ≡ Join seat accepted.key r s = cc z in
                never ((λ i. (outcome_of (replay w (take (same i) G)) (entry i)).refusal) ∙ accepted.accepted)
            by_place (inr later) = no_place place later
        by_places (joined there_ other key readers writers is there sits behind wrote) = by_place (one_place there_ place (readers ++ writers) (subst (λ l. Contains l place) is mine))
          where
            by_place : (there_ ≡ place) ⊎ Contains (readers ++ writers) place → Wrote place seat
            by_place (inl same) =
                let z : Some (Join other key r s) ≡ Some (Join seat accepted.key r s) = sym there ∙ ap (slice_get G) same ∙ accepted.there in
                let seats : other ≡ seat = cc z in
                subst (λ x. Wrote x seat) same (subst (Wrote there_) seats (wrote (undisturbed there_ other key readers writers is sits behind (omega (arith, from, same)))))
            by_place (inr later) = absurd (no_join_later there_ other key readers writers is sits behind place seat accepted.key r s later accepted.there)

-- ---- all sessions

-- what was entered at these places is by smaller numbers
abbrev AreBelow : World → List Entry → ℕ → List ℕ → Type 0
AreBelow w G low own = (k : ℕ) → Contains own k → (q : ℕ) × (q < low) × StandsAt (IsEnteredBy w q) G k

-- or by these and greater ones
abbrev AreFrom : World → List Entry → ℕ → List ℕ → Type 0
AreFrom w G low own = (k : ℕ) → Contains own k → (q : ℕ) × (low ≤ q) × StandsAt (IsEnteredBy w q) G k

from_next : (w : World) (G : List Entry) (low reader writer : ℕ) (own later : List ℕ) → low ≤ reader → reader < writer → All (StandsAt (IsEnteredBy w reader) G) own → AreFrom w G (suc writer) later → AreFrom w G low (own ++ later)
from_next w G low reader writer own later first next mine more k there = by_own (Contains-append_cases own later k there)
  where
    by_own : Contains own k ⊎ Contains later k → (q : ℕ) × (low ≤ q) × StandsAt (IsEnteredBy w q) G k
    by_own (inl here) = (reader, first, All-contains (StandsAt (IsEnteredBy w reader) G) own k mine here)
    by_own (inr behind) =
        let one = more k behind in
        let bound = one.1 in
        (one.0, omega (arith, first, next, bound), one.2)

below_next : (w : World) (G : List Entry) (low reader writer : ℕ) (front own : List ℕ) → low ≤ reader → reader < writer → All (StandsAt (IsEnteredBy w reader) G) own → AreBelow w G low front → AreBelow w G (suc writer) (front ++ own)
below_next w G low reader writer front own first next mine below k there = by_own (Contains-append_cases front own k there)
  where
    by_own : Contains front k ⊎ Contains own k → (q : ℕ) × (q < suc writer) × StandsAt (IsEnteredBy w q) G k
    by_own (inl early) =
        let one = below k early in
        let bound = one.1 in
        (one.0, omega (arith, first, next, bound), one.2)
    by_own (inr here) = (reader, omega (arith, next), All-contains (StandsAt (IsEnteredBy w reader) G) own k mine here)

-- so what one session entered stands apart from all else
apart_from : (w : World) (G : List Entry) (base low r writer : ℕ) (front own later : List ℕ) → low ≤ r → r < writer → AreBelow w G low front → AreFrom w G (suc writer) later → ((k : ℕ) → base ≤ k → k < length G → Contains (front ++ (own ++ later)) k)
    → (k : ℕ) → base ≤ k → k < length G → Contains own k ⊎ ((q : ℕ) × (q ≡ r → ⊥) × StandsAt (IsEnteredBy w q) G k)
apart_from w G base low r writer front own later first next below more whole k from within = by_front (Contains-append_cases front (own ++ later) k (whole k from within))
  where
    by_behind : Contains own k ⊎ Contains later k → Contains own k ⊎ ((q : ℕ) × (q ≡ r → ⊥) × StandsAt (IsEnteredBy w q) G k)
    by_behind (inl mine) = inl mine
    by_behind (inr behind) =
        let one = more k behind in
        let bound = one.1 in
        inr (one.0, (λ same. absurd (omega (arith, next, bound, same))), one.2)

    by_front : Contains front k ⊎ Contains (own ++ later) k → Contains own k ⊎ ((q : ℕ) × (q ≡ r → ⊥) × StandsAt (IsEnteredBy w q) G k)
    by_front (inl early) =
        let one = below k early in
        let bound = one.1 in
        inr (one.0, (λ same. absurd (omega (arith, first, bound, same))), one.2)
    by_front (inr here) = by_behind (Contains-append_cases own later k here)

-- ---- what each session of a hall wrote

module _ {R In Out : Type 0} (hall : HallState World) (G : List Entry) (base : ℕ) (Did : Sitting R In Out → (In × Out) × Sat → Type 0) (Wrote : Sitting R In Out → (In × Out) × Sat → ℕ → ℕ → Type 0) where
  abbrev GotNow : Fate R In Out → Type 0
  GotNow (busy ends) = Unit {0}
  GotNow (sat sitting done) = GotPlaces hall.origin G sitting.reader.number sitting.writer.number (done.1.reader.own ++ done.1.writer.own) (Wrote sitting done)

  abbrev ToldNow : Fate R In Out → Type 0
  ToldNow (busy ends) = Unit {0}
  ToldNow (sat sitting done) = (place seat : ℕ) → base ≤ place → IsAccepted hall.origin G place seat sitting.reader.number sitting.writer.number → Wrote sitting done place seat

  -- the same, where it is not told how
  abbrev IsTold : Fate R In Out → Type 0
  IsTold (busy ends) = Unit {0}
  IsTold (sat sitting done) = (place seat : ℕ) → base ≤ place → IsAccepted hall.origin G place seat sitting.reader.number sitting.writer.number → ∥ Wrote sitting done place seat ∥₁

  -- what a session did says so of the places that it got
  abbrev Gets : Type 0
  Gets = (low : ℕ) (sitting : Sitting R In Out) (done : (In × Out) × Sat) → Did sitting done → arc_value sitting.hall ≡ hall → AreNewPasses low sitting.reader sitting.writer → IsPrefix done.1.reader.front G → IsPrefix done.1.writer.front G → GotNow (sat sitting done)

  got_all : Gets → (fates : List (Fate R In Out)) (low high : ℕ) → AllByRecursion (HoldsIn Did G) fates → AllByRecursion (IsOf hall) fates → HaveNewPasses low fates high → ∥ AllByRecursion GotNow fates ∥₁
  got_all gets [] low high each shared new = ∣ tt ∣₁
  got_all gets (busy ends ∷ fates) low high each shared new = ∥∥₁_map (got_all gets fates low high each.1 shared.1 new) (λ rest. (tt, rest))
  got_all gets (sat sitting done ∷ fates) low high each shared new =
      ∥∥₁_map₂ each.0.0 (got_all gets fates (suc sitting.writer.number) high each.1 shared.1 new.1) (λ did rest. (gets low sitting done did shared.0 new.0 each.0.1 each.0.2, rest))

  -- what later sessions entered is by later numbers
  entered_later : (fates : List (Fate R In Out)) (low high : ℕ) → AllByRecursion GotNow fates → HaveNewPasses low fates high → AreFrom hall.origin G low (owns_of fates)
  entered_later [] low high got new k there = absurd (no_place k there)
  entered_later (busy ends ∷ fates) low high got new k there = entered_later fates low high got.1 new k there
  entered_later (sat sitting done ∷ fates) low high got new k there =
      let own = done.1.reader.own ++ done.1.writer.own in
      from_next hall.origin G low sitting.reader.number sitting.writer.number own (owns_of fates) new.0.from_low new.0.next
      (entered_by hall.origin G base sitting.reader.number sitting.writer.number own (Wrote sitting done) got.0) (entered_later fates (suc sitting.writer.number) high got.1 new.1) k there

  told_all : (fates : List (Fate R In Out)) (front : List ℕ) (low high : ℕ) → AreBelow hall.origin G low front → AllByRecursion GotNow fates → HaveNewPasses low fates high
      → ((k : ℕ) → base ≤ k → k < length G → Contains (front ++ owns_of fates) k) → AllByRecursion ToldNow fates
  told_all [] front low high below got new whole = tt
  told_all (busy ends ∷ fates) front low high below got new whole = (tt, told_all fates front low high below got.1 new whole)
  told_all (sat sitting done ∷ fates) front low high below got new whole =
      let own = done.1.reader.own ++ done.1.writer.own in
      let r = sitting.reader.number in
      let s = sitting.writer.number in
      let mine = entered_by hall.origin G base r s own (Wrote sitting done) got.0 in (
        told_one hall.origin G base r s own (Wrote sitting done)
            (apart_from hall.origin G base low r s front own (owns_of fates) new.0.from_low new.0.next below (entered_later fates (suc s) high got.1 new.1) whole) got.0,
        told_all fates (front ++ own) (suc s) high (below_next hall.origin G low r s front own new.0.from_low new.0.next mine below) got.1 new.1
            (subst (λ l. (k : ℕ) → base ≤ k → k < length G → Contains l k) (sym (append_assoc front own (owns_of fates))) whole),
      )

  tells : (fates : List (Fate R In Out)) → ∥ AllByRecursion ToldNow fates ∥₁ → AllByRecursion IsTold fates
  tells [] told = tt
  tells (busy ends ∷ fates) told = (tt, tells fates (∥∥₁_map told (λ all. all.1)))
  tells (sat sitting done ∷ fates) told = ((λ place seat from accepted. ∥∥₁_map told (λ all. all.0 place seat from accepted)), tells fates (∥∥₁_map told (λ all. all.1)))

  -- where nobody else entered anything from the base on, each session wrote so for a Join of its own from there on
  told_from : Gets → (fates : List (Fate R In Out)) (low high : ℕ) → All (IsOf hall) fates → All (HoldsIn Did G) fates → HaveNewPasses low fates high → NobodyElseFrom base G fates → All IsTold fates
  told_from gets fates low high shared each new nobody =
      All-from_recursion IsTold fates
      (tells fates (∥∥₁_map (got_all gets fates low high (recursion_from_All (HoldsIn Did G) fates each) (recursion_from_All (IsOf hall) fates shared) new)
      (λ got. told_all fates [] low high (λ k none. absurd (no_place k none)) got new nobody)))

-- ---- and that it told of no entry before it was safe

and_safely : (Safe : ℕ → Type 0) (w : World) (G : List Entry) (p q s t : PassState Entry World) (ended : Ended) (before after : Option (List ℕ)) → SaysSafely Safe w p q s t before after → p.own ≡ [] → s.own ≡ [] → IsPrefix q.front G → IsPrefix t.front G
    → GotPlaces w G p.number s.number (q.own ++ t.own) (λ place seat. WroteItsOwn w G place seat ended before after)
    → GotPlaces w G p.number s.number (q.own ++ t.own) (λ place seat. IsAccepted w G place seat p.number s.number → WroteItsOwn w G place seat ended before after × WroteSafely Safe w G place seat before after)
and_safely Safe w G p q s t ended before after says reader_new writer_new first second (nothing none) = nothing none
and_safely Safe w G p q s t ended before after says reader_new writer_new first second (one_refused place seat key is there never) = one_refused place seat key is there never
and_safely Safe w G p q s t ended before after says reader_new writer_new first second (joined place seat key readers writers is there sits behind wrote) =
    joined place seat key readers writers is there sits behind (λ alone accepted. (wrote alone, by_says says alone accepted))
  where
    same_own : (xs ys : List ℕ) → q.own ≡ xs → t.own ≡ ys → xs ++ ys ≡ place ∷ (readers ++ writers)
    same_own xs ys one two = sym (λ i. one i ++ two i) ∙ is

    by_says : SaysSafely Safe w p q s t before after → IsUndisturbed w G (readers ++ writers) (record { seat = seat; place = place; reader = p.number; writer = s.number }) → IsAccepted w G place seat p.number s.number
        → WroteSafely Safe w G place seat before after
    by_says (safely.silent same) alone accepted = inl same
    by_says (safely.strange same_q same_t safe) alone accepted = absurd (cc (same_own [] [] (ap (λ x. x.own) same_q ∙ reader_new) (ap (λ x. x.own) same_t ∙ writer_new)))
    by_says (safely.refused other here text refusal entered cause same_t safe) alone accepted =
        let e = Join other text p.number s.number in
        let z : here ∷ [] ≡ place ∷ (readers ++ writers) = same_own (here ∷ []) [] (entered.own ∙ ap (λ l. l ++ here ∷ []) reader_new) (ap (λ x. x.own) same_t ∙ writer_new) in
        let same : here ≡ place = cc z in
        let within = slice_get_within q.front here e entered.there in
        let found = front_take here q.front G first (omega (arith, within)) in
        let at : Some e ≡ Some (Join seat accepted.key p.number s.number) = sym (prefix_get q.front G here e first entered.there) ∙ ap (slice_get G) same ∙ accepted.there in
        let entry : e ≡ Join seat accepted.key p.number s.number = cc at in
        let never = sym cause ∙ ap (λ l. (outcome_of (replay w l) e).refusal) (sym found) ∙ (λ i. (outcome_of (replay w (take (same i) G)) (entry i)).refusal) ∙ accepted.accepted in
        absurd (cc never)
    by_says (safely.seated other here text so) alone accepted =
        let e = Join other text p.number s.number in
        let z : here ∷ (so.readers ++ so.writers) ≡ place ∷ (readers ++ writers) =
        same_own (here ∷ so.readers) so.writers (so.reader_own ∙ ap (λ l. (l ++ here ∷ []) ++ so.readers) reader_new) (so.writer_own ∙ ap (λ l. l ++ so.writers) writer_new) in
        let same : here ≡ place = cc z in
        let later : so.readers ++ so.writers ≡ readers ++ writers = cc z in
        let at : Some e ≡ Some (Join seat key p.number s.number) = sym (prefix_get q.front G here e first so.there) ∙ ap (slice_get G) same ∙ there in
        let seats : other ≡ seat = cc at in
        let a = subst (λ l. IsUndisturbed w G l (record { seat = seat; place = place; reader = p.number; writer = s.number })) (sym later) alone in
        let b = subst (λ x. IsUndisturbed w G (so.readers ++ so.writers) (record { seat = seat; place = x; reader = p.number; writer = s.number })) (sym same) a in
        let quiet = subst (λ x. IsUndisturbed w G (so.readers ++ so.writers) (record { seat = x; place = here; reader = p.number; writer = s.number })) (sym seats) b in
        let long = prefix_length t.front G second in
        let within = so.within in
        inr (record {
          n = so.n;
          safe = so.safe;
          within = omega (arith, long, within);
          output = so.output;
          written = so.written;
          front = subst (λ x. IsPrefix so.output (bytes_of (session_at w (take so.n G) x seat))) same (subst (λ x. IsPrefix so.output (bytes_of (session_at w (take so.n G) here x))) seats (so.front G first second quiet));
        })

-- ---- all sessions of a hall

module _ {R In Out : Type 0} (hall : HallState World) (G : List Entry) (safe : Out → ℕ → Type 0) (left : In → Option (List ℕ)) (written : Out → Option (List ℕ)) (in_faults : In → ℕ) (out_faults : Out → ℕ) where
  abbrev Did : Sitting R In Out → (In × Out) × Sat → Type 0
  Did sitting done = IsSafeRun safe left written in_faults out_faults sitting done

  abbrev Own : Sitting R In Out → (In × Out) × Sat → ℕ → ℕ → Type 0
  Own sitting done place seat = WroteItsOwn hall.origin G place seat done.1.ended (written sitting.output) (written done.0.1)

  abbrev OwnSafely : Sitting R In Out → (In × Out) × Sat → ℕ → ℕ → Type 0
  OwnSafely sitting done place seat =
      IsAccepted hall.origin G place seat sitting.reader.number sitting.writer.number → Own sitting done place seat × WroteSafely (safe done.0.1) hall.origin G place seat (written sitting.output) (written done.0.1)

  gets_own : Gets hall G 0 Did Own
  gets_own low sitting done did same new first second =
      subst (λ h. GotPlaces h.origin G sitting.reader.number sitting.writer.number (done.1.reader.own ++ done.1.writer.own) (λ place seat. WroteItsOwn h.origin G place seat done.1.ended (written sitting.output) (written done.0.1))) same
      (got_places (arc_value sitting.hall).origin G sitting.reader done.1.reader sitting.writer done.1.writer _ _ _ _ _ _ _ did.run.served new.reader_new new.writer_new first second)

  gets_safely : (base : ℕ) → Gets hall G base Did OwnSafely
  gets_safely base low sitting done did same new first second =
      and_safely (safe done.0.1) hall.origin G sitting.reader done.1.reader sitting.writer done.1.writer done.1.ended (written sitting.output) (written done.0.1)
      (subst (λ h. SaysSafely (safe done.0.1) h.origin sitting.reader done.1.reader sitting.writer done.1.writer (written sitting.output) (written done.0.1)) same did.says)
      new.reader_new new.writer_new first second (gets_own low sitting done did same new first second)

  own_one : (fate : Fate R In Out) → IsTold hall G 0 Did Own fate → IsToldItsOwn hall.origin G written fate
  own_one (busy ends) told = tt
  own_one (sat sitting done) told = λ place seat accepted. told place seat (omega arith) accepted

  safely_one : (base : ℕ) (fate : Fate R In Out) → IsTold hall G base Did OwnSafely fate → IsToldSafely hall.origin G base safe written fate
  safely_one base (busy ends) told = tt
  safely_one base (sat sitting done) told = λ place seat from accepted. ∥∥₁_map (told place seat from accepted) (λ both. both accepted)

  pub told_alone : (fates : List (Fate R In Out)) (low high : ℕ) → All (IsOf hall) fates → All (HoldsIn (IsSafeRun safe left written in_faults out_faults) G) fates → HaveNewPasses low fates high → NobodyElse G fates
      → All (IsToldItsOwn hall.origin G written) fates
  told_alone fates low high shared each new nobody =
      All-weaker (IsTold hall G 0 Did Own) (IsToldItsOwn hall.origin G written) own_one fates (told_from hall G 0 Did Own gets_own fates low high shared each new (λ k from within. nobody k within))

  told_safely_from : (base : ℕ) (fates : List (Fate R In Out)) (low high : ℕ) → All (IsOf hall) fates → All (HoldsIn (IsSafeRun safe left written in_faults out_faults) G) fates → HaveNewPasses low fates high → NobodyElseFrom base G fates
      → All (IsToldSafely hall.origin G base safe written) fates
  told_safely_from base fates low high shared each new nobody =
      All-weaker (IsTold hall G base Did OwnSafely) (IsToldSafely hall.origin G base safe written) (safely_one base) fates (told_from hall G base Did OwnSafely (gets_safely base) fates low high shared each new nobody)

-- Where nobody but the sessions entered anything from the place `base` on, each session whose Join was accepted there told of no entry before it was safe. A
-- hall whose first pass had this front has `base` entries of before
pub told_safely : {R In Out : Type 0} (hall : HallState World) (safe : Out → ℕ → Type 0) (left : In → Option (List ℕ)) (written : Out → Option (List ℕ)) (in_faults : In → ℕ) (out_faults : Out → ℕ) (served : Served) (count : ℕ)
    (p q : PassState Entry World) (low high : ℕ) (early late : Outside In Out) (base : ℕ) → (serves : Serves {R = R} hall (IsSafeRun safe left written in_faults out_faults) written served count p q low high early late)
    → NobodyElseFrom base q.front serves.fates → All (IsToldSafely hall.origin q.front base safe written) serves.fates
told_safely hall safe left written in_faults out_faults served count p q low high early late base serves nobody =
    told_safely_from hall q.front safe left written in_faults out_faults base serves.fates low high serves.shared serves.each serves.new nobody
