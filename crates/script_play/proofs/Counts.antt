-- What is counted of the entries of a script and of what they send, entry by entry.
use Rattle.std.proofs.Common.{◌≡◌, ℕ, zero, suc, ◌+◌, ◌-◌, ◌<◌, ◌≤◌, Bool, true, false, cond, eqb, List, [], ◌∷◌, ◌++◌, length, Some, None, refl, sym, ◌∙◌, ap, subst, append_assoc, arith, add-zero, add-one, length-append}
use Rattle.std.specs.Prelude.{Option, Result, Ok, Err, OnOk, is_some, ◌&&◌, nat_lt, option_and_then}
use Rattle.std.specs.List.{AllByRecursion}
use Rattle.std.proofs.lemmas.List.{append-nil}
use Rattle.std.proofs.lemmas.Bool.{ne_eqb}
use Rattle.campaign_law.specs.declared.entry.Entry.{Entry}
use Rattle.campaign_law.specs.declared.entry.Entry.TheVariants.{Taken}
use Rattle.campaign_law.specs.Seat.{Seat}
use Rattle.campaign_law.specs.Outcome.{seat_of}
use Rattle.campaign_law.specs.World.{World, seat_at, scene_after, outcome_of, replay, step}
use Rattle.player_view.specs.View.{view_of}
use Rattle.campaign_law.specs.Law.{Course, IsOpening, answer_after, bytes_of, world_of}
use Rattle.command_effects.specs.Settle.{IsSettled}
use Rattle.campaign_law.proofs.Lists.{ap₂}
use Rattle.campaign_law.proofs.Settled.{after_settled, replay_settled}
use Rattle.campaign_core.specs.Looking.{looks_at}
use Rattle.line_io.specs.Script.{script_parts}
use Rattle.script_play.specs.declared.run.Played.{Played}
use Rattle.script_play.specs.declared.tally.Tally.{Tally}
use Rattle.script_play.specs.Script.{NothingWaits, entry_by, entry_of, joining_key, takens, takens_below, taken_of}
use Rattle.script_play.specs.Sending.{lines_below, reply_to, waiting_lines}
use Rattle.script_play.specs.Played.{GoesOn, IsOfLine, entries_since}
use Rattle.script_play.specs.Counting.{Adds, entry_lines_below, is_line, lines_in, lines_sent, looks_in, one_if, refused_in, with_line, with_sent}
use Rattle.script_play.proofs.WholeLines.{bytes_of-append}
use Rattle.script_play.proofs.EntryLines.{absent_lines, seats_of_replay, slice_get-past}
use Rattle.script_play.proofs.Takens.{quiet_lines}
use Rattle.script_play.proofs.AfterEntry.{OfSeat, goes_on, nothing_since, of_line, seat_sent, since_is, waiting_same, with_entry}
use Rattle.script_play.proofs.LineRuns.{since_all, world_entered, world_on}

-- ---- lines that are sent

bytes_both : (xs ys : List (List ℕ)) → length (bytes_of (xs ++ ys)) ≡ length (bytes_of xs) + length (bytes_of ys)
bytes_both xs ys = ap length (bytes_of-append xs ys) ∙ length-append (bytes_of xs) (bytes_of ys)

pub sent_both : (t : Tally) (xs ys : List (List ℕ)) → with_sent (with_sent t xs) ys ≡ with_sent t (xs ++ ys)
sent_both t xs ys =
    let lines : (t.sent + length xs) + length ys ≡ t.sent + length (xs ++ ys) = omega (arith, length-append xs ys) in
    let bytes : (t.bytes + length (bytes_of xs)) + length (bytes_of ys) ≡ t.bytes + length (bytes_of (xs ++ ys)) = omega (arith, bytes_both xs ys) in
    λ i. record t { sent = lines i; bytes = bytes i }

-- to one more seat
pub sent_to_next : (c : Course) (acting : ℕ) (reply : Option (List ℕ)) (seat : ℕ) (a b d : Tally) → b ≡ with_sent a (lines_below c acting reply seat) → d ≡ with_sent b (reply_to acting seat reply ++ waiting_lines c seat) → d ≡ with_sent a (lines_below c acting reply (seat + 1))
sent_to_next c acting reply seat a b d first then =
    let own : List (List ℕ) = reply_to acting seat reply ++ waiting_lines c seat in
    then ∙ ap (λ t. with_sent t own) first ∙ sent_both a (lines_below c acting reply seat) own ∙ ap (λ n. with_sent a (lines_below c acting reply n)) (sym (add-one seat))

-- a line that was entered: the refused lines are some of the lines
pub few_refused : (a b : Tally) (refused : Bool) (lines : List (List ℕ)) → a.refused ≤ a.lines → b ≡ with_sent (with_line a refused) lines → b.refused ≤ b.lines
few_refused a b true lines few is = let r = ap (λ (t : Tally). t.refused) is in let l = ap (λ (t : Tally). t.lines) is in omega (arith, few, r, l)
few_refused a b false lines few is = let r = ap (λ (t : Tally). t.refused) is in let l = ap (λ (t : Tally). t.lines) is in omega (arith, few, r, l)

-- ---- both parts of a list of entries

lines_both : (xs ys : List Entry) → lines_in (xs ++ ys) ≡ lines_in xs + lines_in ys
unfolding lines_in
lines_both [] ys = omega arith
lines_both (x ∷ xs) ys = let rest = lines_both xs ys in omega (arith, rest)

refused_both : (w : World) (xs ys : List Entry) → refused_in w (xs ++ ys) ≡ refused_in w xs + refused_in (replay w xs) ys
unfolding refused_in
refused_both w [] ys = omega arith
refused_both w (x ∷ xs) ys = let rest = refused_both (step w x) xs ys in omega (arith, rest)

looks_both : (w : World) (xs ys : List Entry) → looks_in w (xs ++ ys) ≡ looks_in w xs + looks_in (replay w xs) ys
unfolding looks_in
looks_both w [] ys = omega arith
looks_both w (x ∷ xs) ys = let rest = looks_both (step w x) xs ys in omega (arith, rest)

lines_sent_both : (w : World) (xs ys : List Entry) → lines_sent w (xs ++ ys) ≡ lines_sent w xs ++ lines_sent (replay w xs) ys
unfolding lines_sent
lines_sent_both w [] ys = refl
lines_sent_both w (x ∷ xs) ys =
    let first : List (List ℕ) = entry_lines_below w x 33 in
    ap (λ r. first ++ r) (lines_sent_both (step w x) xs ys) ∙ sym (append_assoc first (lines_sent (step w x) xs) (lines_sent (replay (step w x) xs) ys))

-- ---- Takens are no lines, and send none

abbrev AreNoLines : List Entry → Type 0
AreNoLines es = AllByRecursion (λ e. is_line e ≡ false) es

no_lines_both : (xs ys : List Entry) → AreNoLines xs → AreNoLines ys → AreNoLines (xs ++ ys)
no_lines_both [] ys h k = k
no_lines_both (x ∷ xs) ys h k = (h.0, no_lines_both xs ys h.1 k)

taken_no_line : (seat : ℕ) (s : Option Seat) → AreNoLines (taken_of seat s)
taken_no_line seat None = tt
taken_no_line seat (Some s) = by_waiting (eqb s.taken s.queued)
  where
    by_waiting : (all : Bool) → AreNoLines (cond all [] (Taken seat s.queued ∷ []))
    by_waiting true = tt
    by_waiting false = (refl, tt)

takens_no_lines : (w : World) (n : ℕ) → AreNoLines (takens_below w n)
takens_no_lines w zero = tt
takens_no_lines w (suc n) = no_lines_both (takens_below w n) (taken_of n (seat_at w n)) (takens_no_lines w n) (taken_no_line n (seat_at w n))

no_lines_in : (es : List Entry) → AreNoLines es → lines_in es ≡ 0
unfolding lines_in
no_lines_in [] h = refl
no_lines_in (e ∷ es) h = (λ i. one_if (h.0 i) + no_lines_in es h.1 i)

none_refused : (w : World) (es : List Entry) → AreNoLines es → refused_in w es ≡ 0
unfolding refused_in
none_refused w [] h = refl
none_refused w (e ∷ es) h = (λ i. one_if (h.0 i && is_some (outcome_of w e).refusal) + none_refused (step w e) es h.1 i)

takens_none : (w : World) → AreNoLines (takens w)
unfolding takens
takens_none w = takens_no_lines w (length w.seats)

quiet_below : (w : World) (seat count n : ℕ) → IsSettled w.scene → entry_lines_below w (Taken seat count) n ≡ []
quiet_below w seat count zero steady = refl
quiet_below w seat count (suc n) steady = ap₂ (λ xs ys. xs ++ ys) (quiet_below w seat count n steady) (quiet_lines w seat count n steady)

no_entry : (w : World) → lines_sent w [] ≡ []
unfolding lines_sent
no_entry w = refl

quiet_entry : (w : World) (seat count : ℕ) → IsSettled w.scene → lines_sent w (Taken seat count ∷ []) ≡ []
unfolding lines_sent
quiet_entry w seat count steady = append-nil (entry_lines_below w (Taken seat count) 33) ∙ quiet_below w seat count 33 steady

quiet_taken : (w : World) (seat : ℕ) (before : Option Seat) → IsSettled w.scene → lines_sent w (taken_of seat before) ≡ []
quiet_taken w seat None steady = no_entry w
quiet_taken w seat (Some s) steady = by_waiting (eqb s.taken s.queued)
  where
    by_waiting : (all : Bool) → lines_sent w (cond all [] (Taken seat s.queued ∷ [])) ≡ []
    by_waiting true = no_entry w
    by_waiting false = quiet_entry w seat s.queued steady

quiet_takens : (now w : World) (n : ℕ) → IsSettled now.scene → lines_sent now (takens_below w n) ≡ []
quiet_takens now w zero steady = no_entry now
quiet_takens now w (suc n) steady =
    lines_sent_both now (takens_below w n) (taken_of n (seat_at w n))
    ∙ ap₂ (λ xs ys. xs ++ ys) (quiet_takens now w n steady) (quiet_taken (replay now (takens_below w n)) n (seat_at w n) (replay_settled now (takens_below w n) steady))

takens_quiet : (w : World) → IsSettled w.scene → lines_sent w (takens w) ≡ []
unfolding takens
takens_quiet w steady = quiet_takens w w (length w.seats) steady

-- ---- what is sent after an entry is what it sends

lines_same : (c d : Course) (acting : ℕ) (reply : Option (List ℕ)) (seat : ℕ) → c.origin ≡ d.origin → c.history ≡ d.history → lines_below c acting reply seat ≡ lines_below d acting reply seat
lines_same c d acting reply zero o h = refl
lines_same c d acting reply (suc seat) o h = ap₂ (λ xs ls. xs ++ (reply_to acting seat reply ++ ls)) (lines_same c d acting reply seat o h) (waiting_same c d seat o h)

seats_lines : (c : Course) (e : Entry) (n : ℕ) → IsOpening c.origin → OfSeat (world_of c) e → NothingWaits (world_of c) → n ≤ length (world_of c).seats → lines_below (with_entry c e) (seat_of e) (answer_after c e).line n ≡ entry_lines_below (world_of c) e n
seats_lines c e zero opening own quiet le = refl
seats_lines c e (suc n) opening own quiet le = ap₂ (λ xs ls. xs ++ ls) (seats_lines c e n opening own quiet (omega arith)) (seat_sent c e n opening own quiet (omega arith))

-- the seats of the campaign are enough
lines_of_seats : (w : World) (e : Entry) (more : ℕ) → seat_of e < length w.seats → entry_lines_below w e (length w.seats + more) ≡ entry_lines_below w e (length w.seats)
lines_of_seats w e zero own = ap (entry_lines_below w e) (add-zero (length w.seats))
lines_of_seats w e (suc more) own =
    let p : ℕ = length w.seats + more in
    let later : length w.seats + suc more ≡ suc p = omega arith in
    let other : eqb (seat_of e) p ≡ false = ne_eqb (seat_of e) p (λ h. absurd (omega (arith, h, own))) in
    let out : seat_at w p ≡ None = slice_get-past w.seats p (omega arith) in
    ap (entry_lines_below w e) later
    ∙ ap (λ ls. entry_lines_below w e p ++ ls) (absent_lines p (eqb (seat_of e) p) (seat_at w p) (outcome_of w e) (view_of w.scene p) (view_of (scene_after w e) p) other out)
    ∙ append-nil (entry_lines_below w e p)
    ∙ lines_of_seats w e more own

entry_sent : (c : Course) (e : Entry) → IsOpening c.origin → IsOfLine (world_of c) e → NothingWaits (world_of c) → length c.origin.seats ≤ 33 → lines_below (with_entry c e) (seat_of e) (answer_after c e).line (length c.origin.seats) ≡ entry_lines_below (world_of c) e 33
entry_sent c e opening line quiet few =
    let w : World = world_of c in
    let own : OfSeat w e = of_line w e (script_parts line.line) line.is in
    let size : length w.seats ≡ length c.origin.seats = seats_of_replay c.origin c.history in
    let whole : length w.seats + (33 - length w.seats) ≡ 33 = omega (arith, size, few) in
    ap (lines_below (with_entry c e) (seat_of e) (answer_after c e).line) (sym size)
    ∙ seats_lines c e (length w.seats) opening own quiet (omega arith)
    ∙ sym (lines_of_seats w e (33 - length w.seats) own.there)
    ∙ ap (entry_lines_below w e) whole

one_sent : (w : World) (e : Entry) → lines_sent w (e ∷ []) ≡ entry_lines_below w e 33
unfolding lines_sent
one_sent w e = append-nil (entry_lines_below w e 33)

-- of an entry that was made
module _ (old new : Course) (e : Entry) (history : new.history ≡ old.history ++ e ∷ []) where
  one : entries_since old new ≡ e ∷ []
  one = since_is old new (e ∷ []) history

  pub entered_lines : (acting : ℕ) (reply : Option (List ℕ)) → new.origin ≡ old.origin → IsOpening old.origin → IsOfLine (world_of old) e → NothingWaits (world_of old) → length new.origin.seats ≤ 33 → acting ≡ seat_of e → reply ≡ (answer_after old e).line → lines_below new acting reply (length new.origin.seats) ≡ lines_sent (world_of old) (entries_since old new)
  entered_lines acting reply o opening line quiet few own told =
      let few' : length old.origin.seats ≤ 33 = subst (λ (w : World). length w.seats ≤ 33) o few in
      lines_same new (with_entry old e) acting reply (length new.origin.seats) o history
      ∙ (λ i. lines_below (with_entry old e) (own i) (told i) (length (o i).seats))
      ∙ entry_sent old e opening line quiet few'
      ∙ sym (one_sent (world_of old) e)
      ∙ ap (lines_sent (world_of old)) (sym one)

  one_looks : new.looks ≤ old.looks + looks_at (world_of old) e → new.looks ≤ old.looks + looks_in (world_of old) (entries_since old new)
  unfolding looks_in
  one_looks le = let same = ap (looks_in (world_of old)) one in omega (arith, le, same)

  one_line : is_line e ≡ true → lines_in (entries_since old new) ≡ 1
  unfolding lines_in
  one_line line = ap lines_in one ∙ ap (λ is. one_if is + 0) line

  one_refused : is_line e ≡ true → refused_in (world_of old) (entries_since old new) ≡ one_if (is_some (outcome_of (world_of old) e).refusal) + 0
  unfolding refused_in
  one_refused line = ap (refused_in (world_of old)) one ∙ ap (λ is. one_if (is && is_some (outcome_of (world_of old) e).refusal) + 0) line

  -- a line of the script, and what it sends
  pub adds_line : (a b : Tally) (refused : Bool) (lines : List (List ℕ)) → is_line e ≡ true → refused ≡ is_some (outcome_of (world_of old) e).refusal → lines ≡ lines_sent (world_of old) (entries_since old new)
      → new.looks ≤ old.looks + looks_at (world_of old) e → b ≡ with_sent (with_line a refused) lines → Adds a b old new
  adds_line a b refused lines line said sent looks is = record {
    lines = let e = ap (λ (t : Tally). t.lines) is in omega (arith, e, one_line line);
    refused = let e = ap (λ (t : Tally). t.refused) is in let same = ap one_if said in omega (arith, e, same, one_refused line);
    sent = ap (λ (t : Tally). t.sent) is ∙ ap (λ ls. a.sent + length ls) sent;
    bytes = ap (λ (t : Tally). t.bytes) is ∙ ap (λ ls. a.bytes + length (bytes_of ls)) sent;
    looks = one_looks looks;
  }

  looks_more : (start : Course) → GoesOn start old → GoesOn old new → old.looks ≤ start.looks + looks_in (world_of start) (entries_since start old) → new.looks ≤ old.looks + looks_at (world_of old) e → new.looks ≤ start.looks + looks_in (world_of start) (entries_since start new)
  looks_more start g h before le =
      let all : looks_in (world_of start) (entries_since start new) ≡ looks_in (world_of start) (entries_since start old) + looks_in (world_of old) (entries_since old new) =
      ap (looks_in (world_of start)) (since_all start old new g h) ∙ looks_both (world_of start) (entries_since start old) (entries_since old new)
      ∙ ap (λ w. looks_in (world_of start) (entries_since start old) + looks_in w (entries_since old new)) (sym (world_on start old g)) in
      let last = one_looks le in
      omega (arith, all, last, before)

-- one more entry, behind those that were entered before
pub looks_after : (start now new : Course) (yielded : List Entry) (e : Entry) → now.origin ≡ start.origin → now.history ≡ start.history ++ yielded → new.origin ≡ now.origin → new.history ≡ now.history ++ e ∷ []
    → now.looks ≤ start.looks + looks_in (world_of start) (entries_since start now) → new.looks ≤ now.looks + looks_at (world_of now) e → new.looks ≤ start.looks + looks_in (world_of start) (entries_since start new)
looks_after start now new yielded e o h o' h' before le = looks_more now new e h' start (goes_on start now yielded o h) (goes_on now new (e ∷ []) o' h') before le

-- ---- courses

pub adds_nothing : (tally : Tally) (c : Course) → Adds tally tally c c
unfolding lines_in refused_in looks_in
adds_nothing tally c =
    let none = nothing_since c in
    let quiet : lines_sent (world_of c) (entries_since c c) ≡ [] = ap (lines_sent (world_of c)) none ∙ no_entry (world_of c) in
    record {
      lines = let e = ap lines_in none in omega (arith, e);
      refused = let e = ap (refused_in (world_of c)) none in omega (arith, e);
      sent = let e = ap length quiet in omega (arith, e);
      bytes = let e = ap (λ ls. length (bytes_of ls)) quiet in omega (arith, e);
      looks = omega arith;
    }

pub adds_both : (a b d : Tally) (old middle new : Course) → GoesOn old middle → GoesOn middle new → Adds a b old middle → Adds b d middle new → Adds a d old new
adds_both a b d old middle new g h first then =
    let w : World = world_of old in
    let es : List Entry = entries_since old middle in
    let more : List Entry = entries_since middle new in
    let all : entries_since old new ≡ es ++ more = since_all old middle new g h in
    let on : world_of middle ≡ replay w es = world_on old middle g in
    let sent : lines_sent w (entries_since old new) ≡ lines_sent w es ++ lines_sent (world_of middle) more =
    ap (lines_sent w) all ∙ lines_sent_both w es more ∙ ap (λ x. lines_sent w es ++ lines_sent x more) (sym on) in
    record {
      lines = let e : lines_in (entries_since old new) ≡ lines_in es + lines_in more = ap lines_in all ∙ lines_both es more in omega (arith, e, first.lines, then.lines);
      refused =
          let e : refused_in w (entries_since old new) ≡ refused_in w es + refused_in (world_of middle) more =
          ap (refused_in w) all ∙ refused_both w es more ∙ ap (λ x. refused_in w es + refused_in x more) (sym on) in
          omega (arith, e, first.refused, then.refused);
      sent = let e = ap length sent ∙ length-append (lines_sent w es) (lines_sent (world_of middle) more) in omega (arith, e, first.sent, then.sent);
      bytes = let e = ap (λ ls. length (bytes_of ls)) sent ∙ bytes_both (lines_sent w es) (lines_sent (world_of middle) more) in omega (arith, e, first.bytes, then.bytes);
      looks =
          let e : looks_in w (entries_since old new) ≡ looks_in w es + looks_in (world_of middle) more =
          ap (looks_in w) all ∙ looks_both w es more ∙ ap (λ x. looks_in w es + looks_in x more) (sym on) in
          omega (arith, e, first.looks, then.looks);
    }

-- the Takens that are due
adds_takens : (tally : Tally) (old new : Course) (due : List Entry) → IsSettled (world_of old).scene → entries_since old new ≡ due → due ≡ takens (world_of old) → new.looks ≤ old.looks + looks_in (world_of old) (entries_since old new) → Adds tally tally old new
adds_takens tally old new due steady all is looks =
    let none : AreNoLines (entries_since old new) = subst AreNoLines (sym (all ∙ is)) (takens_none (world_of old)) in
    let quiet : lines_sent (world_of old) (entries_since old new) ≡ [] = ap (lines_sent (world_of old)) (all ∙ is) ∙ takens_quiet (world_of old) steady in
    record {
      lines = let e = no_lines_in (entries_since old new) none in omega (arith, e);
      refused = let e = none_refused (world_of old) (entries_since old new) none in omega (arith, e);
      sent = let e = ap length quiet in omega (arith, e);
      bytes = let e = ap (λ ls. length (bytes_of ls)) quiet in omega (arith, e);
      looks = looks;
    }

-- an entry, and then its Takens
pub takens_counted : {A : Type 0} (r : Result A Played) (a b : Tally) (old middle new : Course) (e : Entry) (due : List Entry) → GoesOn old middle → GoesOn middle new → entries_since old middle ≡ e ∷ [] → Adds a b old middle → due ≡ takens (world_of middle) → OnOk r (entries_since middle new ≡ due) → OnOk r (new.looks ≤ middle.looks + looks_in (world_of middle) (entries_since middle new)) → OnOk r (Adds a b old new)
takens_counted (Ok value) a b old middle new e due g h entered first is all looks =
    let steady : IsSettled (world_of middle).scene = subst (λ (now : World). IsSettled now.scene) (sym (world_entered old middle e g entered)) (after_settled (world_of old) e) in
    adds_both a b b old middle new g h first (adds_takens b middle new due steady all is looks)
takens_counted (Err stop) a b old middle new e due g h entered first is all looks = tt

-- ---- an entry of a line is a line

line_by : (seat : ℕ) (bytes : List ℕ) (key : Option (List ℕ)) → is_line (entry_by seat bytes key) ≡ true
line_by seat bytes None = refl
line_by seat bytes (Some key) = refl

some_same : {A : Type 0} (x y : A) → Some x ≡ Some y → x ≡ y
some_same x y e = cc

by_place : (w : World) (e : Entry) (parts : ℕ × List ℕ) (there : Bool) → cond there (Some (entry_of w parts.0 parts.1)) None ≡ Some e → is_line e ≡ true
by_place w e parts false is = cc
by_place w e parts true is = subst (λ e. is_line e ≡ true) (some_same (entry_of w parts.0 parts.1) e is) (line_by parts.0 parts.1 (joining_key w parts.0 parts.1))

by_parts : (w : World) (e : Entry) (parts : Option (ℕ × List ℕ)) → option_and_then (λ (parts : ℕ × List ℕ). cond (nat_lt parts.0 (length w.seats)) (Some (entry_of w parts.0 parts.1)) None) parts ≡ Some e → is_line e ≡ true
by_parts w e None is = cc
by_parts w e (Some parts) is = by_place w e parts (nat_lt parts.0 (length w.seats)) is

pub entered_line : (w : World) (e : Entry) → IsOfLine w e → is_line e ≡ true
entered_line w e of = by_parts w e (script_parts of.line) of.is
