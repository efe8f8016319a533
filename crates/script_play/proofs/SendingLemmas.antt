-- Texts that are put together one behind the other, and what is written of them.
use Rattle.std.proofs.Common.{◌≡◌, ℕ, zero, suc, ◌+◌, ◌-◌, ◌*◌, ◌≤◌, Bool, true, false, cond, eqb, List, [], ◌∷◌, ◌++◌, length, take, drop, map, max, Some, None, refl, sym, ◌∙◌, ap, append_assoc, arith, length-append, length-drop, eq-eqb, add-one}
use Rattle.std.specs.Prelude.{Option, option_map, unwrap_or, IfSome}
use Rattle.std.specs.List.{flat_map}
use Rattle.std.proofs.lemmas.Grind.{flat_map-append}
use Rattle.std.proofs.lemmas.List.{length-map, take-append-drop}
use Rattle.std.proofs.lemmas.Bool.{ne_eqb}
use Rattle.mails.specs.Texts.{tagged_text}
use Rattle.line_io.specs.Told.{TookPrefix}
use Rattle.line_io.proofs.ToldLemmas.{append_known-nil}
use Rattle.campaign_law.specs.declared.entry.Entry.TheVariants.{Taken}
use Rattle.campaign_law.specs.Seat.{Seat}
use Rattle.campaign_law.specs.World.{World, seat_at}
use Rattle.campaign_law.specs.Session.{session, waiting}
use Rattle.campaign_law.specs.Law.{Course, IsOpening, bytes_of, world_of}
use Rattle.campaign_law.proofs.Sessions.{IsKept, kept_at}
use Rattle.script_play.specs.declared.run.Played.{Played}
use Rattle.script_play.specs.declared.tally.Tally.{Tally}
use Rattle.script_play.specs.Counting.{with_sent, with_text}
use Rattle.script_play.specs.Script.{taken_of, takens_below}
use Rattle.script_play.specs.Tagged.{seat_tag, tagged_line, tagged_lines}
use Rattle.script_play.specs.Played.{IsCutShort}
use Rattle.script_play.proofs.WholeLines.{whole_none}
use Rattle.script_play.specs.Sending.{untaken, waiting_lines, reply_to, sent_below, WroteFront, WroteTill}

pub front_taken : (before : Option (List ℕ)) (text : List ℕ) (after : Option (List ℕ)) → TookPrefix before text after → WroteFront before text after
front_taken before text after t = record { front = take t.count text; rest = drop t.count text; is = sym (take-append-drop t.count text); written = t.written }

-- nothing was written
pub stops_first : (stop : Played) (before : Option (List ℕ)) (text : List ℕ) → IsCutShort stop → WroteTill stop before text before
stops_first stop before text cut = record { cut = cut; part = record { front = []; rest = text; is = refl; written = sym (append_known-nil before) }; whole = λ memory. whole_none }

-- ---- lines behind a seat's tag

-- one part behind the other
pub tagged_both : (seat : ℕ) (first second old middle new : List ℕ) (xs ys : List (List ℕ)) → first ≡ seat_tag seat → second ≡ seat_tag seat → middle ≡ old ++ tagged_text first xs → new ≡ middle ++ tagged_text second ys → new ≡ old ++ tagged_lines seat (xs ++ ys)
tagged_both seat first second old middle new xs ys is same before then =
    then
    ∙ (λ i. before i ++ tagged_text (same i) ys)
    ∙ (λ i. (old ++ tagged_text (is i) xs) ++ tagged_lines seat ys)
    ∙ append_assoc old (tagged_lines seat xs) (tagged_lines seat ys)
    ∙ ap (λ t. old ++ t) (sym (flat_map-append (tagged_line seat) xs ys))

-- how many bytes lines have with a tag before each
tagged_size : (tag : List ℕ) (lines : List (List ℕ)) → length (tagged_text tag lines) ≡ length lines * length tag + length (bytes_of lines)
tagged_size tag [] = omega arith
tagged_size tag (line ∷ lines) =
    let rest = tagged_size tag lines in
    let own : List ℕ = line ++ 10 ∷ [] in
    let one = length-append (tag ++ own) (tagged_text tag lines) in
    let both = length-append tag own in
    let bytes = length-append own (bytes_of lines) in
    omega (arith, rest, one, both, bytes)

-- what a text grew by
grown_size : (tag old new : List ℕ) (lines : List (List ℕ)) → new ≡ old ++ tagged_text tag lines → length new - length old ≡ length lines * length tag + length (bytes_of lines)
grown_size tag old new lines is =
    let all : length new ≡ length old + length (tagged_text tag lines) = ap length is ∙ length-append old (tagged_text tag lines) in
    let size = tagged_size tag lines in
    omega (arith, all, size)

-- the tags are a part of that
pub tags_within : (tag old new : List ℕ) (lines : List (List ℕ)) (count : ℕ) → count ≡ length lines → new ≡ old ++ tagged_text tag lines → count * length tag ≤ length new - length old
tags_within tag old new lines count all is =
    let size = grown_size tag old new lines is in
    let tags : count * length tag ≡ length lines * length tag = ap (λ n. n * length tag) all in
    omega (arith, size, tags)

-- and the rest is the lines with their LFs
pub grown_sent : (t : Tally) (tag old new : List ℕ) (lines : List (List ℕ)) (count : ℕ) → count ≡ length lines → new ≡ old ++ tagged_text tag lines → with_text t count ((length new - length old) - count * length tag) ≡ with_sent t lines
grown_sent t tag old new lines count all is =
    let size = grown_size tag old new lines is in
    let tags : count * length tag ≡ length lines * length tag = ap (λ n. n * length tag) all in
    let bytes : (length new - length old) - count * length tag ≡ length (bytes_of lines) = omega (arith, size, tags) in
    λ i. with_text t (all i) (bytes i)

-- ---- what waits

tagged_ended : (tag : List ℕ) (lines : List (List ℕ)) → flat_map (λ line. tag ++ line) (map (λ line. line ++ 10 ∷ []) lines) ≡ tagged_text tag lines
tagged_ended tag [] = refl
tagged_ended tag (line ∷ lines) = ap (λ rest. (tag ++ (line ++ 10 ∷ [])) ++ rest) (tagged_ended tag lines)

some_same : {A : Type 0} (x y : A) → Some x ≡ Some y → x ≡ y
some_same {A} x y e = ap (λ (o : Option A). unwrap_or o x) e

-- from the first line on, behind what the text had
text_all : (tag old new : List ℕ) (seat : Option Seat) (lines : List (List ℕ)) → Some new ≡ option_map (λ s. old ++ flat_map (λ line. tag ++ line) (waiting 0 s.taken lines)) seat → new ≡ old ++ tagged_text tag (untaken seat lines)
text_all tag old new None lines h = cc
text_all tag old new (Some s) lines h =
    let from : max 0 s.taken ≡ s.taken = omega arith in
    some_same new _ h ∙ ap (λ t. old ++ t) (tagged_ended tag (drop (max 0 s.taken) lines) ∙ ap (λ n. tagged_text tag (drop n lines)) from)

count_all : (count : ℕ) (seat : Option Seat) (lines : List (List ℕ)) → Some count ≡ option_map (λ s. length (waiting 0 s.taken lines)) seat → count ≡ length (untaken seat lines)
count_all count None lines h = cc
count_all count (Some s) lines h =
    let from : max 0 s.taken ≡ s.taken = omega arith in
    some_same count _ h ∙ length-map (drop (max 0 s.taken) lines) (λ line. line ++ 10 ∷ []) ∙ ap (λ n. length (drop n lines)) from

pub text_waits : (c : Course) (seat : ℕ) (tag old new : List ℕ) → Some new ≡ option_map (λ s. old ++ flat_map (λ line. tag ++ line) (waiting 0 s.taken (session c.origin c.history seat))) (seat_at (world_of c) seat) → new ≡ old ++ tagged_text tag (waiting_lines c seat)
text_waits c seat tag old new h = text_all tag old new (seat_at (world_of c) seat) (session c.origin c.history seat) h

pub count_waits : (c : Course) (seat count : ℕ) → Some count ≡ option_map (λ s. length (waiting 0 s.taken (session c.origin c.history seat))) (seat_at (world_of c) seat) → count ≡ length (waiting_lines c seat)
count_waits c seat count h = count_all count (seat_at (world_of c) seat) (session c.origin c.history seat) h

-- a seat with this session has a Taken exactly where lines of it wait
taken_is : (seat : ℕ) (before : Option Seat) (lines : List (List ℕ)) (none : Bool) → IfSome before (IsKept lines) → none ≡ eqb (length (untaken before lines)) 0 → IfSome before (λ s. eqb s.taken s.queued ≡ none)
taken_is seat None lines none k h = tt
taken_is seat (Some s) lines none k h =
    let left : length (drop s.taken lines) + s.taken ≡ s.queued = omega (arith, length-drop s.taken lines, k.count, k.sound.taken) in
    by_left (length (drop s.taken lines)) left ∙ sym h
  where
    by_left : (n : ℕ) → n + s.taken ≡ s.queued → eqb s.taken s.queued ≡ eqb n 0
    by_left zero e = eq-eqb s.taken s.queued (omega (arith, e))
    by_left (suc n) e = ne_eqb s.taken s.queued (λ z. absurd (omega (arith, e, z))) ∙ sym (ne_eqb (suc n) 0 (λ z. absurd (omega (arith, z))))

pub no_taken : (c : Course) (seat : ℕ) → IsOpening c.origin → true ≡ eqb (length (waiting_lines c seat)) 0 → [] ≡ taken_of seat (seat_at (world_of c) seat)
no_taken c seat opening h = by_seat (seat_at (world_of c) seat) (taken_is seat (seat_at (world_of c) seat) (session c.origin c.history seat) true (kept_at c.origin c.history seat opening) h)
  where
    by_seat : (before : Option Seat) → IfSome before (λ s. eqb s.taken s.queued ≡ true) → [] ≡ taken_of seat before
    by_seat None h = refl
    by_seat (Some s) h = sym (ap (λ all. cond all [] (Taken seat s.queued ∷ [])) h)

pub one_taken : (c : Course) (seat count : ℕ) → IsOpening c.origin → false ≡ eqb (length (waiting_lines c seat)) 0 → Some count ≡ option_map (λ s. s.queued) (seat_at (world_of c) seat) → Taken seat count ∷ [] ≡ taken_of seat (seat_at (world_of c) seat)
one_taken c seat count opening h is = by_seat (seat_at (world_of c) seat) is (taken_is seat (seat_at (world_of c) seat) (session c.origin c.history seat) false (kept_at c.origin c.history seat opening) h)
  where
    by_seat : (before : Option Seat) → Some count ≡ option_map (λ s. s.queued) before → IfSome before (λ s. eqb s.taken s.queued ≡ false) → Taken seat count ∷ [] ≡ taken_of seat before
    by_seat None is h = cc
    by_seat (Some s) is h = ap (λ n. Taken seat n ∷ []) (ap (λ (o : Option ℕ). unwrap_or o count) is) ∙ sym (ap (λ all. cond all [] (Taken seat s.queued ∷ [])) h)

-- ---- seat after seat

pub sent_next : (c : Course) (acting : ℕ) (reply : Option (List ℕ)) (seat : ℕ) → sent_below c acting reply (seat + 1) ≡ sent_below c acting reply seat ++ tagged_lines seat (reply_to acting seat reply ++ waiting_lines c seat)
sent_next c acting reply seat = ap (sent_below c acting reply) (add-one seat)

pub takens_next : (w : World) (seat : ℕ) → takens_below w (seat + 1) ≡ takens_below w seat ++ taken_of seat (seat_at w seat)
takens_next w seat = ap (takens_below w) (add-one seat)
