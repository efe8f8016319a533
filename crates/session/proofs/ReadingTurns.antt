-- Turn after turn of the reading half.
use Rattle.std.proofs.Common.{◌≡◌, ◌≢◌, ℕ, suc, ◌≤◌, Bool, true, false, cond, not, ◌&&◌, List, [], ◌∷◌, ◌++◌, length, take, drop, map, get_or, slice_get, refl, sym, ◌∙◌, ap, subst, arith, append_assoc, length-append, inl, inr}
use Rattle.std.specs.Prelude.{Option, Some, None, All, Contains}
use Rattle.std.proofs.lemmas.List.{append-nil, append_cancel_left, take-append-le, take_all}
use Rattle.std.proofs.lemmas.List.Elements.{All-nil, All-cons, All-append, All-contains_itself, Contains-push, Contains-append_left, Contains-append_right}
use Rattle.std.proofs.lemmas.Option.{slice_get_within}
use mathlib.Core.List.{IsPrefix}
use Rattle.line_io.specs.Lines.{lines_of as text_lines}
use Rattle.line_io.specs.Told.{WhereTold}
use Rattle.campaign_law.specs.declared.entry.Entry.{Entry}
use Rattle.campaign_law.specs.declared.entry.Entry.TheVariants.{Line, Leave, Cut}
use Rattle.campaign_law.specs.World.{World, seat_at, replay}
use Rattle.campaign_law.specs.Law.{IsOpening}
use Rattle.campaign_core.specs.Over.{over_of}
use Rattle.turn_lock.specs.Pass.{PassState, places}
use Rattle.turn_lock.proofs.Prefixes.{prefix_self, prefix_get, prefix_trans}
use Rattle.session.specs.declared.hold.Hold.{Hold}
use Rattle.session.specs.declared.speaking.Said.{Said}
use Rattle.session.specs.declared.speaking.Said.TheVariants as saying
use Rattle.session.specs.declared.hearing.ReadEnd.{ReadEnd}
use Rattle.session.specs.declared.hearing.ReadEnd.TheVariants.{Bye, Spent, Stopped}
use Rattle.session.specs.declared.hearing.ReadEnd.TheVariants as reads
use Rattle.session.specs.declared.input.Stop.{Stop}
use Rattle.session.specs.declared.input.Stop.TheVariants.{Memory}
use Rattle.session.specs.Inputs.{IsShort, CameFirst, CamePast, StopsBefore, is_memory as is_memory_stop}
use Rattle.session.specs.Held.{is_held, is_read, is_cut, is_parted}
use Rattle.session.specs.Own.{StandsAt, Got}
use Rattle.session.specs.Heard.{IsReadBehind, IsReaders, line_in, lines_at, Came, CameBut, AreFirst, IsByeAt, IsSpentAt, IsUnspent, ClosedBy, AreCutBehind, CutsBehindLine, CutsBehindLines, stopped, IsReading, HasHeard}
use Rattle.session.specs.Turned.{SpeaksIn, Leaves}
use Rattle.session.specs.Spoken.{is_spent, is_memory, AreOver, Says, Enters, Speaks, SpokenSo}
use Rattle.session.proofs.Alone.{stands_longer}
use Rattle.session.proofs.LinesInHand.{past_none, past_of, past_more}
use Rattle.session.proofs.Byes.{closed_by_bye, spent_closes}
use Rattle.session.proofs.Cutting.{all_cut_unread}
use Rattle.session.proofs.Parting.{Told, told_by, cut_told, parted_cut, both_first, not_cut, no_memory}

-- ---- lines at places

lines_at-append : (h : List Entry) (xs ys : List ℕ) → lines_at h (xs ++ ys) ≡ lines_at h xs ++ lines_at h ys
lines_at-append h [] ys = refl
lines_at-append h (x ∷ xs) ys = ap (λ l. line_in (slice_get h x) ++ l) (lines_at-append h xs ys) ∙ sym (append_assoc (line_in (slice_get h x)) (lines_at h xs) (lines_at h ys))

pub lines_at-longer : (rule : List Entry → Entry → Type 0) (f h : List Entry) (own : List ℕ) → IsPrefix f h → All (StandsAt rule f) own → lines_at h own ≡ lines_at f own
lines_at-longer rule f h [] prefix each = refl
lines_at-longer rule f h (k ∷ own) prefix each =
    let at = each 0 k (omega arith) in
    let here : slice_get h k ≡ slice_get f k = prefix_get f h k at.entry prefix at.there ∙ sym at.there in
    λ i. line_in (here i) ++ lines_at-longer rule f h own prefix (λ j d lt. each (suc j) d (omega (arith, lt))) i

-- ---- entries behind a history

-- they are lawful one behind another
abbrev pub AreLawful : (List Entry → Entry → Type 0) → List Entry → List Entry → Type 0
AreLawful rule h [] = Unit {0}
AreLawful rule h (e ∷ es) = rule h e × AreLawful rule (h ++ e ∷ []) es

abbrev pub lines_in : List Entry → List (List ℕ)
lines_in [] = []
lines_in (e ∷ es) = line_in (Some e) ++ lines_in es

get_here : (h : List Entry) (e : Entry) (es : List Entry) → slice_get (h ++ e ∷ es) (length h) ≡ Some e
get_here [] e es = refl
get_here (x ∷ h) e es = get_here h e es

take_here : (h es : List Entry) → take (length h) (h ++ es) ≡ h
take_here h es = take-append-le (length h) h es (omega arith) ∙ take_all (length h) h (omega arith)

one_longer : (h : List Entry) (e : Entry) → length (h ++ e ∷ []) ≡ suc (length h)
one_longer h e = length-append h (e ∷ []) ∙ omega arith

stand_behind : (rule : List Entry → Entry → Type 0) (h es : List Entry) → AreLawful rule h es → All (StandsAt rule (h ++ es)) (places (length h) es)
stand_behind rule h [] lawful = All-nil (StandsAt rule (h ++ []))
stand_behind rule h (e ∷ es) lawful =
    All-cons (StandsAt rule (h ++ e ∷ es)) (length h) (places (suc (length h)) es)
    (record { entry = e; there = get_here h e es; lawful = subst (λ l. rule l e) (sym (take_here h (e ∷ es))) lawful.0 })
    (subst (λ l. All (StandsAt rule l) (places (suc (length h)) es)) (append_assoc h (e ∷ []) es)
    (subst (λ n. All (StandsAt rule ((h ++ e ∷ []) ++ es)) (places n es)) (one_longer h e) (stand_behind rule (h ++ e ∷ []) es lawful.1)))

lines_behind : (h es : List Entry) → lines_at (h ++ es) (places (length h) es) ≡ lines_in es
lines_behind h [] = refl
lines_behind h (e ∷ es) =
    let longer : h ++ e ∷ es ≡ (h ++ e ∷ []) ++ es = sym (append_assoc h (e ∷ []) es) in
    let counted : suc (length h) ≡ length (h ++ e ∷ []) = sym (one_longer h e) in
    let rest : lines_at (h ++ e ∷ es) (places (suc (length h)) es) ≡ lines_in es =
    (λ i. lines_at (longer i) (places (counted i) es)) ∙ lines_behind (h ++ e ∷ []) es in
    ap (λ o. line_in o ++ lines_at (h ++ e ∷ es) (places (suc (length h)) es)) (get_here h e es) ∙ ap (λ l. line_in (Some e) ++ l) rest

-- ---- Cuts behind a history

lines_in_cuts : (seats : List ℕ) → lines_in (map Cut seats) ≡ []
lines_in_cuts [] = refl
lines_in_cuts (seat ∷ seats) = lines_in_cuts seats

-- the reading half may enter those of seats for which too much waits
cuts_lawful : (w : World) (hold : Hold) (h : List Entry) (seats : List ℕ) → AreOver w h seats → AreLawful (IsReaders w hold) h (map Cut seats)
cuts_lawful w hold h [] over = tt
cuts_lawful w hold h (seat ∷ seats) over = (over.0, cuts_lawful w hold (h ++ Cut seat ∷ []) seats over.1)

-- by a rule that says nothing of Cuts
cuts_free : (rule : List Entry → Entry → Type 0) → ((h : List Entry) (seat : ℕ) → rule h (Cut seat)) → (h : List Entry) (seats : List ℕ) → AreLawful rule h (map Cut seats)
cuts_free rule each h [] = tt
cuts_free rule each h (seat ∷ seats) = (each h seat, cuts_free rule each (h ++ Cut seat ∷ []) seats)

-- what a line appends
pub enters_there : (w : World) (hold : Hold) (before : List Entry) (line : List ℕ) (said : Said) (after : List Entry) (enters : Enters w hold before line said after) → after ≡ before ++ Line hold.seat line ∷ map Cut enters.cuts.are.seats
enters_there w hold before line said after enters = enters.cuts.are.there ∙ append_assoc before (Line hold.seat line ∷ []) (map Cut enters.cuts.are.seats)

-- ---- Cuts behind each Line

abbrev IsNoLine : List Entry → Entry → Type 0
IsNoLine h e = (seat : ℕ) (bytes : List ℕ) → e ≡ Line seat bytes → ⊥

cut_is_no_line : (h : List Entry) (s : ℕ) → IsNoLine h (Cut s)
cut_is_no_line h s seat bytes same = cc

-- where no Line stands nothing is asked
no_lines : (w : World) (h : List Entry) (own places : List ℕ) → All (StandsAt IsNoLine h) places → All (CutsBehindLine w h own) places
no_lines w h own places each = λ i d lt seat bytes there. let at = each i d lt in absurd (at.lawful seat bytes (cc (at.there, there)))

front_take : {A : Type 0} (k : ℕ) (f h : List A) → IsPrefix f h → k ≤ length f → take k h ≡ take k f
front_take k f h prefix le = ap (take k) (sym prefix.1) ∙ take-append-le k f prefix.0 le

-- in a longer history, among more own places
pub cuts_longer : (w : World) (rule : List Entry → Entry → Type 0) (f h : List Entry) (own more : List ℕ) → IsPrefix f h → All (StandsAt rule f) own → ((k : ℕ) → Contains own k → Contains more k) → CutsBehindLines w f own → All (CutsBehindLine w h more) own
cuts_longer w rule f h own more prefix each wider cuts = λ i d lt. longer (get_or own i d) (each i d lt) (cuts i d lt)
  where
    longer : (k : ℕ) → StandsAt rule f k → CutsBehindLine w f own k → CutsBehindLine w h more k
    longer k at behind seat bytes there =
        let lt = slice_get_within f k at.entry at.there in
        let same : at.entry ≡ Line seat bytes = cc (prefix_get f h k at.entry prefix at.there, there) in
        let are = behind seat bytes (at.there ∙ ap Some same) in
        let front : take (suc k) f ≡ take (suc k) h = sym (front_take (suc k) f h prefix (omega (arith, lt))) in
        record {
          seats = are.seats;
          over = subst (λ l. AreOver w l are.seats) front are.over;
          none = ap (λ l. over_of w (l ++ map Cut are.seats)) (sym front) ∙ are.none;
          there = subst (λ l. IsPrefix (l ++ map Cut are.seats) h) front (prefix_trans (take (suc k) f ++ map Cut are.seats) f h are.there prefix);
          mine = λ i d lt. wider (get_or (places (suc k) (map Cut are.seats)) i d) (are.mine i d lt);
        }

-- ---- a pass by which entries were appended

record Extends (q r : PassState Entry World) : Type 0 where
  es : List Entry
  front : r.front ≡ q.front ++ es
  own : r.own ≡ q.own ++ places (length q.front) es
  number : r.number ≡ q.number

module _ (rule : List Entry → Entry → Type 0) (p q r : PassState Entry World) (more : List ℕ) (got : Got rule p q more) (x : Extends q r) where
  abbrev new : List ℕ
  new = places (length q.front) x.es

  grows : IsPrefix q.front r.front
  grows = (x.es, sym x.front)

  extended : AreLawful rule q.front x.es → Got rule p r (more ++ new)
  extended lawful = record {
    front = prefix_trans p.front q.front r.front got.front grows;
    number = x.number ∙ got.number;
    own = x.own ∙ ap (λ l. l ++ new) got.own ∙ append_assoc p.own more new;
    each = All-append (StandsAt rule r.front) more new (stands_longer rule q.front r.front more grows got.each)
        (subst (λ l. All (StandsAt rule l) new) (sym x.front) (stand_behind rule q.front x.es lawful));
  }

  -- another rule of the same entries
  also_stand : (other : List Entry → Entry → Type 0) → All (StandsAt other q.front) more → AreLawful other q.front x.es → All (StandsAt other r.front) (more ++ new)
  also_stand other old lawful =
      All-append (StandsAt other r.front) more new (stands_longer other q.front r.front more grows old)
      (subst (λ l. All (StandsAt other l) new) (sym x.front) (stand_behind other q.front x.es lawful))

  lines_now : lines_at r.front (more ++ new) ≡ lines_at q.front more ++ lines_in x.es
  lines_now =
      lines_at-append r.front more new
      ∙ ap (λ l. l ++ lines_at r.front new) (lines_at-longer rule q.front r.front more grows got.each)
      ∙ ap (λ l. lines_at q.front more ++ l) (ap (λ l. lines_at l new) x.front ∙ lines_behind q.front x.es)

-- ---- what came

came_more : (lines more : List (List ℕ)) (t u v : Option (List ℕ)) → WhereTold t u (CameBut [] lines) → CameFirst more u v → WhereTold t v (CameBut more lines)
came_more lines more None None None came next = tt
came_more lines more None None (Some v) came next = next
came_more lines more None (Some u) v came next = absurd came
came_more lines more (Some t) None v came next = absurd came
came_more lines more (Some t) (Some u) None came next = next
came_more lines more (Some t) (Some u) (Some v) came next = came ∙ (λ i. append-nil lines i ++ next i) ∙ sym (append_assoc lines more (text_lines v))

are_first : (hand lines : List (List ℕ)) (t u : Option (List ℕ)) → WhereTold t u (CameBut hand lines) → AreFirst lines t
are_first hand lines None u came = tt
are_first hand lines (Some t) None came = absurd came
are_first hand lines (Some t) (Some u) came = (hand ++ text_lines u, sym (append_assoc lines hand (text_lines u)) ∙ sym came)

-- ---- the loop

pub starts : (w : World) (hold : Hold) (p : PassState Entry World) (text : Option (List ℕ)) → IsReading w hold p p [] text text
starts w hold p text = record {
  more = [];
  got = record { front = prefix_self p.front; number = refl; own = sym (append-nil p.own); each = λ i d lt. absurd (omega (arith, lt)) };
  came = nothing_came text;
  short = All-nil IsShort;
  kept = λ i d lt. absurd (omega (arith, lt));
  unspent = λ i d lt. absurd (omega (arith, lt));
  cuts = λ i d lt. absurd (omega (arith, lt));
}
  where
    nothing_came : (text : Option (List ℕ)) → WhereTold text text (CameBut [] [])
    nothing_came None = tt
    nothing_came (Some text) = refl

module _ (w : World) (hold : Hold) (p : PassState Entry World) (t : Option (List ℕ)) (opening : IsOpening w) where
  -- the pass sees a longer history
  reads_further : (q r : PassState Entry World) (hand : List (List ℕ)) (v : Option (List ℕ)) → IsPrefix q.front r.front → r.own ≡ q.own → r.number ≡ q.number → IsReading w hold p q hand t v → IsReading w hold p r hand t v
  reads_further q r hand v longer own number is = record {
    more = is.more;
    got = record {
      front = prefix_trans p.front q.front r.front is.got.front longer;
      number = number ∙ is.got.number;
      own = own ∙ is.got.own;
      each = stands_longer (IsReaders w hold) q.front r.front is.more longer is.got.each;
    };
    came = subst (λ ls. WhereTold t v (CameBut hand ls)) (sym (lines_at-longer (IsReaders w hold) q.front r.front is.more longer is.got.each)) is.came;
    short = is.short;
    kept = stands_longer (IsReadBehind w hold) q.front r.front is.more longer is.kept;
    unspent = stands_longer (IsUnspent w hold) q.front r.front is.more longer is.unspent;
    cuts = cuts_longer w (IsReaders w hold) q.front r.front is.more is.more longer is.got.each (λ k has. has) is.cuts;
  }

  -- ---- the turn in which the seat is left

  leave_lawful : (h : List Entry) (entered : Bool) → (entered ≡ true → is_held w h hold ≡ true) → AreLawful (IsReaders w hold) h (cond entered (Leave hold.seat false ∷ []) [])
  leave_lawful h false held = tt
  leave_lawful h true held = ((refl, refl, held refl), tt)

  leave_unspent : (h : List Entry) (entered : Bool) → AreLawful (IsUnspent w hold) h (cond entered (Leave hold.seat false ∷ []) [])
  leave_unspent h false = tt
  leave_unspent h true = (tt, tt)

  leave_lines : (lines : List (List ℕ)) (entered : Bool) → lines ++ lines_in (cond entered (Leave hold.seat false ∷ []) []) ≡ lines
  leave_lines lines false = append-nil lines
  leave_lines lines true = append-nil lines

  leave_no_line : (h : List Entry) (entered : Bool) → AreLawful IsNoLine h (cond entered (Leave hold.seat false ∷ []) [])
  leave_no_line h false = tt
  leave_no_line h true = ((λ seat bytes same. cc), tt)

  module _ (q r : PassState Entry World) (hand : List (List ℕ)) (stop : Stop) (cut : Bool) (u v : Option (List ℕ)) (is : IsReading w hold p q hand t u) (none : stop ≢ Memory → (hand ≡ []) × (v ≡ u)) (past : CamePast [] u v) (left : Leaves w hold cut q r) where
    abbrev found_pass : PassState Entry World
    found_pass = record r { front = left.turn.found; own = q.own }

    before_leave : IsReading w hold p found_pass hand t u
    before_leave = reads_further q found_pass hand u left.turn.begins refl left.number is

    abbrev leave_step : Extends found_pass r
    leave_step = record { es = cond left.entered (Leave hold.seat false ∷ []) []; front = left.turn.front_is; own = left.turn.own_is; number = refl }

    abbrev leave_places : List ℕ
    leave_places = places (length found_pass.front) leave_step.es

    left_cuts : CutsBehindLines w r.front (before_leave.more ++ leave_places)
    left_cuts = All-append (CutsBehindLine w r.front (before_leave.more ++ leave_places)) before_leave.more leave_places
        (cuts_longer w (IsReaders w hold) found_pass.front r.front before_leave.more (before_leave.more ++ leave_places) (leave_step.es, sym leave_step.front) before_leave.got.each (λ k has. Contains-append_left before_leave.more leave_places k has) before_leave.cuts)
        (no_lines w r.front (before_leave.more ++ leave_places) leave_places (subst (λ l. All (StandsAt IsNoLine l) leave_places) (sym leave_step.front) (stand_behind IsNoLine found_pass.front leave_step.es (leave_no_line found_pass.front left.entered))))

    left_by : (end : ReadEnd) → ClosedBy end w r.front hold (before_leave.more ++ leave_places) → (end ≢ reads.Cut → end ≢ Stopped Memory → is_cut w r.front hold ≡ false) → (end ≢ reads.Cut → end ≢ Stopped Memory → stop ≢ Memory) → HasHeard w hold p r end false t v
    left_by end cause uncut told =
        let same : lines_at r.front (before_leave.more ++ leave_places) ≡ lines_at found_pass.front before_leave.more = lines_now (IsReaders w hold) p found_pass r before_leave.more before_leave.got leave_step ∙ leave_lines (lines_at found_pass.front before_leave.more) left.entered in
        record {
          more = before_leave.more ++ leave_places;
          got = extended (IsReaders w hold) p found_pass r before_leave.more before_leave.got leave_step (leave_lawful found_pass.front left.entered left.turn.has_run.left.held);
          first = subst (λ ls. AreFirst ls t) (sym same) (are_first hand (lines_at found_pass.front before_leave.more) t u before_leave.came);
          past = subst (λ ls. CamePast ls t v) (sym same) (past_more (lines_at found_pass.front before_leave.more) t u v (past_of hand (lines_at found_pass.front before_leave.more) t u before_leave.short before_leave.came) past);
          hand = [];
          behind = λ other. absurd (other refl);
          all = λ g c n.
              let m = none (told c n) in
              subst (λ ls. WhereTold t v (CameBut [] ls)) (sym same) (subst (λ y. WhereTold t y (CameBut [] (lines_at found_pass.front before_leave.more))) (sym m.1) (subst (λ h. WhereTold t u (CameBut h (lines_at found_pass.front before_leave.more))) m.0 before_leave.came));
          closed = left.turn.has_run.left.closed;
          kept = λ g. cc;
          cause = cause;
          uncut = uncut;
          cuts = left_cuts;
          unspent = λ other c. also_stand (IsReaders w hold) p found_pass r before_leave.more before_leave.got leave_step (IsUnspent w hold) before_leave.unspent (leave_unspent found_pass.front left.entered);
        }

    -- whether the session was cut
    pub leaves_reading : HasHeard w hold p r (stopped cut stop) false t v
    leaves_reading = by_cut (cut && not (is_memory_stop stop)) refl
      where
        by_cut : (b : Bool) → (cut && not (is_memory_stop stop)) ≡ b → HasHeard w hold p r (cond b reads.Cut (Stopped stop)) false t v
        by_cut true e = left_by reads.Cut (sym left.turn.has_run.cut_is ∙ both_first cut (not (is_memory_stop stop)) e) (λ c n. absurd (c refl)) (λ c n. absurd (c refl))
        by_cut false e = left_by (Stopped stop) tt
            (λ c n. sym left.turn.has_run.cut_is ∙ not_cut cut (is_memory_stop stop) e (no_memory stop (λ m. n (ap Stopped m))))
            (λ c n m. n (ap Stopped m))

    -- for want of memory
    pub leaves_unsaid : HasHeard w hold p r (Stopped Memory) false t v
    leaves_unsaid = left_by (Stopped Memory) tt (λ c n. absurd (n refl)) (λ c n. absurd (n refl))

  -- ---- one line

  module _ (v : Option (List ℕ)) (q : PassState Entry World) (line : List ℕ) (hand : List (List ℕ)) (said : Said) (after : List Entry) (is : IsReading w hold p q (line ∷ hand) t v) (enters : Enters w hold q.front line said after) where
    line_short : IsShort line
    line_short = is.short 0 line (omega arith)

    hand_short : All IsShort hand
    hand_short = λ i d lt. is.short (suc i) d (omega (arith, lt))

    abbrev e : Entry
    e = Line hold.seat line

    abbrev place : ℕ
    place = length q.front

    -- the history behind the Line, and the Cuts behind it
    abbrev lined : List Entry
    lined = q.front ++ e ∷ []

    abbrev cut_seats : List ℕ
    cut_seats = enters.cuts.are.seats

    abbrev line_entries : List Entry
    line_entries = e ∷ map Cut cut_seats

    abbrev cut_places : List ℕ
    cut_places = places (suc place) (map Cut cut_seats)

    after_is : after ≡ q.front ++ line_entries
    after_is = enters.cuts.are.there ∙ append_assoc q.front (e ∷ []) (map Cut cut_seats)

    abbrev behind : PassState Entry World
    behind = record q { front = after; own = q.own ++ place ∷ cut_places }

    abbrev more : List ℕ
    more = is.more ++ place ∷ cut_places

    abbrev x : Extends q behind
    x = record { es = line_entries; front = after_is; own = refl; number = refl }

    grown : IsPrefix q.front after
    grown = (line_entries, sym after_is)

    spoke_got : Got (IsReaders w hold) p behind more
    spoke_got = extended (IsReaders w hold) p q behind is.more is.got x ((refl, line_short, enters.read), cuts_lawful w hold lined cut_seats enters.cuts.are.over)

    spoke_lines : lines_at after more ≡ lines_at q.front is.more ++ line ∷ []
    spoke_lines = lines_now (IsReaders w hold) p q behind is.more is.got x ∙ ap (λ l. lines_at q.front is.more ++ line ∷ l) (lines_in_cuts cut_seats)

    spoke_came : WhereTold t v (CameBut hand (lines_at after more))
    spoke_came =
        let same : (lines_at q.front is.more ++ line ∷ []) ++ hand ≡ lines_at q.front is.more ++ line ∷ hand = append_assoc (lines_at q.front is.more) (line ∷ []) hand in
        subst (λ ls. WhereTold t v (CameBut hand ls)) (sym spoke_lines) (subst (λ ls. WhereTold t v (Came ls)) (sym same) is.came)

    spoke_kept : is_read w lined hold ≡ true → All (StandsAt (IsReadBehind w hold) after) more
    spoke_kept read = also_stand (IsReaders w hold) p q behind is.more is.got x (IsReadBehind w hold) is.kept (read, cuts_free (IsReadBehind w hold) (λ h s. tt) lined cut_seats)

    spoke_unspent : is_spent (seat_at (replay w lined) hold.seat) ≡ false → All (StandsAt (IsUnspent w hold) after) more
    spoke_unspent some = also_stand (IsReaders w hold) p q behind is.more is.got x (IsUnspent w hold) is.unspent (some, cuts_free (IsUnspent w hold) (λ h s. tt) lined cut_seats)

    first_take : take (suc place) after ≡ lined
    first_take = ap (take (suc place)) enters.cuts.are.there ∙ ap (λ n. take n (lined ++ map Cut cut_seats)) (sym (one_longer q.front e)) ∙ take_here lined (map Cut cut_seats)

    own_place : Contains more place
    own_place = Contains-append_right is.more (place ∷ cut_places) place (Contains-append_left (place ∷ []) cut_places place (Contains-push [] place))

    -- right behind the Line
    line_cuts : AreCutBehind w after more place
    line_cuts = record {
      seats = cut_seats;
      over = subst (λ l. AreOver w l cut_seats) (sym first_take) enters.cuts.are.over;
      none = ap (λ l. over_of w (l ++ map Cut cut_seats)) first_take ∙ ap (over_of w) (sym enters.cuts.are.there) ∙ enters.cuts.none;
      there = subst (λ l. IsPrefix (l ++ map Cut cut_seats) after) (sym first_take) (subst (λ l. IsPrefix l after) enters.cuts.are.there (prefix_self after));
      mine = λ i d lt. let k : ℕ = get_or cut_places i d in Contains-append_right is.more (place ∷ cut_places) k (Contains-append_right (place ∷ []) cut_places k (All-contains_itself cut_places i d lt));
    }

    no_line_behind : All (StandsAt IsNoLine after) cut_places
    no_line_behind =
        subst (λ l. All (StandsAt IsNoLine l) cut_places) (sym enters.cuts.are.there)
        (subst (λ n. All (StandsAt IsNoLine (lined ++ map Cut cut_seats)) (places n (map Cut cut_seats))) (one_longer q.front e) (stand_behind IsNoLine lined (map Cut cut_seats) (cuts_free IsNoLine cut_is_no_line lined cut_seats)))

    spoke_cuts : CutsBehindLines w after more
    spoke_cuts = All-append (CutsBehindLine w after more) is.more (place ∷ cut_places)
        (cuts_longer w (IsReaders w hold) q.front after is.more more grown is.got.each (λ k has. Contains-append_left is.more (place ∷ cut_places) k has) is.cuts)
        (All-cons (CutsBehindLine w after more) place cut_places (λ seat bytes there. line_cuts) (no_lines w after more cut_places no_line_behind))

    -- behind it the next may be
    line_goes : said ≡ saying.Goes → IsReading w hold p behind hand t v
    line_goes so =
        let says = subst (Says w hold lined) so enters.says in
        record { more = more; got = spoke_got; came = spoke_came; short = hand_short; kept = spoke_kept says.0; unspent = spoke_unspent says.1; cuts = spoke_cuts }

    -- it was the session's last
    line_bye : said ≡ saying.Bye → is_parted w after hold ≡ false → HasHeard w hold p behind Bye false t v
    line_bye so unparted =
        let says = subst (Says w hold lined) so enters.says in
        let closing = all_cut_unread w lined after hold opening enters.cuts says.0 in
        let bye : IsByeAt after hold.seat place = record {
          bytes = line;
          there = ap (λ l. slice_get l place) after_is ∙ get_here q.front e (map Cut cut_seats);
          bye = closed_by_bye w q.front hold line enters.read says.0 says.1;
        } in
        record {
          more = more;
          got = spoke_got;
          first = are_first hand (lines_at after more) t v spoke_came;
          past = past_of hand (lines_at after more) t v hand_short spoke_came;
          hand = hand;
          behind = λ some. (place, own_place, inl bye);
          all = λ g c n. spoke_came;
          closed = closing;
          kept = λ g. cc;
          cause = (place, own_place, bye);
          uncut = λ c n. not_cut (is_cut w after hold) (is_read w after hold) unparted closing;
          cuts = spoke_cuts;
          unspent = λ other c. spoke_unspent says.1;
        }

    line_spent : said ≡ saying.Spent → is_parted w after hold ≡ false → HasHeard w hold p behind Spent false t v
    line_spent so unparted =
        let says = subst (Says w hold lined) so enters.says in
        let closing = all_cut_unread w lined after hold opening enters.cuts (spent_closes w q.front hold line enters.read says) in
        let spent : IsSpentAt w after hold.seat place = ap (λ l. is_spent (seat_at (replay w l) hold.seat)) first_take ∙ says in
        record {
          more = more;
          got = spoke_got;
          first = are_first hand (lines_at after more) t v spoke_came;
          past = past_of hand (lines_at after more) t v hand_short spoke_came;
          hand = hand;
          behind = λ some. (place, own_place, inr spent);
          all = λ g c n. spoke_came;
          closed = closing;
          kept = λ g. cc;
          cause = (place, Contains-append_right (hold.place ∷ []) more place own_place, spent);
          uncut = λ c n. not_cut (is_cut w after hold) (is_read w after hold) unparted closing;
          cuts = spoke_cuts;
          unspent = λ other c. absurd (other refl);
        }

    -- or the session was cut behind it
    line_cut : is_cut w after hold ≡ true → is_read w after hold ≡ false → HasHeard w hold p behind reads.Cut false t v
    line_cut cut closing = record {
      more = more;
      got = spoke_got;
      first = are_first hand (lines_at after more) t v spoke_came;
      past = past_of hand (lines_at after more) t v hand_short spoke_came;
      hand = [];
      behind = λ some. absurd (some refl);
      all = λ g c n. absurd (c refl);
      closed = closing;
      kept = λ g. cc;
      cause = cut;
      uncut = λ c n. absurd (c refl);
      cuts = spoke_cuts;
      unspent = λ other c. absurd (c refl);
    }

  -- the session was cut, and no line is entered any more
  cut_now : (v : Option (List ℕ)) (q : PassState Entry World) (hand : List (List ℕ)) → IsReading w hold p q hand t v → is_cut w q.front hold ≡ true → is_read w q.front hold ≡ false → HasHeard w hold p q reads.Cut false t v
  cut_now v q hand is cut closing = record {
    more = is.more;
    got = is.got;
    first = are_first hand (lines_at q.front is.more) t v is.came;
    past = past_of hand (lines_at q.front is.more) t v is.short is.came;
    hand = [];
    behind = λ some. absurd (some refl);
    all = λ g c n. absurd (c refl);
    closed = closing;
    kept = λ g. cc;
    cause = cut;
    uncut = λ c n. absurd (c refl);
    cuts = is.cuts;
    unspent = λ other c. absurd (c refl);
  }

  -- ---- the turn of a line

  module _ (q r : PassState Entry World) (line : List ℕ) (said : Said) (u v : Option (List ℕ)) (is : IsReading w hold p q [] t u) (answer : CameFirst (line ∷ []) u v) (short : IsShort line) (turn : SpeaksIn w hold line said q r) where
    abbrev run : SpokenSo w hold turn.turn.found line said r.front
    run = turn.turn.has_run

    -- what became of the line
    abbrev by : Said
    by = run.by

    abbrev parted : Bool
    parted = is_parted w r.front hold

    -- the pass as it found the history
    abbrev f : PassState Entry World
    f = record r { front = turn.turn.found; own = q.own }

    in_hand : IsReading w hold p q (line ∷ []) t v
    in_hand = record { more = is.more; got = is.got; came = came_more (lines_at q.front is.more) (line ∷ []) t u v is.came answer; short = All-cons IsShort line [] short (All-nil IsShort); kept = is.kept; unspent = is.unspent; cuts = is.cuts }

    reading : IsReading w hold p f (line ∷ []) t v
    reading = reads_further q f (line ∷ []) v turn.turn.begins refl turn.number in_hand

    -- the pass behind the turn has what was entered in it
    own_is : (es : List Entry) → r.front ≡ f.front ++ es → f.own ++ places (length f.front) es ≡ r.own
    own_is es there = ap (λ l. f.own ++ places (length f.front) l) (append_cancel_left f.front es turn.entered (sym there ∙ turn.turn.front_is)) ∙ sym turn.turn.own_is

    behind_is : (last : Said) (enters : Enters w hold f.front line last r.front) → f.own ++ length f.front ∷ places (suc (length f.front)) (map Cut enters.cuts.are.seats) ≡ r.own
    behind_is last enters = own_is (Line hold.seat line ∷ map Cut enters.cuts.are.seats) (enters_there w hold f.front line last r.front enters)

    heard_end : (end : ReadEnd) (last : Said) → (enters : Enters w hold f.front line last r.front)
        → HasHeard w hold p (record f { front = r.front; own = f.own ++ length f.front ∷ places (suc (length f.front)) (map Cut enters.cuts.are.seats) }) end false t v → HasHeard w hold p r end false t v
    heard_end end last enters heard = subst (λ o. HasHeard w hold p (record r { own = o }) end false t v) (behind_is last enters) heard

    -- where nothing was entered it is as it was
    reading_end : r.front ≡ f.front → IsReading w hold p r (line ∷ []) t v
    reading_end same =
        subst (λ o. IsReading w hold p (record r { own = o }) (line ∷ []) t v) (sym (append-nil q.own) ∙ own_is [] (same ∙ sym (append-nil f.front)))
        (subst (λ l. IsReading w hold p (record r { front = l; own = q.own }) (line ∷ []) t v) (sym same) reading)

    spoke_as : (other : Said) → by ≡ other → Speaks w hold f.front line other r.front
    spoke_as other so = subst (λ s. Speaks w hold f.front line s r.front) so run.spoken

    -- no cut was told
    told : (said ≡ saying.Cut → ⊥) → Told parted by said
    told other = told_by parted by said run.said_is other

    pub goes : said ≡ saying.Goes → IsReading w hold p r [] t v
    goes so =
        let enters : Enters w hold f.front line saying.Goes r.front = spoke_as saying.Goes (sym (told (λ e. cc)).same ∙ so) in
        subst (λ o. IsReading w hold p (record r { own = o }) [] t v) (behind_is saying.Goes enters) (line_goes v f line [] saying.Goes r.front reading enters refl)

    -- the line was the session's last
    pub ends_bye : said ≡ saying.Bye → HasHeard w hold p r Bye false t v
    ends_bye so =
        let is_told : Told parted by said = told (λ e. cc) in
        let is_bye : by ≡ saying.Bye = sym is_told.same ∙ so in
        let enters : Enters w hold f.front line saying.Bye r.front = spoke_as saying.Bye is_bye in
        heard_end Bye saying.Bye enters (line_bye v f line [] saying.Bye r.front reading enters refl (is_told.unparted (ap is_memory is_bye)))

    pub ends_spent : said ≡ saying.Spent → HasHeard w hold p r Spent false t v
    ends_spent so =
        let is_told : Told parted by said = told (λ e. cc) in
        let is_last : by ≡ saying.Spent = sym is_told.same ∙ so in
        let enters : Enters w hold f.front line saying.Spent r.front = spoke_as saying.Spent is_last in
        heard_end Spent saying.Spent enters (line_spent v f line [] saying.Spent r.front reading enters refl (is_told.unparted (ap is_memory is_last)))

    -- it found that the passes no longer held the seat as Joined
    pub ends_gone : said ≡ saying.Gone → (stop : Stop) (rest : Option (List ℕ)) → CamePast [] v rest → HasHeard w hold p r (Stopped stop) true t rest
    ends_gone so stop left past =
        let is_told : Told parted by said = told (λ e. cc) in
        let is_gone : by ≡ saying.Gone = sym is_told.same ∙ so in
        let found : (is_read w f.front hold ≡ false) × (r.front ≡ f.front) = spoke_as saying.Gone is_gone in
        let here : IsReading w hold p r (line ∷ []) t v = reading_end found.1 in
        let closing : is_read w r.front hold ≡ false = ap (λ l. is_read w l hold) found.1 ∙ found.0 in
        record {
          more = here.more;
          got = here.got;
          first = are_first (line ∷ []) (lines_at r.front here.more) t v here.came;
          past = past_more (lines_at r.front here.more) t v left (past_of (line ∷ []) (lines_at r.front here.more) t v here.short here.came) past;
          hand = [];
          behind = λ other. absurd (other refl);
          all = λ g c n. cc;
          closed = closing;
          kept = λ _. here.kept;
          cause = tt;
          uncut = λ c n. not_cut (is_cut w r.front hold) (is_read w r.front hold) (is_told.unparted (ap is_memory is_gone)) closing;
          cuts = here.cuts;
          unspent = λ other c. here.unspent;
        }

    -- the session was cut
    pub ends_cut : said ≡ saying.Cut → HasHeard w hold p r reads.Cut false t v
    ends_cut so = by_said by refl
      where
        told_cut : (by ≡ saying.Cut → ⊥) → (parted ≡ true) × (is_memory by ≡ false)
        told_cut other = cut_told parted by said run.said_is so other

        cut : (by ≡ saying.Cut → ⊥) → (is_cut w r.front hold ≡ true) × (is_read w r.front hold ≡ false)
        cut other = parted_cut (is_cut w r.front hold) (is_read w r.front hold) (told_cut other).0

        by_line : (last : Said) → Enters w hold f.front line last r.front → (is_cut w r.front hold ≡ true) × (is_read w r.front hold ≡ false) → HasHeard w hold p r reads.Cut false t v
        by_line last enters is = heard_end reads.Cut last enters (line_cut v f line [] last r.front reading enters is.0 is.1)

        by_gone : (is_read w f.front hold ≡ false) × (r.front ≡ f.front) → (is_cut w r.front hold ≡ true) × (is_read w r.front hold ≡ false) → HasHeard w hold p r reads.Cut false t v
        by_gone found is = cut_now v r (line ∷ []) (reading_end found.1) is.0 is.1

        by_said : (last : Said) → by ≡ last → HasHeard w hold p r reads.Cut false t v
        by_said saying.Goes is = by_line saying.Goes (spoke_as saying.Goes is) (cut (λ c. cc))
        by_said saying.Bye is = by_line saying.Bye (spoke_as saying.Bye is) (cut (λ c. cc))
        by_said saying.Spent is = by_line saying.Spent (spoke_as saying.Spent is) (cut (λ c. cc))
        by_said saying.Cut is = absurd (spoke_as saying.Cut is)
        by_said saying.Gone is = by_gone (spoke_as saying.Gone is) (cut (λ c. cc))
        by_said saying.Memory is = let z : true ≡ false = sym (ap is_memory is) ∙ (told_cut (λ c. cc)).1 in absurd cc

    -- want of memory: the seat is left
    pub ends_unsaid : said ≡ saying.Memory → (cut : Bool) (s : PassState Entry World) → Leaves w hold cut r s → HasHeard w hold p s (Stopped Memory) false t v
    ends_unsaid so cut s left =
        let same : r.front ≡ f.front = spoke_as saying.Memory (sym (told (λ e. cc)).same ∙ so) in
        leaves_unsaid r s (line ∷ []) Memory cut v v (reading_end same) (λ other. absurd (other refl)) (past_none v) left

-- ---- no further line is read

pub ends_input : (w : World) (hold : Hold) (p q r : PassState Entry World) (stop : Stop) (cut : Bool) (t u v : Option (List ℕ)) → IsOpening w → IsReading w hold p q [] t u → StopsBefore stop u v → CamePast [] u v → Leaves w hold cut q r → HasHeard w hold p r (stopped cut stop) false t v
ends_input w hold p q r stop cut t u v opening is same past left = leaves_reading w hold p t opening q r [] stop cut u v is (λ other. (refl, same other)) past left

-- ---- what a line appends

-- it stands behind the history that the line found
pub speaks_grew : (w : World) (hold : Hold) (before : List Entry) (line : List ℕ) (said : Said) (after : List Entry) → Speaks w hold before line said after → after ≡ before ++ drop (length before) after
speaks_grew w hold before line said after speaks = by_said said speaks
  where
    drop_here : (f es : List Entry) → drop (length f) (f ++ es) ≡ es
    drop_here [] es = refl
    drop_here (e ∷ f) es = drop_here f es

    grown : (es : List Entry) → after ≡ before ++ es → after ≡ before ++ drop (length before) after
    grown es is = is ∙ ap (λ l. before ++ l) (sym (drop_here before es) ∙ ap (drop (length before)) (sym is))

    by_line : (last : Said) → Enters w hold before line last after → after ≡ before ++ drop (length before) after
    by_line last enters = grown (Line hold.seat line ∷ map Cut enters.cuts.are.seats) (enters_there w hold before line last after enters)

    by_said : (last : Said) → Speaks w hold before line last after → after ≡ before ++ drop (length before) after
    by_said saying.Goes enters = by_line saying.Goes enters
    by_said saying.Bye enters = by_line saying.Bye enters
    by_said saying.Spent enters = by_line saying.Spent enters
    by_said saying.Cut none = absurd none
    by_said saying.Gone found = grown [] (found.1 ∙ sym (append-nil before))
    by_said saying.Memory same = grown [] (same ∙ sym (append-nil before))
