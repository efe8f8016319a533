-- How a run ends, from what its parts did.
use Rattle.std.proofs.Common.{◌≡◌, ℕ, ◌≤◌, ◌<◌, true, false, List, [], ◌∷◌, ◌++◌, length, Some, None, refl, sym, ◌∙◌, ap, subst, arith, ◌⊎◌, inl, inr}
use Rattle.std.specs.Prelude.{Option, IfSome, Bool, Result, Ok, Err, OnOk, OnErr}
use Rattle.std.specs.List.{AllByRecursion}
use Rattle.std.specs.Io.KnownBytes.{append_known}
use Rattle.line_io.specs.Counts.{CountRose}
use Rattle.line_io.specs.Told.{WhereTold}
use Rattle.line_io.specs.declared.faults.Failed.{Failed}
use Rattle.line_io.specs.declared.desks.DeskFault.{DeskFault}
use Rattle.line_io.specs.declared.desks.DeskFault.TheVariants as desk
use Rattle.campaign_law.specs.declared.entry.Entry.{Entry}
use Rattle.campaign_law.specs.Seat.{Seat, IsFreshSeat}
use Rattle.campaign_law.specs.World.{World, replay, sent}
use Rattle.campaign_law.specs.Worlds.{opened_of}
use Rattle.campaign_writing.specs.Canonical.{canonical}
use Rattle.campaign_law.specs.Player.{opening, trace, machine}
use Rattle.campaign_law.specs.Law.{Course, IsOpening, IsSentAsMachine, world_of}
use Rattle.world.specs.World.{World as Opened}
use Rattle.campaign_json.specs.declared.faults.BadCampaign.{BadCampaign as Breach}
use Rattle.campaign_file.specs.Campaign.{campaign_of}
use Rattle.campaign_core.specs.Opening.{world_of_text}
use Rattle.command_words.specs.Words.{Asked, Play, Check, Drill, Serve, Verify, Compare}
use Rattle.script_play.specs.declared.run.Played.{Played}
use Rattle.script_play.specs.declared.run.Played.TheVariants as played
use Rattle.script_play.specs.Script.{Script, Ending, done, bad_line, too_large, script_of, NothingWaits}
use Rattle.script_play.specs.Played.{IsPrefix, GoesOn, entries_since, HasEntered, HasRead, HasWritten, IsPartSent, AreWrittenOf, Writes}
use Rattle.script_play.specs.Sending.{WroteFront}
use Rattle.script_play.specs.Tagged.{lines_behind}
use Rattle.script_play.proofs.Fronts.{prefix_all, all_part}
use Rattle.script_play.proofs.Reading.{told_weaker}
use Rattle.script_play.proofs.Behind.{sent_behind}
use Rattle.tabletop.specs.declared.endings.Ended.{Ended}
use Rattle.tabletop.specs.declared.endings.Ended.TheVariants.{Done, Usage, BadCampaign, ReadFault, WriteFault, Memory, BadLine, TooLarge, DoorFault, Differs}
use Rattle.tabletop.specs.Endings.{status_of, last_line, HasOwnLine}
use Rattle.tabletop.specs.Ends.{PlaysOn, ScriptEnds, EndsByLine, end_line, PlayEnds, FollowsPlay, CheckEnds, NotFetched, FileEnds, PairEnds, JobEnds, HasEnded, IsToldAs, ended_by, unfetched, campaign_limit}
use Rattle.tabletop.specs.Printing.{PrintsLine}
use Rattle.tabletop.specs.Drilled.{DrillEnds}
use Rattle.tabletop.specs.Answered.{VerifyEnds, CompareEnds}
use Rattle.tabletop.proofs.AnswerLemmas.{some_same, breach_world, verify_less, verify_used, compare_less, compare_used}

-- ---- a campaign that opens

fresh_waits : (seats : List Seat) → AllByRecursion IsFreshSeat seats → AllByRecursion (λ s. s.taken ≡ s.queued) seats
fresh_waits [] f = tt
fresh_waits (s ∷ seats) f = (f.0.taken ∙ sym f.0.queued, fresh_waits seats f.1)

pub opening_world_of : (c : Course) → c.history ≡ [] → world_of c ≡ c.origin
opening_world_of c h = ap (replay c.origin) h

pub nothing_waits : (c : Course) → IsOpening c.origin → c.history ≡ [] → NothingWaits (world_of c)
nothing_waits c opens h = subst NothingWaits (sym (opening_world_of c h)) (fresh_waits c.origin.seats opens.seats)

-- ---- a script that was played

unfoldable pub plays_on : (answer : Played) (c new : Course) (world : Option World) (script left out after : Option (List ℕ)) → world ≡ Some c.origin → IsOpening c.origin → c.history ≡ [] → GoesOn c new → WhereTold script left (λ text rest. HasEntered answer (script_of (world_of c) text) (entries_since c new)) → WhereTold script left (λ text rest. HasRead answer (world_of c) (entries_since c new) text rest) → Writes answer c new out after → ((p : ℕ) → IsSentAsMachine new.origin new.history p) → PlaysOn answer world script left out after
plays_on answer c new world script left out after is opens none g entered read writes sent_as =
    let w : world_of c ≡ c.origin = opening_world_of c none in
    let es : List Entry = entries_since c new in
    let all : new.history ≡ es = g.history ∙ ap (λ h. h ++ es) none in
    let written : HasWritten answer c.origin es out after = record { text = writes.bytes.text; written = writes.bytes.written; part = subst (λ (x : World). IsPartSent answer x es writes.bytes.text) w writes.bytes.part } in
    record {
      origin = c.origin;
      is = is;
      plays = record {
        opens = opens;
        entries = es;
        entered = subst (λ (x : World). WhereTold script left (λ text rest. HasEntered answer (script_of x text) es)) w entered;
        read = subst (λ (x : World). WhereTold script left (λ text rest. HasRead answer x es text rest)) w read;
        written = written;
        players = λ p player small.
            subst (λ (h : List Entry). AreWrittenOf answer (sent c.origin h p ++ lines_behind p writes.bytes.text) (machine (opening c.origin p) (trace c.origin es p))) none
            (subst (AreWrittenOf answer (sent c.origin c.history p ++ lines_behind p writes.bytes.text)) (λ i. machine (opening (g.origin i) p) (trace (g.origin i) (all i) p)) (writes.players p player small));
        sent = λ p player small.
            sent_behind c.origin es p small
            ∙ (λ i. sent (sym g.origin i) (sym all i) p)
            ∙ sent_as p player
            ∙ (λ i. machine (opening (g.origin i) p) (trace (g.origin i) (all i) p));
      };
    }

-- the line behind it, by the campaign as it is then
line_behind : (answer : Played) (c new : Course) (world : Option World) (script left out after : Option (List ℕ)) (is : world ≡ Some c.origin) (opens : IsOpening c.origin) (none : c.history ≡ []) (g : GoesOn c new) (entered : WhereTold script left (λ text rest. HasEntered answer (script_of (world_of c) text) (entries_since c new))) (read : WhereTold script left (λ text rest. HasRead answer (world_of c) (entries_since c new) text rest)) (writes : Writes answer c new out after) (sent_as : (p : ℕ) → IsSentAsMachine new.origin new.history p)
    → canonical (opened_of (world_of new)) ++ 10 ∷ [] ≡ (let p : PlaysOn answer world script left out after = plays_on answer c new world script left out after is opens none g entered read writes sent_as in end_line p.origin p.plays.entries)
unfolding plays_on
line_behind answer c new world script left out after is opens none g entered read writes sent_as =
    let all : new.history ≡ entries_since c new = g.history ∙ ap (λ h. h ++ entries_since c new) none in
    (λ i. canonical (opened_of (replay (g.origin i) (all i))) ++ 10 ∷ [])

script_ends : (S : Type 0) (answer : Played) (text : List ℕ) (script left out after : Option (List ℕ)) → (answer ≡ played.ReadFault → S) → PlaysOn answer (world_of_text text) script left out after → ScriptEnds S (ended_by answer) text script left out after
script_ends S played.Done text script left out after fault p = p
script_ends S played.ReadFault text script left out after fault p = (fault refl, p)
script_ends S played.WriteFault text script left out after fault p = p
script_ends S (played.BadLine number) text script left out after fault p = p
script_ends S played.TooLarge text script left out after fault p = p
script_ends S played.Memory text script left out after fault p = inr p

by_line : (S : Type 0) (ended : Ended) (text : List ℕ) (script left out after : Option (List ℕ)) → EndsByLine ended (world_of_text text) script left out after → PlayEnds S true ended text script left out after
by_line S Done text script left out after e = e
by_line S Usage text script left out after e = inr e
by_line S (BadCampaign breach) text script left out after e = inr e
by_line S ReadFault text script left out after e = inr e
by_line S WriteFault text script left out after e = inr e
by_line S Memory text script left out after e = inr e
by_line S (BadLine number) text script left out after e = inr e
by_line S TooLarge text script left out after e = inr e
by_line S DoorFault text script left out after e = inr e
by_line S Differs text script left out after e = inr e

-- a stop ends the run whether the campaign was to be written or not
stopped : (S : Type 0) (end : Bool) (answer : Played) (text : List ℕ) (script left out after : Option (List ℕ)) → (answer ≡ played.Done → ⊥) → ScriptEnds S (ended_by answer) text script left out after → PlayEnds S end (ended_by answer) text script left out after
stopped S false answer text script left out after stops e = e
stopped S true played.Done text script left out after stops e = absurd (stops refl)
stopped S true played.ReadFault text script left out after stops e = inl e
stopped S true played.WriteFault text script left out after stops e = inl e
stopped S true (played.BadLine number) text script left out after stops e = inl e
stopped S true played.TooLarge text script left out after stops e = inl e
stopped S true played.Memory text script left out after stops e = inl e

-- and so does a text that gives no campaign
pub no_campaign : (S : Type 0) (end : Bool) (breach : Breach) (text : List ℕ) (script left out : Option (List ℕ)) → campaign_of text ≡ Err breach → PlayEnds S end (BadCampaign breach) text script left out out
no_campaign S false breach text script left out is = (is, refl)
no_campaign S true breach text script left out is = inl (is, refl)

pub no_memory : (S : Type 0) (end : Bool) (text : List ℕ) (script left out : Option (List ℕ)) → PlayEnds S end Memory text script left out out
no_memory S false text script left out = inl refl
no_memory S true text script left out = inl (inl refl)

module _ (S : Type 0) (end : Bool) (text : List ℕ) (script left out middle after : Option (List ℕ)) where
  same_out : (ended : Ended) → after ≡ middle → PlayEnds S end ended text script left out middle → PlayEnds S end ended text script left out after
  same_out ended same e = subst (λ x. PlayEnds S end ended text script left out x) (sym same) e

  stop_ends : (answer : Played) (ended : Ended) → (answer ≡ played.ReadFault → S) → (answer ≡ played.Done → ⊥) → PlaysOn answer (world_of_text text) script left out middle → (ended ≡ ended_by answer) × (after ≡ middle) → PlayEnds S end ended text script left out after
  stop_ends answer ended fault stops p h =
      subst (λ e. PlayEnds S end e text script left out after) (sym h.0)
      (same_out (ended_by answer) h.1 (stopped S end answer text script left out middle stops (script_ends S answer text script left out middle fault p)))

-- a script was played, and what follows it was done
pub play_ends : (S : Type 0) (end : Bool) (answer : Played) (ended : Ended) (text line : List ℕ) (script left out middle after : Option (List ℕ)) → (answer ≡ played.ReadFault → S) → (p : PlaysOn answer (world_of_text text) script left out middle) → line ≡ end_line p.origin p.plays.entries → FollowsPlay answer end ended line middle after → PlayEnds S end ended text script left out after
play_ends S true played.Done ended text line script left out middle after fault p is h =
    by_line S ended text script left out after (record { before_end = middle; plays_on = p; printed = subst (λ l. PrintsLine ended l middle after) is h })
play_ends S false played.Done ended text line script left out middle after fault p is h = subst (λ e. PlayEnds S false e text script left out after) (sym h.0) (subst (λ x. PlaysOn played.Done (world_of_text text) script left out x) (sym h.1) p)
play_ends S end played.ReadFault ended text line script left out middle after fault p is h = stop_ends S end text script left out middle after played.ReadFault ended fault (λ e. cc) p h
play_ends S end played.WriteFault ended text line script left out middle after fault p is h = stop_ends S end text script left out middle after played.WriteFault ended fault (λ e. cc) p h
play_ends S end (played.BadLine number) ended text line script left out middle after fault p is h = stop_ends S end text script left out middle after (played.BadLine number) ended fault (λ e. cc) p h
play_ends S end played.TooLarge ended text line script left out middle after fault p is h = stop_ends S end text script left out middle after played.TooLarge ended fault (λ e. cc) p h
play_ends S end played.Memory ended text line script left out middle after fault p is h = stop_ends S end text script left out middle after played.Memory ended fault (λ e. cc) p h

-- the campaign of the text was played, and what follows was done
pub campaign_ends : (S : Type 0) (end : Bool) (answer : Played) (ended : Ended) (text line : List ℕ) (c new : Course) (script left out middle after : Option (List ℕ)) → (answer ≡ played.ReadFault → S) → (is : world_of_text text ≡ Some c.origin) (opens : IsOpening c.origin) (none : c.history ≡ []) (g : GoesOn c new) (entered : WhereTold script left (λ text rest. HasEntered answer (script_of (world_of c) text) (entries_since c new))) (read : WhereTold script left (λ text rest. HasRead answer (world_of c) (entries_since c new) text rest)) (writes : Writes answer c new out middle) (sent_as : (p : ℕ) → IsSentAsMachine new.origin new.history p)
    → line ≡ canonical (opened_of (world_of new)) ++ 10 ∷ [] → FollowsPlay answer end ended line middle after → PlayEnds S end ended text script left out after
campaign_ends S end answer ended text line c new script left out middle after fault is opens none g entered read writes sent_as told follows =
    play_ends S end answer ended text line script left out middle after fault (plays_on answer c new (world_of_text text) script left out middle is opens none g entered read writes sent_as)
    (told ∙ line_behind answer c new (world_of_text text) script left out middle is opens none g entered read writes sent_as) follows

-- ---- a file that wasn't fetched

pub unfetched_ends : (D : Type 0) (Ends : List ℕ → Type 0) (fault : DeskFault) (campaign out after : Option (List ℕ)) → (fault ≡ desk.Failed → D) → (fault ≡ desk.TooLarge → IfSome campaign (λ told. campaign_limit < length told)) → after ≡ out
    → FileEnds D Ends (unfetched fault) campaign out after
unfetched_ends D Ends desk.Failed campaign out after failed large same = inl (failed refl, same)
unfetched_ends D Ends desk.TooLarge campaign out after failed large same = inl (large refl, same)
unfetched_ends D Ends desk.Memory campaign out after failed large same = inl (tt, same)

pub unfetched_fault : (fault : DeskFault) → unfetched fault ≡ ReadFault → fault ≡ desk.Failed
unfetched_fault desk.Failed e = refl
unfetched_fault desk.TooLarge e = cc
unfetched_fault desk.Memory e = cc

pub unfetched_wrote : (fault : DeskFault) → unfetched fault ≡ WriteFault → ⊥
unfetched_wrote desk.Failed e = cc
unfetched_wrote desk.TooLarge e = cc
unfetched_wrote desk.Memory e = cc

-- ---- want of memory for a line of its own

prefix_of_bad : (script : Script) (es : List Entry) (number : ℕ) → script ≡ record { entries = es; ending = bad_line number } → IsPrefix es script.entries
prefix_of_bad script es number h = subst (λ xs. IsPrefix es xs) (sym (ap (λ (s : Script). s.entries) h)) (prefix_all es)

prefix_same : (lines printed : List (List ℕ)) → lines ≡ printed → IsPrefix lines printed
prefix_same lines printed h = subst (IsPrefix lines) h (prefix_all lines)

plays_less : (number : ℕ) (world : Option World) (script left out after : Option (List ℕ)) → PlaysOn (played.BadLine number) world script left out after → PlaysOn played.Memory world script left out after
plays_less number world script left out after p =
    let es : List Entry = p.plays.entries in
    record {
      origin = p.origin;
      is = p.is;
      plays = record {
        opens = p.plays.opens;
        entries = es;
        entered = told_weaker (λ text rest. HasEntered (played.BadLine number) (script_of p.origin text) es) (λ text rest. HasEntered played.Memory (script_of p.origin text) es) script left p.plays.entered (λ text rest h. prefix_of_bad (script_of p.origin text) es number h);
        read = told_weaker (λ text rest. HasEntered (played.BadLine number) (script_of p.origin text) es) (λ text rest. HasRead played.Memory p.origin es text rest) script left p.plays.entered (λ text rest h. tt);
        written = record { text = p.plays.written.text; written = p.plays.written.written; part = all_part played.Memory p.origin es p.plays.written.text p.plays.written.part };
        players = λ seat player small. prefix_same (lines_behind seat p.plays.written.text) (machine (opening p.origin seat) (trace p.origin es seat)) (p.plays.players seat player small);
        sent = p.plays.sent;
      };
    }

script_less : (S : Type 0) (ended : Ended) (text : List ℕ) (script left out after : Option (List ℕ)) → HasOwnLine ended → ScriptEnds S ended text script left out after → ScriptEnds S Memory text script left out after
script_less S (BadCampaign breach) text script left out after own p = inl p.1
script_less S (BadLine number) text script left out after own p = inr (plays_less number (world_of_text text) script left out after p)
script_less S Done text script left out after own p = absurd own
script_less S Usage text script left out after own p = absurd own
script_less S ReadFault text script left out after own p = absurd own
script_less S WriteFault text script left out after own p = absurd own
script_less S Memory text script left out after own p = absurd own
script_less S TooLarge text script left out after own p = absurd own
script_less S DoorFault text script left out after own p = absurd own
script_less S Differs text script left out after own p = absurd own

play_less : (S : Type 0) (end : Bool) (ended : Ended) (text : List ℕ) (script left out after : Option (List ℕ)) → HasOwnLine ended → PlayEnds S end ended text script left out after → PlayEnds S end Memory text script left out after
play_less S false ended text script left out after own p = script_less S ended text script left out after own p
play_less S true (BadCampaign breach) text script left out after own (inl p) = inl (script_less S (BadCampaign breach) text script left out after own p)
play_less S true (BadCampaign breach) text script left out after own (inr p) = absurd p.printed
play_less S true (BadLine number) text script left out after own (inl p) = inl (script_less S (BadLine number) text script left out after own p)
play_less S true (BadLine number) text script left out after own (inr p) = absurd p.printed
play_less S true Done text script left out after own p = absurd own
play_less S true Usage text script left out after own p = absurd own
play_less S true ReadFault text script left out after own p = absurd own
play_less S true WriteFault text script left out after own p = absurd own
play_less S true Memory text script left out after own p = absurd own
play_less S true TooLarge text script left out after own p = absurd own
play_less S true DoorFault text script left out after own p = absurd own
play_less S true Differs text script left out after own p = absurd own

check_less : (ended : Ended) (text : List ℕ) (out after : Option (List ℕ)) → HasOwnLine ended → CheckEnds ended text out after → CheckEnds Memory text out after
check_less (BadCampaign breach) text out after own p = p.1
check_less (BadLine number) text out after own p = absurd p.2
check_less Done text out after own p = absurd own
check_less Usage text out after own p = absurd own
check_less ReadFault text out after own p = absurd own
check_less WriteFault text out after own p = absurd own
check_less Memory text out after own p = absurd own
check_less TooLarge text out after own p = absurd own
check_less DoorFault text out after own p = absurd own
check_less Differs text out after own p = absurd own

drill_less : (ended : Ended) (n lines : ℕ) (out after : Option (List ℕ)) → HasOwnLine ended → DrillEnds ended n lines out after → DrillEnds Memory n lines out after
drill_less (BadCampaign breach) n lines out after own h = absurd h
drill_less (BadLine number) n lines out after own h = absurd h
drill_less Done n lines out after own h = absurd own
drill_less Usage n lines out after own h = absurd own
drill_less ReadFault n lines out after own h = absurd own
drill_less WriteFault n lines out after own h = absurd own
drill_less Memory n lines out after own h = absurd own
drill_less TooLarge n lines out after own h = absurd own
drill_less DoorFault n lines out after own h = absurd own
drill_less Differs n lines out after own h = absurd own

file_less : (D : Type 0) (Ends Less : List ℕ → Type 0) (ended : Ended) (campaign out after : Option (List ℕ)) → ((text : List ℕ) → Ends text → Less text) → FileEnds D Ends ended campaign out after → FileEnds D Less Memory campaign out after
file_less D Ends Less ended campaign out after less (inl none) = inl (tt, none.1)
file_less D Ends Less ended campaign out after less (inr f) = inr (record { text = f.text; told = f.told; small = f.small; ends = less f.text f.ends })

pair_less : (D : Type 0) (Ends Less : List ℕ → List ℕ → Type 0) (ended : Ended) (campaign script out after : Option (List ℕ)) → ((text lines : List ℕ) → Ends text lines → Less text lines) → PairEnds D Ends ended campaign script out after → PairEnds D Less Memory campaign script out after
pair_less D Ends Less ended campaign script out after less h =
    file_less D (λ t. FileEnds D (λ l. Ends t l) ended script out after) (λ t. FileEnds D (λ l. Less t l) Memory script out after) ended campaign out after
    (λ t. file_less D (λ l. Ends t l) (λ l. Less t l) ended script out after (less t)) h

told_less : (D S : Type 0) (ended : Ended) (job : Option Asked) (texts : List ℕ → Option (List ℕ)) (script left out after : Option (List ℕ)) → HasOwnLine ended → JobEnds D S ended job texts script left out after → JobEnds D S Memory job texts script left out after
told_less D S ended None texts script left out after own h = (inr refl, h.1)
told_less D S ended (Some (Play file end)) texts script left out after own h =
    file_less D (λ text. PlayEnds S end ended text script left out after) (λ text. PlayEnds S end Memory text script left out after) ended (texts file) out after (λ text. play_less S end ended text script left out after own) h
told_less D S ended (Some (Check file)) texts script left out after own h =
    file_less D (λ text. CheckEnds ended text out after) (λ text. CheckEnds Memory text out after) ended (texts file) out after (λ text. check_less ended text out after own) h
told_less D S ended (Some (Drill number lines)) texts script left out after own h = drill_less ended number lines out after own h
told_less D S ended (Some (Serve file port count end)) texts script left out after own h = absurd h
told_less D S ended (Some (Verify file lines p transcript)) texts script left out after own h =
    pair_less D (λ t l. FileEnds D (λ told. VerifyEnds ended t l p told out after) ended (texts transcript) out after) (λ t l. FileEnds D (λ told. VerifyEnds Memory t l p told out after) Memory (texts transcript) out after) ended (texts file) (texts lines) out after
    (λ t l. file_less D (λ told. VerifyEnds ended t l p told out after) (λ told. VerifyEnds Memory t l p told out after) ended (texts transcript) out after (λ told. verify_less t l p told out after ended own)) h
told_less D S ended (Some (Compare file lines file2 lines2 p)) texts script left out after own h =
    pair_less D (λ t l. PairEnds D (λ t2 l2. CompareEnds ended t l t2 l2 p out after) ended (texts file2) (texts lines2) out after) (λ t l. PairEnds D (λ t2 l2. CompareEnds Memory t l t2 l2 p out after) Memory (texts file2) (texts lines2) out after) ended (texts file) (texts lines) out after
    (λ t l. pair_less D (λ t2 l2. CompareEnds ended t l t2 l2 p out after) (λ t2 l2. CompareEnds Memory t l t2 l2 p out after) ended (texts file2) (texts lines2) out after (λ t2 l2. compare_less t l t2 l2 p out after ended own)) h

pub told_as : (D S : Type 0) (ended told : Ended) (job : Option Asked) (texts : List ℕ → Option (List ℕ)) (script left out after : Option (List ℕ)) → IsToldAs ended told → JobEnds D S ended job texts script left out after → JobEnds D S told job texts script left out after
told_as D S ended told job texts script left out after (inl same) h = subst (λ e. JobEnds D S e job texts script left out after) (sym same) h
told_as D S ended told job texts script left out after (inr less) h = subst (λ e. JobEnds D S e job texts script left out after) (sym less.1) (told_less D S ended job texts script left out after less.0 h)

-- ---- a line that is printed

pub printed : (r : Result (Unit {0}) Failed) {Whole Rose Took Front : Type 0} → (Took → Front) → OnOk r Whole → OnErr r Rose → OnErr r Took → Whole ⊎ (Rose × Front)
printed (Ok value) f whole rose took = inl whole
printed (Err failed) f whole rose took = inr (rose, f took)

pub count_before : (a b c : ℕ) → b ≤ c → CountRose a b → CountRose a c
count_before a b c le rose lt = omega (arith, rose (omega arith))

pub count_after : (a b c : ℕ) → a ≤ b → CountRose b c → CountRose a c
count_after a b c le rose lt = omega (arith, rose lt)

-- ---- statuses

pub two_is_usage : (ended : Ended) → status_of ended ≡ 2 → ended ≡ Usage
two_is_usage Usage s = refl
two_is_usage Done s = absurd (omega (arith, s))
two_is_usage (BadCampaign breach) s = absurd (omega (arith, s))
two_is_usage ReadFault s = absurd (omega (arith, s))
two_is_usage WriteFault s = absurd (omega (arith, s))
two_is_usage Memory s = absurd (omega (arith, s))
two_is_usage (BadLine number) s = absurd (omega (arith, s))
two_is_usage TooLarge s = absurd (omega (arith, s))
two_is_usage DoorFault s = absurd (omega (arith, s))
two_is_usage Differs s = absurd (omega (arith, s))

used_file : (D : Type 0) (Ends : List ℕ → Type 0) (campaign out after : Option (List ℕ)) → ((text : List ℕ) → Ends text → ⊥) → FileEnds D Ends Usage campaign out after → ⊥
used_file D Ends campaign out after never (inl none) = none.0
used_file D Ends campaign out after never (inr f) = never f.text f.ends

used_pair : (D : Type 0) (Ends : List ℕ → List ℕ → Type 0) (campaign script out after : Option (List ℕ)) → ((text lines : List ℕ) → Ends text lines → ⊥) → PairEnds D Ends Usage campaign script out after → ⊥
used_pair D Ends campaign script out after never h = used_file D (λ t. FileEnds D (λ l. Ends t l) Usage script out after) campaign out after (λ t. used_file D (λ l. Ends t l) script out after (never t)) h

used_play : (S : Type 0) (end : Bool) (text : List ℕ) (script left out after : Option (List ℕ)) → PlayEnds S end Usage text script left out after → ⊥
used_play S false text script left out after p = p
used_play S true text script left out after (inl p) = p
used_play S true text script left out after (inr p) = p.printed

-- no job ends as words without one
used_job : (D S : Type 0) (job : Option Asked) (texts : List ℕ → Option (List ℕ)) (script left out after : Option (List ℕ)) → JobEnds D S Usage job texts script left out after → job ≡ None
used_job D S None texts script left out after h = refl
used_job D S (Some (Play file end)) texts script left out after h = absurd (used_file D (λ text. PlayEnds S end Usage text script left out after) (texts file) out after (λ text. used_play S end text script left out after) h)
used_job D S (Some (Check file)) texts script left out after h = absurd (used_file D (λ text. CheckEnds Usage text out after) (texts file) out after (λ text p. p.2) h)
used_job D S (Some (Drill number lines)) texts script left out after h = absurd h
used_job D S (Some (Serve file port count end)) texts script left out after h = absurd h
used_job D S (Some (Verify file lines p transcript)) texts script left out after h =
    absurd (used_pair D (λ t l. FileEnds D (λ told. VerifyEnds Usage t l p told out after) Usage (texts transcript) out after) (texts file) (texts lines) out after (λ t l. used_file D (λ told. VerifyEnds Usage t l p told out after) (texts transcript) out after (λ told. verify_used t l p told out after)) h)
used_job D S (Some (Compare file lines file2 lines2 p)) texts script left out after h =
    absurd (used_pair D (λ t l. PairEnds D (λ t2 l2. CompareEnds Usage t l t2 l2 p out after) Usage (texts file2) (texts lines2) out after) (texts file) (texts lines) out after (λ t l. used_pair D (λ t2 l2. CompareEnds Usage t l t2 l2 p out after) (texts file2) (texts lines2) out after (λ t2 l2. compare_used t l t2 l2 p out after)) h)

pub usage_if : (status : ℕ) (job : Option Asked) (texts : List ℕ → Option (List ℕ)) (script left out after : Option (List ℕ)) (D S OutFailed : Type 0) → HasEnded status job texts script left out after D S OutFailed → status ≡ 2 → job ≡ None
usage_if status job texts script left out after D S OutFailed h s =
    used_job D S job texts script left out h.before_line (subst (λ e. JobEnds D S e job texts script left out h.before_line) (two_is_usage h.ended (sym h.status_is ∙ s)) h.ends)

pub no_job_only : (status : ℕ) (job : Option Asked) (texts : List ℕ → Option (List ℕ)) (script left out after : Option (List ℕ)) (D S OutFailed : Type 0) → HasEnded status job texts script left out after D S OutFailed → job ≡ None → (status ≡ 2) ⊎ (status ≡ 6)
no_job_only status job texts script left out after D S OutFailed h none = by (subst (λ j. JobEnds D S h.ended j texts script left out h.before_line) none h.ends).0
  where
    by : (h.ended ≡ Usage) ⊎ (h.ended ≡ Memory) → (status ≡ 2) ⊎ (status ≡ 6)
    by (inl usage) = inl (h.status_is ∙ ap status_of usage)
    by (inr memory) = inr (h.status_is ∙ ap status_of memory)

pub told_usage : (status : ℕ) (ended told : Ended) → status ≡ status_of told → IsToldAs ended told → ended ≡ Usage → status ≡ 2
told_usage status ended told s (inl same) is = s ∙ ap status_of (same ∙ is)
told_usage status ended told s (inr less) is = absurd (subst HasOwnLine is less.0)

-- ---- the whole run

pub run_ended : (D S : Type 0) (status : ℕ) (ended told : Ended) (job : Option Asked) (texts : List ℕ → Option (List ℕ)) (script left out middle after : Option (List ℕ)) (a b c : ℕ) → status ≡ status_of told → IsToldAs ended told → JobEnds D S ended job texts script left out middle → a ≤ b → (after ≡ append_known middle (last_line told)) ⊎ (CountRose b c × WroteFront middle (last_line told) after) → HasEnded status job texts script left out after D S (CountRose a c)
run_ended D S status ended told job texts script left out middle after a b c s t ends le line = record {
  ended = told;
  status_is = s;
  before_line = middle;
  ends = told_as D S ended told job texts script left out middle t ends;
  line = elim line [ inl whole ↦ inl whole | inr front ↦ inr (count_after a b c le front.0, front.1) ];
}

pub read_fault_of : (status : ℕ) (ended told : Ended) → status ≡ status_of told → IsToldAs ended told → status ≡ 4 → ended ≡ ReadFault
read_fault_of status ended ReadFault s (inl same) h = sym same
read_fault_of status ended ReadFault s (inr less) h = let z : ReadFault ≡ Memory = less.1 in cc
read_fault_of status ended Done s t h = absurd (omega (arith, s, h))
read_fault_of status ended Usage s t h = absurd (omega (arith, s, h))
read_fault_of status ended (BadCampaign breach) s t h = absurd (omega (arith, s, h))
read_fault_of status ended WriteFault s t h = absurd (omega (arith, s, h))
read_fault_of status ended Memory s t h = absurd (omega (arith, s, h))
read_fault_of status ended (BadLine number) s t h = absurd (omega (arith, s, h))
read_fault_of status ended TooLarge s t h = absurd (omega (arith, s, h))
read_fault_of status ended DoorFault s t h = absurd (omega (arith, s, h))
read_fault_of status ended Differs s t h = absurd (omega (arith, s, h))

pub write_fault_of : (status : ℕ) (ended told : Ended) → status ≡ status_of told → IsToldAs ended told → status ≡ 5 → ended ≡ WriteFault
write_fault_of status ended WriteFault s (inl same) h = sym same
write_fault_of status ended WriteFault s (inr less) h = let z : WriteFault ≡ Memory = less.1 in cc
write_fault_of status ended Done s t h = absurd (omega (arith, s, h))
write_fault_of status ended Usage s t h = absurd (omega (arith, s, h))
write_fault_of status ended (BadCampaign breach) s t h = absurd (omega (arith, s, h))
write_fault_of status ended ReadFault s t h = absurd (omega (arith, s, h))
write_fault_of status ended Memory s t h = absurd (omega (arith, s, h))
write_fault_of status ended (BadLine number) s t h = absurd (omega (arith, s, h))
write_fault_of status ended TooLarge s t h = absurd (omega (arith, s, h))
write_fault_of status ended DoorFault s t h = absurd (omega (arith, s, h))
write_fault_of status ended Differs s t h = absurd (omega (arith, s, h))

-- ---- completeness

-- a script that ends as done ends no run otherwise
ends_done : (answer : Played) (ending : Ending) (world : Option World) (origin : World) (text : List ℕ) (left out after : Option (List ℕ)) → world ≡ Some origin → (script_of origin text).ending ≡ done → ((w : World) (es : List Entry) → HasEntered answer (script_of w text) es → (script_of w text).ending ≡ ending) → PlaysOn answer world (Some text) left out after → done ≡ ending
ends_done answer ending world origin text left out after is script says p =
    let same : p.origin ≡ origin = some_same p.origin origin (sym p.is ∙ is) in
    let told : HasEntered answer (script_of p.origin text) p.plays.entries = told_some left p.plays.entered in
    sym script ∙ sym (ap (λ (w : World). (script_of w text).ending) same) ∙ says p.origin p.plays.entries told
  where
    told_some : (left : Option (List ℕ)) → WhereTold (Some text) left (λ text rest. HasEntered answer (script_of p.origin text) p.plays.entries) → HasEntered answer (script_of p.origin text) p.plays.entries
    told_some None h = absurd h
    told_some (Some rest) h = h

abbrev pub DoneOrMemory : ℕ → Type 0
DoneOrMemory status = (status ≡ 0) ⊎ (status ≡ 6)

script_done : (S : Type 0) (ended : Ended) (campaign : List ℕ) (origin : World) (text : List ℕ) (left out after : Option (List ℕ)) → world_of_text campaign ≡ Some origin → (script_of origin text).ending ≡ done → ¬ (status_of ended ≡ 4) → ¬ (status_of ended ≡ 5) → ScriptEnds S ended campaign (Some text) left out after → DoneOrMemory (status_of ended)
script_done S Done campaign origin text left out after is script no_read no_write h = inl refl
script_done S Usage campaign origin text left out after is script no_read no_write h = absurd h
script_done S (BadCampaign breach) campaign origin text left out after is script no_read no_write h = absurd (breach_world campaign breach origin is h.0)
script_done S ReadFault campaign origin text left out after is script no_read no_write h = absurd (no_read refl)
script_done S WriteFault campaign origin text left out after is script no_read no_write h = absurd (no_write refl)
script_done S Memory campaign origin text left out after is script no_read no_write h = inr refl
script_done S (BadLine number) campaign origin text left out after is script no_read no_write h =
    let z : done ≡ bad_line number = ends_done (played.BadLine number) (bad_line number) (world_of_text campaign) origin text left out after is script (λ w es e. ap (λ (s : Script). s.ending) e) h in cc
script_done S TooLarge campaign origin text left out after is script no_read no_write h =
    let z : done ≡ too_large = ends_done played.TooLarge too_large (world_of_text campaign) origin text left out after is script (λ w es e. ap (λ (s : Script). s.ending) e) h in cc
script_done S DoorFault campaign origin text left out after is script no_read no_write h = absurd h
script_done S Differs campaign origin text left out after is script no_read no_write h = absurd h

play_done : (S : Type 0) (end : Bool) (ended : Ended) (campaign : List ℕ) (origin : World) (text : List ℕ) (left out after : Option (List ℕ)) → world_of_text campaign ≡ Some origin → (script_of origin text).ending ≡ done → ¬ (status_of ended ≡ 4) → ¬ (status_of ended ≡ 5) → PlayEnds S end ended campaign (Some text) left out after → DoneOrMemory (status_of ended)
play_done S false ended campaign origin text left out after is script no_read no_write h = script_done S ended campaign origin text left out after is script no_read no_write h
play_done S true Done campaign origin text left out after is script no_read no_write h = inl refl
play_done S true Memory campaign origin text left out after is script no_read no_write h = inr refl
play_done S true ReadFault campaign origin text left out after is script no_read no_write h = absurd (no_read refl)
play_done S true WriteFault campaign origin text left out after is script no_read no_write h = absurd (no_write refl)
play_done S true Usage campaign origin text left out after is script no_read no_write h = absurd (used_play S true campaign (Some text) left out after h)
play_done S true (BadCampaign breach) campaign origin text left out after is script no_read no_write (inl h) = script_done S (BadCampaign breach) campaign origin text left out after is script no_read no_write h
play_done S true (BadCampaign breach) campaign origin text left out after is script no_read no_write (inr h) = absurd h.printed
play_done S true (BadLine number) campaign origin text left out after is script no_read no_write (inl h) = script_done S (BadLine number) campaign origin text left out after is script no_read no_write h
play_done S true (BadLine number) campaign origin text left out after is script no_read no_write (inr h) = absurd h.printed
play_done S true TooLarge campaign origin text left out after is script no_read no_write (inl h) = script_done S TooLarge campaign origin text left out after is script no_read no_write h
play_done S true TooLarge campaign origin text left out after is script no_read no_write (inr h) = absurd h.printed
play_done S true DoorFault campaign origin text left out after is script no_read no_write (inl h) = script_done S DoorFault campaign origin text left out after is script no_read no_write h
play_done S true Differs campaign origin text left out after is script no_read no_write (inl h) = script_done S Differs campaign origin text left out after is script no_read no_write h
play_done S true DoorFault campaign origin text left out after is script no_read no_write (inr h) = absurd h.printed
play_done S true Differs campaign origin text left out after is script no_read no_write (inr h) = absurd h.printed

check_done : (ended : Ended) (campaign : List ℕ) (world : Opened) (out after : Option (List ℕ)) → campaign_of campaign ≡ Ok world → ¬ (status_of ended ≡ 4) → ¬ (status_of ended ≡ 5) → CheckEnds ended campaign out after → DoneOrMemory (status_of ended)
check_done Done campaign world out after is no_read no_write h = inl refl
check_done Memory campaign world out after is no_read no_write h = inr refl
check_done (BadCampaign breach) campaign world out after is no_read no_write h = let z : Err breach ≡ Ok world = sym h.0 ∙ is in cc
check_done ReadFault campaign world out after is no_read no_write h = absurd (no_read refl)
check_done WriteFault campaign world out after is no_read no_write h = absurd (no_write refl)
check_done Usage campaign world out after is no_read no_write h = absurd h.2
check_done (BadLine number) campaign world out after is no_read no_write h = absurd h.2
check_done TooLarge campaign world out after is no_read no_write h = absurd h.2
check_done DoorFault campaign world out after is no_read no_write h = absurd h.2
check_done Differs campaign world out after is no_read no_write h = absurd h.2

pub not_fetched_done : (D : Type 0) (ended : Ended) (campaign : List ℕ) → length campaign ≤ campaign_limit → ¬ (status_of ended ≡ 4) → NotFetched D ended (Some campaign) → DoneOrMemory (status_of ended)
not_fetched_done D ReadFault campaign small no_read h = absurd (no_read refl)
not_fetched_done D Memory campaign small no_read h = inr refl
not_fetched_done D TooLarge campaign small no_read h = absurd (omega (arith, h, small))
not_fetched_done D DoorFault campaign small no_read h = absurd h
not_fetched_done D Differs campaign small no_read h = absurd h
not_fetched_done D Done campaign small no_read h = absurd h
not_fetched_done D Usage campaign small no_read h = absurd h
not_fetched_done D (BadCampaign breach) campaign small no_read h = absurd h
not_fetched_done D WriteFault campaign small no_read h = absurd h
not_fetched_done D (BadLine number) campaign small no_read h = absurd h

file_done : (D : Type 0) (Ends : List ℕ → Type 0) (ended : Ended) (told : Option (List ℕ)) (campaign : List ℕ) (out after : Option (List ℕ)) → told ≡ Some campaign → length campaign ≤ campaign_limit → ¬ (status_of ended ≡ 4) → (Ends campaign → DoneOrMemory (status_of ended)) → FileEnds D Ends ended told out after → DoneOrMemory (status_of ended)
file_done D Ends ended told campaign out after is small no_read ends (inl none) = not_fetched_done D ended campaign small no_read (subst (NotFetched D ended) is none.0)
file_done D Ends ended told campaign out after is small no_read ends (inr f) =
    let same : f.text ≡ campaign = subst (λ c. IfSome c (λ told. f.text ≡ told)) is f.told in
    ends (subst Ends same f.ends)

pub play_completes : (status : ℕ) (job : Option Asked) (texts : List ℕ → Option (List ℕ)) (script left out after : Option (List ℕ)) (D S OutFailed : Type 0) (file : List ℕ) (end : Bool) (campaign text : List ℕ) (origin : World) → HasEnded status job texts script left out after D S OutFailed → job ≡ Some (Play file end) → texts file ≡ Some campaign → length campaign ≤ campaign_limit → world_of_text campaign ≡ Some origin → script ≡ Some text → (script_of origin text).ending ≡ done → ¬ (status ≡ 4) → ¬ (status ≡ 5) → DoneOrMemory status
play_completes status job texts script left out after D S OutFailed file end campaign text origin h j t small is s script_done no_read no_write =
    let ends : JobEnds D S h.ended (Some (Play file end)) texts (Some text) left out h.before_line =
    subst (λ x. JobEnds D S h.ended (Some (Play file end)) texts x left out h.before_line) s (subst (λ j. JobEnds D S h.ended j texts script left out h.before_line) j h.ends) in
    subst DoneOrMemory (sym h.status_is)
    (file_done D (λ text'. PlayEnds S end h.ended text' (Some text) left out h.before_line) h.ended (texts file) campaign out h.before_line t small (λ e. no_read (h.status_is ∙ e))
    (play_done S end h.ended campaign origin text left out h.before_line is script_done (λ e. no_read (h.status_is ∙ e)) (λ e. no_write (h.status_is ∙ e))) ends)

pub check_completes : (status : ℕ) (job : Option Asked) (texts : List ℕ → Option (List ℕ)) (script left out after : Option (List ℕ)) (D S OutFailed : Type 0) (file campaign : List ℕ) (world : Opened) → HasEnded status job texts script left out after D S OutFailed → job ≡ Some (Check file) → texts file ≡ Some campaign → length campaign ≤ campaign_limit → campaign_of campaign ≡ Ok world → ¬ (status ≡ 4) → ¬ (status ≡ 5) → DoneOrMemory status
check_completes status job texts script left out after D S OutFailed file campaign world h j t small is no_read no_write =
    subst DoneOrMemory (sym h.status_is)
    (file_done D (λ text. CheckEnds h.ended text out h.before_line) h.ended (texts file) campaign out h.before_line t small (λ e. no_read (h.status_is ∙ e))
    (check_done h.ended campaign world out h.before_line is (λ e. no_read (h.status_is ∙ e)) (λ e. no_write (h.status_is ∙ e)))
    (subst (λ j. JobEnds D S h.ended j texts script left out h.before_line) j h.ends))

-- a drill
drill_done : (ended : Ended) (n lines : ℕ) (out after : Option (List ℕ)) → ¬ (status_of ended ≡ 5) → DrillEnds ended n lines out after → DoneOrMemory (status_of ended)
drill_done Done n lines out after no_write h = inl refl
drill_done Memory n lines out after no_write h = inr refl
drill_done WriteFault n lines out after no_write h = absurd (no_write refl)
drill_done (BadLine number) n lines out after no_write h = absurd h
drill_done TooLarge n lines out after no_write h = absurd h
drill_done Usage n lines out after no_write h = absurd h
drill_done (BadCampaign breach) n lines out after no_write h = absurd h
drill_done ReadFault n lines out after no_write h = absurd h
drill_done DoorFault n lines out after no_write h = absurd h
drill_done Differs n lines out after no_write h = absurd h

pub drill_completes : (status : ℕ) (job : Option Asked) (texts : List ℕ → Option (List ℕ)) (script left out after : Option (List ℕ)) (D S OutFailed : Type 0) (number lines : ℕ) → HasEnded status job texts script left out after D S OutFailed → job ≡ Some (Drill number lines) → ¬ (status ≡ 5) → DoneOrMemory status
drill_completes status job texts script left out after D S OutFailed number lines h j no_write =
    subst DoneOrMemory (sym h.status_is)
    (drill_done h.ended number lines out h.before_line (λ e. no_write (h.status_is ∙ e))
    (subst (λ j. JobEnds D S h.ended j texts script left out h.before_line) j h.ends))
