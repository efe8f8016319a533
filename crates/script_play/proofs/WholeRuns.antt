-- What a run of a script's lines did, up to each of its ends.
use Rattle.std.proofs.Common.{◌≡◌, ℕ, ◌+◌, ◌≤◌, Bool, true, false, cond, List, [], ◌∷◌, ◌++◌, Some, None, refl, sym, ◌∙◌, ap, subst, arith}
use Rattle.std.specs.Prelude.{Option}
use Rattle.std.specs.Io.KnownBytes.{IsAtEnd}
use Rattle.line_io.specs.Counts.{CountRose}
use Rattle.line_io.specs.declared.lines.NextLine.{NextLine}
use Rattle.line_io.specs.declared.lines.NextLine.TheVariants.{Line, End, TooLong, ReadFault as ReaderFault, Memory as ReaderMemory}
use Rattle.line_io.specs.Lines.{HasNoLineEnd}
use Rattle.line_io.specs.Reader.{bytes_to_come, Answers}
use Rattle.line_io.specs.ReaderState.{ReaderState}
use Rattle.line_io.specs.Told.{WhereTold}
use Rattle.campaign_law.specs.declared.entry.Entry.{Entry}
use Rattle.campaign_law.specs.World.{World, replay}
use Rattle.campaign_law.specs.Law.{Course, world_of}
use Rattle.script_play.specs.declared.run.Played.{Played}
use Rattle.script_play.specs.declared.run.Played.TheVariants.{Done, ReadFault, WriteFault, BadLine, TooLarge, Memory}
use Rattle.script_play.specs.Script.{script_from, script_of}
use Rattle.script_play.specs.Played.{GoesOn, entries_since, HasEntered, HasRead, HasReadTo, HasWritten, IsLineStop}
use Rattle.script_play.proofs.Fronts.{written_behind}
use Rattle.script_play.proofs.Reading.{HasCome, none_came, line_came, stops_so, done_so, too_long, read_so_far, stopped_here, told_then, told_start, told_left}
use Rattle.script_play.proofs.AfterEntry.{nothing_since}
use Rattle.script_play.proofs.LineRuns.{since_all, world_on}

pub not_so : (b : Bool) → (b ≡ true → ⊥) → b ≡ false
not_so true f = absurd (f refl)
not_so false f = refl

pub count_later : (a b c : ℕ) → a ≤ b → CountRose b c → CountRose a c
count_later a b c le rose lt = omega (arith, rose lt)

pub no_read_fault : (stop : Played) → IsLineStop stop → stop ≡ ReadFault → ⊥
no_read_fault stop h e = subst IsLineStop e h

-- what came to a course of the script's text
abbrev pub CameTo : Course → Course → ℕ → Bool → List ℕ → List ℕ → Type 0
CameTo start now number ended text rest = HasCome (world_of start) (entries_since start now) number ended text rest

-- before the first line
pub starts : (start : Course) (cap : ℕ) (reader : ReaderState) (left : Option (List ℕ)) → reader ≡ record { cap = cap; pending = []; ended = false } → WhereTold left (bytes_to_come reader left) (CameTo start start 1 reader.ended)
starts start cap reader left is =
    subst (λ (r : ReaderState). WhereTold left (bytes_to_come r left) (CameTo start start 1 r.ended)) (sym is)
    (told_start (CameTo start start 1 false) cap left (λ text. subst (λ es. HasCome (world_of start) es 1 false text text) (sym (nothing_since start)) (none_came (world_of start) text)))

-- a line was entered
pub goes_on_line : (start now new : Course) (number cap : ℕ) (ended ended' : Bool) (line : List ℕ) (a b c : Option (List ℕ)) → GoesOn start now → GoesOn now new → WhereTold a b (CameTo start now number ended) → WhereTold b c (λ bytes rest. Answers cap bytes (Line line) ended' rest) → ended ≡ false → HasNoLineEnd line → HasEntered Done (script_from (world_of now) number (line ∷ [])) (entries_since now new) → WhereTold a c (CameTo start new (number + 1) ended')
goes_on_line start now new number cap ended ended' line a b c g h came answer going none entered =
    let w : World = world_of start in
    let es : List Entry = entries_since start now in
    let more : List Entry = entries_since now new in
    let here : HasEntered Done (script_from (replay w es) number (line ∷ [])) more = subst (λ (x : World). HasEntered Done (script_from x number (line ∷ [])) more) (world_on start now g) entered in
    subst (λ xs. WhereTold a c (λ text rest. HasCome w xs (number + 1) ended' text rest)) (sym (since_all start now new g h))
    (told_then (CameTo start now number ended) (λ bytes rest. Answers cap bytes (Line line) ended' rest) (λ text rest. HasCome w (es ++ more) (number + 1) ended' text rest) a b c came answer
    (λ x y z come says. line_came w es more number ended' x y line z (subst (λ e. HasCome w es number e x y) going come) says.1 says.2 none here))

-- a line ended it
pub stops_at : (stop : Played) (start now new : Course) (number cap : ℕ) (ended : Bool) (reader : ReaderState) (line : List ℕ) (a b left : Option (List ℕ)) → IsLineStop stop → GoesOn start now → GoesOn now new → WhereTold a b (CameTo start now number ended) → WhereTold b (bytes_to_come reader left) (λ bytes rest. Answers cap bytes (Line line) reader.ended rest) → HasEntered stop (script_from (world_of now) number (line ∷ [])) (entries_since now new) → WhereTold a left (λ text rest. HasEntered stop (script_of (world_of start) text) (entries_since start new))
stops_at stop start now new number cap ended reader line a b left ends g h came answer entered =
    let w : World = world_of start in
    let es : List Entry = entries_since start now in
    let more : List Entry = entries_since now new in
    let here : HasEntered stop (script_from (replay w es) number (line ∷ [])) more = subst (λ (x : World). HasEntered stop (script_from x number (line ∷ [])) more) (world_on start now g) entered in
    let R : List ℕ → List ℕ → Type 0 = λ text rest. HasEntered stop (script_of w text) (es ++ more) in
    subst (λ xs. WhereTold a left (λ text rest. HasEntered stop (script_of w text) xs)) (sym (since_all start now new g h))
    (told_left R R reader a left
    (told_then (CameTo start now number ended) (λ bytes rest. Answers cap bytes (Line line) reader.ended rest) R a b (bytes_to_come reader left) came answer
    (λ x y z come says. stops_so stop w es more number ended x y line z ends come says.1 here))
    (λ x y l e f p. p))

-- an answer of the reader ended it, and says so much
ends_at : (answer : NextLine) (start now : Course) (number cap : ℕ) (ended : Bool) (reader : ReaderState) (a b left : Option (List ℕ)) (R : List ℕ → List ℕ → Type 0) → WhereTold a b (CameTo start now number ended) → WhereTold b (bytes_to_come reader left) (λ bytes rest. Answers cap bytes answer reader.ended rest) → ((x y z l : List ℕ) → left ≡ Some l → z ≡ reader.pending ++ cond reader.ended [] l → CameTo start now number ended x y → Answers cap y answer reader.ended z → R x l) → WhereTold a left R
ends_at answer start now number cap ended reader a b left R came says f =
    let P : List ℕ → List ℕ → Type 0 = λ text rest. (bytes : List ℕ) × CameTo start now number ended text bytes × Answers cap bytes answer reader.ended rest in
    told_left P R reader a left
    (told_then (CameTo start now number ended) (λ bytes rest. Answers cap bytes answer reader.ended rest) P a b (bytes_to_come reader left) came says (λ x y z come s. (y, come, s)))
    (λ x z l e is p. f x p.0 z l e is p.1 p.2)

pub done_at : (start now : Course) (number cap : ℕ) (ended : Bool) (reader : ReaderState) (a b left : Option (List ℕ)) → WhereTold a b (CameTo start now number ended) → WhereTold b (bytes_to_come reader left) (λ bytes rest. Answers cap bytes End reader.ended rest) → WhereTold a left (λ text rest. HasEntered Done (script_of (world_of start) text) (entries_since start now))
done_at start now number cap ended reader a b left came says =
    ends_at End start now number cap ended reader a b left _ came says (λ x y z l e is come s. done_so (world_of start) (entries_since start now) number ended x y come s.0)

pub read_to_end : (start now : Course) (number cap : ℕ) (ended : Bool) (reader : ReaderState) (a b left : Option (List ℕ)) → WhereTold a b (CameTo start now number ended) → WhereTold b (bytes_to_come reader left) (λ bytes rest. Answers cap bytes End reader.ended rest) → IsAtEnd left → WhereTold a left (λ text rest. rest ≡ [])
read_to_end start now number cap ended reader a b left came says at_end =
    ends_at End start now number cap ended reader a b left (λ text rest. rest ≡ []) came says (λ x y z l e is come s. subst IsAtEnd e at_end)

pub too_long_at : (start now : Course) (number cap : ℕ) (ended : Bool) (reader : ReaderState) (a b left : Option (List ℕ)) → cap ≡ 4112 → WhereTold a b (CameTo start now number ended) → WhereTold b (bytes_to_come reader left) (λ bytes rest. Answers cap bytes TooLong reader.ended rest) → WhereTold a left (λ text rest. HasEntered TooLarge (script_of (world_of start) text) (entries_since start now))
too_long_at start now number cap ended reader a b left cap_is came says =
    ends_at TooLong start now number cap ended reader a b left _ came says (λ x y z l e is come s. too_long (world_of start) (entries_since start now) number cap ended x y come s.0 cap_is)

pub fault_at : (start now : Course) (number cap : ℕ) (ended : Bool) (reader : ReaderState) (a b left : Option (List ℕ)) → WhereTold a b (CameTo start now number ended) → WhereTold b (bytes_to_come reader left) (λ bytes rest. Answers cap bytes ReaderFault reader.ended rest) → WhereTold a left (λ text rest. HasEntered ReadFault (script_of (world_of start) text) (entries_since start now))
fault_at start now number cap ended reader a b left came says =
    ends_at ReaderFault start now number cap ended reader a b left _ came says (λ x y z l e is come s. stopped_here (world_of start) (entries_since start now) number ended x y come)

pub read_to_fault : (start now : Course) (number cap : ℕ) (ended : Bool) (reader : ReaderState) (a b left : Option (List ℕ)) → ended ≡ false → reader.ended ≡ false → HasNoLineEnd reader.pending → WhereTold a b (CameTo start now number ended) → WhereTold b (bytes_to_come reader left) (λ bytes rest. Answers cap bytes ReaderFault reader.ended rest) → WhereTold a left (λ text rest. HasReadTo (world_of start) (entries_since start now) text rest)
read_to_fault start now number cap ended reader a b left going open_ none came says =
    ends_at ReaderFault start now number cap ended reader a b left (λ text rest. HasReadTo (world_of start) (entries_since start now) text rest) came says
    (λ x y z l e is come s.
    let rest : y ≡ reader.pending ++ l = sym s ∙ is ∙ ap (λ b. reader.pending ++ cond b [] l) open_ in
    read_so_far (world_of start) (entries_since start now) number x reader.pending l (subst (CameTo start now number false x) rest (subst (λ b. CameTo start now number b x y) going come)) none)

pub memory_at : (start now : Course) (number cap : ℕ) (ended : Bool) (reader : ReaderState) (a b left : Option (List ℕ)) → WhereTold a b (CameTo start now number ended) → WhereTold b (bytes_to_come reader left) (λ bytes rest. Answers cap bytes ReaderMemory reader.ended rest) → WhereTold a left (λ text rest. HasEntered Memory (script_of (world_of start) text) (entries_since start now))
memory_at start now number cap ended reader a b left came says =
    ends_at ReaderMemory start now number cap ended reader a b left _ came says (λ x y z l e is come s. stopped_here (world_of start) (entries_since start now) number ended x y come)

-- nothing is said of how far it was read
pub read_somehow : (P R : List ℕ → List ℕ → Type 0) (a left : Option (List ℕ)) → WhereTold a left P → ((x l : List ℕ) → R x l) → WhereTold a left R
read_somehow P R None None h f = tt
read_somehow P R None (Some l) h f = absurd h
read_somehow P R (Some x) None h f = absurd h
read_somehow P R (Some x) (Some l) h f = f x l

pub read_stop : (stop : Played) → IsLineStop stop → (w : World) (es : List Entry) (text rest : List ℕ) → HasRead stop w es text rest
read_stop Done h w es text rest = absurd h
read_stop (BadLine number) h w es text rest = tt
read_stop TooLarge h w es text rest = tt
read_stop ReadFault h w es text rest = absurd h
read_stop WriteFault h w es text rest = tt
read_stop Memory h w es text rest = tt

-- what was written
pub written_on : (p : Played) (start now new : Course) (before middle after : Option (List ℕ)) → GoesOn start now → GoesOn now new → HasWritten Done (world_of start) (entries_since start now) before middle → HasWritten p (world_of now) (entries_since now new) middle after → HasWritten p (world_of start) (entries_since start new) before after
written_on p start now new before middle after g h first rest =
    subst (λ es. HasWritten p (world_of start) es before after) (sym (since_all start now new g h))
    (written_behind p (world_of start) (entries_since start now) (entries_since now new) before middle after first
    (subst (λ (w : World). HasWritten p w (entries_since now new) middle after) (world_on start now g) rest))

-- at the end of the source
pub meets_end : (old new : Bool) (before after : Option (List ℕ)) → (old ≡ true → IsAtEnd before) → (old ≡ true → after ≡ before) → (old ≡ false → new ≡ true → IsAtEnd after) → new ≡ true → IsAtEnd after
meets_end true new before after at_end same met h = subst IsAtEnd (sym (same refl)) (at_end refl)
meets_end false new before after at_end same met h = met refl h
