-- A script while it is read: what came of it, and what is to come.
use Rattle.std.proofs.Common.{◌≡◌, ℕ, ◌+◌, ◌<◌, Bool, true, false, cond, ◌||◌, List, [], ◌∷◌, ◌++◌, length, Some, None, refl, sym, ◌∙◌, ap, subst, arith, append_assoc, length-append}
use Rattle.std.specs.Prelude.{Option, nat_lt, nat_le}
use Rattle.std.specs.List.{AllByRecursion}
use Rattle.std.specs.Io.KnownBytes.{prepend_known}
use Rattle.std.proofs.lemmas.List.{append-nil}
use Rattle.std.proofs.lemmas.Bool.Decides.{nat_tests}
use Rattle.line_io.specs.declared.lines.NextLine.TheVariants.{Line, TooLong}
use Rattle.line_io.specs.Lines.{HasNoLineEnd, lines_of, first_within, next_line, line_text}
use Rattle.line_io.specs.Reader.{still_left, bytes_to_come}
use Rattle.line_io.specs.ReaderState.{ReaderState}
use Rattle.line_io.specs.Told.{WhereTold}
use Rattle.line_io.proofs.LinesLemmas.{lines_of-nil, lines_of-line}
use Rattle.campaign_law.specs.declared.entry.Entry.{Entry}
use Rattle.campaign_law.specs.World.{World, replay}
use Rattle.campaign_law.specs.Law.{bytes_of}
use Rattle.script_play.specs.declared.run.Played.{Played}
use Rattle.script_play.specs.declared.run.Played.TheVariants.{Done, TooLarge}
use Rattle.script_play.specs.Script.{Script, done, too_large, ends, after_entries, is_past_limits, script_from, script_of}
use Rattle.script_play.specs.Played.{IsPrefix, HasEntered, HasReadTo, IsLineStop}
use Rattle.script_play.proofs.WholeLines.{bytes_of-append}
use Rattle.script_play.proofs.Fronts.{prefix_part, entered_behind}
use Rattle.script_play.proofs.Scripts.{script_none, script_goes_on, stops_at_line, past_limits_script}

-- ---- lines and their bytes

lines_of-bytes : (lines : List (List ℕ)) (rest : List ℕ) → AllByRecursion HasNoLineEnd lines → lines_of (bytes_of lines ++ rest) ≡ lines ++ lines_of rest
lines_of-bytes [] rest h = refl
lines_of-bytes (line ∷ lines) rest h =
    ap lines_of (append_assoc (line ++ 10 ∷ []) (bytes_of lines) rest ∙ append_assoc line (10 ∷ []) (bytes_of lines ++ rest))
    ∙ lines_of-line line (bytes_of lines ++ rest) h.0
    ∙ ap (λ ls. line ∷ ls) (lines_of-bytes lines rest h.1)

all_more : {A : Type 0} (P : A → Type 0) (xs : List A) (x : A) → AllByRecursion P xs → P x → AllByRecursion P (xs ++ x ∷ [])
all_more P [] x h p = (p, tt)
all_more P (y ∷ xs) x h p = (h.0, all_more P xs x h.1 p)

-- ---- what came

-- of a text these entries came, and the line of this number comes next of what is left
pub record HasCome (w : World) (es : List Entry) (number : ℕ) (ended : Bool) (text rest : List ℕ) : Type 0 where
  pub lines : List (List ℕ)
  pub is : lines_of text ≡ lines ++ lines_of rest
  pub script : script_from w 1 lines ≡ record { entries = es; ending = done }
  pub count : number ≡ 1 + length lines
  pub bytes : ended ≡ false → text ≡ bytes_of lines ++ rest
  pub each : AllByRecursion HasNoLineEnd lines

pub none_came : (w : World) (text : List ℕ) → HasCome w [] 1 false text text
none_came w text = record { lines = []; is = refl; script = script_none w 1; count = refl; bytes = λ h. refl; each = tt }

-- the whole script, from here
whole_script : (w : World) (es : List Entry) (number : ℕ) (ended : Bool) (text rest : List ℕ) → HasCome w es number ended text rest → script_of w text ≡ after_entries es (script_from (replay w es) number (lines_of rest))
whole_script w es number ended text rest c = ap (script_from w 1) c.is ∙ script_goes_on w c.lines (lines_of rest) es number c.script c.count

pub ends_so : (p : Played) (w : World) (es more : List Entry) (number : ℕ) (ended : Bool) (text rest : List ℕ) → HasCome w es number ended text rest → HasEntered p (script_from (replay w es) number (lines_of rest)) more → HasEntered p (script_of w text) (es ++ more)
ends_so p w es more number ended text rest c h =
    let P : Script → Type 0 = λ s. HasEntered p s (es ++ more) in
    subst P (sym (whole_script w es number ended text rest c)) (entered_behind p es more (script_from (replay w es) number (lines_of rest)) h)

-- nothing more is entered
pub ends_here : (p : Played) (w : World) (es : List Entry) (number : ℕ) (ended : Bool) (text rest : List ℕ) → HasCome w es number ended text rest → HasEntered p (script_from (replay w es) number (lines_of rest)) [] → HasEntered p (script_of w text) es
ends_here p w es number ended text rest c h = let P : List Entry → Type 0 = HasEntered p (script_of w text) in subst P (append-nil es) (ends_so p w es [] number ended text rest c h)

-- a line was played
pub line_came : (w : World) (es more : List Entry) (number : ℕ) (ended : Bool) (text rest line after : List ℕ) → HasCome w es number false text rest → lines_of rest ≡ line ∷ lines_of after → rest ≡ line_text ended line ++ after → HasNoLineEnd line → HasEntered Done (script_from (replay w es) number (line ∷ [])) more → HasCome w (es ++ more) (number + 1) ended text after
line_came w es more number ended text rest line after c lines text_is none h = record {
  lines = c.lines ++ line ∷ [];
  is = c.is ∙ ap (λ ls. c.lines ++ ls) lines ∙ sym (append_assoc c.lines (line ∷ []) (lines_of after));
  script = script_goes_on w c.lines (line ∷ []) es number c.script c.count ∙ ap (after_entries es) h;
  count = omega (arith, c.count, length-append c.lines (line ∷ []));
  bytes = λ going.
      c.bytes refl ∙ ap (λ r. bytes_of c.lines ++ r) (text_is ∙ ap (λ e. line_text e line ++ after) going)
      ∙ sym (append_assoc (bytes_of c.lines) (line ++ 10 ∷ []) after)
      ∙ ap (λ b. b ++ after) (sym (bytes_of-append c.lines (line ∷ []) ∙ ap (λ r. bytes_of c.lines ++ r) (append-nil (line ++ 10 ∷ []))));
  each = all_more HasNoLineEnd c.lines line c.each none;
}

-- the run stopped within a line
pub stops_so : (p : Played) (w : World) (es more : List Entry) (number : ℕ) (ended : Bool) (text rest line after : List ℕ) → IsLineStop p → HasCome w es number ended text rest → lines_of rest ≡ line ∷ lines_of after → HasEntered p (script_from (replay w es) number (line ∷ [])) more → HasEntered p (script_of w text) (es ++ more)
stops_so p w es more number ended text rest line after stop c lines h =
    let P : List (List ℕ) → Type 0 = λ ls. HasEntered p (script_from (replay w es) number ls) more in
    ends_so p w es more number ended text rest c (subst P (sym lines) (stops_at_line p (replay w es) number line (lines_of after) more stop h))

-- ---- how it ends

pub done_so : (w : World) (es : List Entry) (number : ℕ) (ended : Bool) (text rest : List ℕ) → HasCome w es number ended text rest → rest ≡ [] → HasEntered Done (script_of w text) es
done_so w es number ended text rest c none = ends_here Done w es number ended text rest c (ap (script_from (replay w es) number) (ap lines_of none ∙ lines_of-nil) ∙ script_none (replay w es) number)

long_past : (number : ℕ) (line : List ℕ) (many : Bool) → nat_lt 4112 (length line) ≡ true → (many || nat_lt 4112 (length line)) ≡ true
long_past number line true h = refl
long_past number line false h = h

pub many_past : (number : ℕ) (line : List ℕ) → 1000000 < number → is_past_limits number line ≡ true
many_past number line h = let many : nat_lt 1000000 number ≡ true = grind (arith, nat_tests) in ap (λ b. b || nat_lt 4112 (length line)) many

-- a line is too long
first_long : (cap : ℕ) (lines : List (List ℕ)) (w : World) (number : ℕ) → first_within cap lines ≡ TooLong → cap ≡ 4112 → script_from w number lines ≡ ends too_large
first_long cap [] w number h c = cc
first_long cap (line ∷ lines) w number h c = by_length (nat_le (length line) cap) refl h
  where
    by_length : (short : Bool) → nat_le (length line) cap ≡ short → cond short (Line line) TooLong ≡ TooLong → script_from w number (line ∷ lines) ≡ ends too_large
    by_length true e h = cc
    by_length false e h = past_limits_script w number line lines (long_past number line (nat_lt 1000000 number) (grind (arith, nat_tests)))

pub too_long : (w : World) (es : List Entry) (number cap : ℕ) (ended : Bool) (text rest : List ℕ) → HasCome w es number ended text rest → next_line cap rest ≡ TooLong → cap ≡ 4112 → HasEntered TooLarge (script_of w text) es
too_long w es number cap ended text rest c long is = ends_here TooLarge w es number ended text rest c (first_long cap (lines_of rest) (replay w es) number long is)

-- there are too many lines
pub too_many : (w : World) (es : List Entry) (number : ℕ) (ended : Bool) (text rest line : List ℕ) (lines : List (List ℕ)) → HasCome w es number ended text rest → lines_of rest ≡ line ∷ lines → 1000000 < number → HasEntered TooLarge (script_of w text) es
too_many w es number ended text rest line lines c is many =
    ends_here TooLarge w es number ended text rest c (ap (script_from (replay w es) number) is ∙ past_limits_script (replay w es) number line lines (many_past number line many))

-- the source failed behind the lines that came
pub read_so_far : (w : World) (es : List Entry) (number : ℕ) (text piece left : List ℕ) → HasCome w es number false text (piece ++ left) → HasNoLineEnd piece → HasReadTo w es text left
read_so_far w es number text piece left c none =
    let each : lines_of (bytes_of c.lines) ≡ c.lines = ap lines_of (sym (append-nil (bytes_of c.lines))) ∙ lines_of-bytes c.lines [] c.each ∙ ap (λ ls. c.lines ++ ls) lines_of-nil ∙ append-nil c.lines in
    record {
      lines = c.lines;
      piece = piece;
      is = c.bytes refl;
      no_line_end = none;
      each_line = each;
      script = ap (script_from w 1) each ∙ c.script;
    }

pub stopped_here : (w : World) (es : List Entry) (number : ℕ) (ended : Bool) (text rest : List ℕ) → HasCome w es number ended text rest → IsPrefix es (script_of w text).entries
stopped_here w es number ended text rest c =
    let P : Script → Type 0 = λ s. IsPrefix es s.entries in
    subst P (sym (whole_script w es number ended text rest c)) (prefix_part es (script_from (replay w es) number (lines_of rest)).entries)

-- ---- where the source tells its bytes

pub told_then : (P Q R : List ℕ → List ℕ → Type 0) (a b c : Option (List ℕ)) → WhereTold a b P → WhereTold b c Q → ((x y z : List ℕ) → P x y → Q y z → R x z) → WhereTold a c R
told_then P Q R None None None h k f = tt
told_then P Q R None None (Some z) h k f = absurd k
told_then P Q R None (Some y) c h k f = absurd h
told_then P Q R (Some x) None c h k f = absurd h
told_then P Q R (Some x) (Some y) None h k f = absurd k
told_then P Q R (Some x) (Some y) (Some z) h k f = f x y z h k

pub told_weaker : (P R : List ℕ → List ℕ → Type 0) (a b : Option (List ℕ)) → WhereTold a b P → ((x y : List ℕ) → P x y → R x y) → WhereTold a b R
told_weaker P R None None h f = tt
told_weaker P R None (Some y) h f = absurd h
told_weaker P R (Some x) None h f = absurd h
told_weaker P R (Some x) (Some y) h f = f x y h

pub told_start : (P : List ℕ → List ℕ → Type 0) (cap : ℕ) (left : Option (List ℕ)) → ((x : List ℕ) → P x x) → WhereTold left (bytes_to_come (record { cap = cap; pending = []; ended = false }) left) P
told_start P cap None f = tt
told_start P cap (Some x) f = f x

still_none : (ended : Bool) → still_left ended None ≡ None
still_none true = refl
still_none false = refl

still_some : (ended : Bool) (left : List ℕ) → still_left ended (Some left) ≡ Some (cond ended [] left)
still_some true left = refl
still_some false left = refl

untold : (P R : List ℕ → List ℕ → Type 0) (a : Option (List ℕ)) → WhereTold a None P → WhereTold a None R
untold P R None h = tt
untold P R (Some x) h = absurd h

told_some : (P R : List ℕ → List ℕ → Type 0) (a : Option (List ℕ)) (y left : List ℕ) → WhereTold a (Some y) P → ((x : List ℕ) → P x y → R x left) → WhereTold a (Some left) R
told_some P R None y left h f = absurd h
told_some P R (Some x) y left h f = f x h

-- what is to come is what is pending, and then what the source has left
pub told_left : (P R : List ℕ → List ℕ → Type 0) (reader : ReaderState) (a left : Option (List ℕ)) → WhereTold a (bytes_to_come reader left) P → ((x y l : List ℕ) → left ≡ Some l → y ≡ reader.pending ++ cond reader.ended [] l → P x y → R x l) → WhereTold a left R
told_left P R reader a None h f =
    let Q : Option (List ℕ) → Type 0 = λ b. WhereTold a (prepend_known reader.pending b) P in
    untold P R a (subst Q (still_none reader.ended) h)
told_left P R reader a (Some l) h f =
    let Q : Option (List ℕ) → Type 0 = λ b. WhereTold a (prepend_known reader.pending b) P in
    told_some P R a (reader.pending ++ cond reader.ended [] l) l (subst Q (still_some reader.ended l) h) (λ x p. f x (reader.pending ++ cond reader.ended [] l) l refl refl p)

-- what was told stays
pub told_same : (R : List ℕ → List ℕ → Type 0) (a : Option (List ℕ)) → ((x : List ℕ) → R x x) → WhereTold a a R
told_same R None f = tt
told_same R (Some x) f = f x
