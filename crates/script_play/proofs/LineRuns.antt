-- What a line of a script does.
use Rattle.std.proofs.Common.{◌≡◌, ℕ, suc, ◌<◌, ◌≤◌, false, ◌||◌, List, [], ◌∷◌, ◌++◌, length, Some, None, sym, ◌∙◌, ap, subst, append_assoc, arith}
use Rattle.std.specs.Prelude.{Option, Result, Ok, Err, OnOk, OnErr, IfErr, nat_lt}
use Rattle.std.proofs.lemmas.List.{append-nil}
use Rattle.std.proofs.lemmas.Bool.Decides.{nat_tests}
use Rattle.campaign_law.specs.declared.entry.Entry.{Entry}
use Rattle.campaign_law.specs.World.{World, step, replay}
use Rattle.campaign_law.specs.Law.{Course, IsOpening, world_of}
use Rattle.command_effects.specs.Settle.{IsSettled}
use Rattle.campaign_law.proofs.Settled.{replay_settled, after_settled}
use Rattle.script_play.specs.declared.run.Played.{Played}
use Rattle.script_play.specs.declared.run.Played.TheVariants.{Done, ReadFault, WriteFault, BadLine, TooLarge, Memory}
use Rattle.script_play.specs.Script.{Script, done, bad_line, too_large, takens, with_takens, entry_of_line, is_past_limits, script_from, NothingWaits}
use Rattle.script_play.specs.Tagged.{tagged}
use Rattle.script_play.specs.Played.{IsPrefix, GoesOn, entries_since, HasEntered, HasWritten, LeavesNothing, IsCutShort, IsLineStop, played}
use Rattle.script_play.proofs.Fronts.{replay-append, tagged-append, prefix_all, prefix_behind, prefix_before, all_written}
use Rattle.script_play.proofs.Takens.{takens_take_all, first_takens_send_nothing}
use Rattle.script_play.proofs.Scripts.{script_none, script_line, past_limits_script, line_script, followed}
use Rattle.script_play.proofs.AfterEntry.{all_sound, since_is, goes_on}
use Rattle.script_play.proofs.Reading.{many_past}

-- ---- results

pub on_ok : {A : Type 0} (r : Result A Played) {P Q : Type 0} → (P → Q) → OnOk r P → OnOk r Q
on_ok (Ok value) f h = f h
on_ok (Err stop) f h = h

pub on_err : {A : Type 0} (r : Result A Played) {P Q : Type 0} → (P → Q) → OnErr r P → OnErr r Q
on_err (Ok value) f h = h
on_err (Err stop) f h = f h

-- ---- courses that go on

pub since_both : (old middle new : Course) → GoesOn old middle → GoesOn middle new → new.history ≡ old.history ++ (entries_since old middle ++ entries_since middle new)
since_both old middle new a b = b.history ∙ ap (λ h. h ++ entries_since middle new) a.history ∙ append_assoc old.history (entries_since old middle) (entries_since middle new)

pub since_all : (old middle new : Course) → GoesOn old middle → GoesOn middle new → entries_since old new ≡ entries_since old middle ++ entries_since middle new
since_all old middle new a b = since_is old new _ (since_both old middle new a b)

pub goes_both : (old middle new : Course) → GoesOn old middle → GoesOn middle new → GoesOn old new
goes_both old middle new a b = goes_on old new _ (b.origin ∙ a.origin) (since_both old middle new a b)

pub world_on : (old new : Course) → GoesOn old new → world_of new ≡ replay (world_of old) (entries_since old new)
world_on old new g = (λ i. replay (g.origin i) (g.history i)) ∙ replay-append old.origin old.history (entries_since old new)

pub world_entered : (old new : Course) (e : Entry) → GoesOn old new → entries_since old new ≡ e ∷ [] → world_of new ≡ step (world_of old) e
world_entered old new e g h = world_on old new g ∙ ap (replay (world_of old)) h

-- ---- an entry, and then its Takens

pub all_entered : (old middle new : Course) (e : Entry) (due : List Entry) → GoesOn old middle → GoesOn middle new → entries_since old middle ≡ e ∷ [] → due ≡ takens (world_of middle) → entries_since middle new ≡ due → entries_since old new ≡ with_takens (world_of old) e
all_entered old middle new e due a b one is all =
    since_all old middle new a b
    ∙ (λ i. one i ++ (all ∙ is ∙ ap takens (world_entered old middle e a one)) i)

pub part_entered : (old middle new : Course) (e : Entry) (due : List Entry) → GoesOn old middle → GoesOn middle new → entries_since old middle ≡ e ∷ [] → due ≡ takens (world_of middle) → IsPrefix (entries_since middle new) due → IsPrefix (entries_since old new) (with_takens (world_of old) e)
part_entered old middle new e due a b one is part =
    let due_is : due ≡ takens (step (world_of old) e) = is ∙ ap takens (world_entered old middle e a one) in
    subst (λ es. IsPrefix es (with_takens (world_of old) e)) (sym (since_all old middle new a b ∙ ap (λ x. x ++ entries_since middle new) one))
    (prefix_behind (e ∷ []) (subst (IsPrefix (entries_since middle new)) due_is part))

pub none_waits : (old middle new : Course) (due : List Entry) → IsOpening old.origin → GoesOn old middle → GoesOn middle new → due ≡ takens (world_of middle) → entries_since middle new ≡ due → NothingWaits (world_of new)
none_waits old middle new due opening a b is all =
    subst NothingWaits (sym (world_on middle new b ∙ ap (replay (world_of middle)) (all ∙ is)))
    (takens_take_all (world_of middle) (replay_settled middle.origin middle.history (subst IsOpening (sym a.origin) opening).scene) (all_sound middle (subst IsOpening (sym a.origin) opening)))

part_of : {A : Type 0} (r : Result A Played) (front due : List Entry) → OnOk r (front ≡ due) → OnErr r (IsPrefix front due) → IsPrefix front due
part_of (Ok value) front due h k = subst (IsPrefix front) h (prefix_all front)
part_of (Err stop) front due h k = k

-- the Takens write nothing
pub takens_written : {A : Type 0} (r : Result A Played) (old middle new : Course) (e : Entry) (due : List Entry) (before after : Option (List ℕ)) → GoesOn old middle → GoesOn middle new → entries_since old middle ≡ e ∷ [] → due ≡ takens (world_of middle) → OnOk r (entries_since middle new ≡ due) → OnErr r (IsPrefix (entries_since middle new) due) → HasWritten Done (world_of old) (entries_since old middle) before after → HasWritten (played r) (world_of old) (entries_since old new) before after
takens_written r old middle new e due before after a b one is ok err wrote =
    let front : List Entry = entries_since middle new in
    let part : IsPrefix front due = part_of r front due ok err in
    let settled : IsSettled (world_of middle).scene = subst (λ (now : World). IsSettled now.scene) (sym (world_entered old middle e a one)) (after_settled (world_of old) e) in
    let none : tagged (world_of middle) front ≡ [] = first_takens_send_nothing (world_of middle) front part.rest settled (sym is ∙ part.is) in
    let w : World = world_of old in
    let xs : List Entry = entries_since old middle in
    let text : tagged w (entries_since old new) ≡ tagged w xs =
    ap (tagged w) (since_all old middle new a b)
    ∙ tagged-append w xs front
    ∙ ap (λ now. tagged w xs ++ tagged now front) (sym (world_on old middle a))
    ∙ ap (λ t. tagged w xs ++ t) none
    ∙ append-nil (tagged w xs) in
    all_written (played r) w (entries_since old new) before after (record { text = wrote.text; written = wrote.written; part = wrote.part ∙ sym text })

-- ---- a line

within_limits : (number : ℕ) (line : List ℕ) → number ≤ 1000000 → length line ≤ 4112 → is_past_limits number line ≡ false
within_limits number line few short =
    let a : nat_lt 1000000 number ≡ false = grind (arith, nat_tests) in
    let b : nat_lt 4112 (length line) ≡ false = grind (arith, nat_tests) in
    λ i. a i || b i

one_line : (w : World) (number : ℕ) (line : List ℕ) (entry : Option Entry) → number ≤ 1000000 → length line ≤ 4112 → entry_of_line w line ≡ entry → script_from w number (line ∷ []) ≡ line_script number false entry (followed w number [])
one_line w number line entry few short is = script_line w number line [] ∙ (λ i. line_script number (within_limits number line few short i) (is i) (followed w number []))

cut_line : (w : World) (number : ℕ) (line : List ℕ) (e : Entry) (es : List Entry) → number ≤ 1000000 → length line ≤ 4112 → entry_of_line w line ≡ Some e → IsPrefix es (with_takens w e) → IsPrefix es (script_from w number (line ∷ [])).entries
cut_line w number line e es few short is part =
    let P : Script → Type 0 = λ s. IsPrefix es s.entries in
    subst P (sym (one_line w number line (Some e) few short is)) (prefix_before (script_from (replay w (with_takens w e)) (suc number) []).entries part)

pub line_played : {A : Type 0} (r : Result A Played) (w : World) (number : ℕ) (line : List ℕ) (e : Entry) (es : List Entry) → number ≤ 1000000 → length line ≤ 4112 → entry_of_line w line ≡ Some e → OnOk r (es ≡ with_takens w e) → OnErr r (IsPrefix es (with_takens w e)) → IfErr r IsCutShort → HasEntered (played r) (script_from w number (line ∷ [])) es
line_played (Ok value) w number line e es few short is ok err cut =
    one_line w number line (Some e) few short is
    ∙ ap (λ (s : Script). record s { entries = with_takens w e ++ s.entries }) (script_none (replay w (with_takens w e)) (suc number))
    ∙ ap (λ xs. record { entries = xs; ending = done }) (append-nil (with_takens w e) ∙ sym ok)
line_played (Err WriteFault) w number line e es few short is ok err cut = cut_line w number line e es few short is err
line_played (Err Memory) w number line e es few short is ok err cut = cut_line w number line e es few short is err
line_played (Err Done) w number line e es few short is ok err cut = absurd cut
line_played (Err (BadLine k)) w number line e es few short is ok err cut = absurd cut
line_played (Err TooLarge) w number line e es few short is ok err cut = absurd cut
line_played (Err ReadFault) w number line e es few short is ok err cut = absurd cut

pub bad_line_played : (w : World) (number : ℕ) (line : List ℕ) (es : List Entry) → number ≤ 1000000 → length line ≤ 4112 → None ≡ entry_of_line w line → es ≡ [] → HasEntered (BadLine number) (script_from w number (line ∷ [])) es
bad_line_played w number line es few short is none = one_line w number line None few short (sym is) ∙ ap (λ xs. record { entries = xs; ending = bad_line number }) (sym none)

pub too_many_played : (w : World) (number : ℕ) (line : List ℕ) (es : List Entry) → 1000000 < number → es ≡ [] → HasEntered TooLarge (script_from w number (line ∷ [])) es
too_many_played w number line es many none = past_limits_script w number line [] (many_past number line many) ∙ ap (λ xs. record { entries = xs; ending = too_large }) (sym none)

pub leaves_nothing : {A : Type 0} (r : Result A Played) (w : World) → OnOk r (NothingWaits w) → IfErr r IsCutShort → LeavesNothing (played r) w
leaves_nothing (Ok value) w ok cut = ok
leaves_nothing (Err WriteFault) w ok cut = tt
leaves_nothing (Err Memory) w ok cut = tt
leaves_nothing (Err Done) w ok cut = absurd cut
leaves_nothing (Err (BadLine k)) w ok cut = absurd cut
leaves_nothing (Err TooLarge) w ok cut = absurd cut
leaves_nothing (Err ReadFault) w ok cut = absurd cut

pub cut_stops : {A : Type 0} (r : Result A Played) → IfErr r IsCutShort → IfErr r IsLineStop
cut_stops (Ok value) cut = tt
cut_stops (Err WriteFault) cut = tt
cut_stops (Err Memory) cut = tt
cut_stops (Err Done) cut = absurd cut
cut_stops (Err (BadLine k)) cut = absurd cut
cut_stops (Err TooLarge) cut = absurd cut
cut_stops (Err ReadFault) cut = absurd cut
