-- Fronts of lists, and what parts of a history send.
use Rattle.std.proofs.Common.{◌≡◌, ℕ, ◌+◌, ◌-◌, List, [], ◌∷◌, ◌++◌, length, take, drop, refl, sym, ◌∙◌, ap, subst, append_assoc, arith, length-append}
use Rattle.std.specs.Prelude.{Option}
use Rattle.std.specs.Io.KnownBytes.{append_known}
use Rattle.std.proofs.lemmas.List.{append-nil, take-append-drop}
use Rattle.std.proofs.Math.Seq.{take-append-add}
use Rattle.line_io.proofs.ToldLemmas.{append_known-append, append_known-nil}
use Rattle.campaign_law.specs.declared.entry.Entry.{Entry}
use Rattle.campaign_law.specs.World.{World, step, replay}
use Rattle.script_play.specs.declared.run.Played.{Played}
use Rattle.script_play.specs.declared.run.Played.TheVariants.{Done, ReadFault, WriteFault, BadLine, TooLarge, Memory}
use Rattle.script_play.specs.Script.{Script, after_entries}
use Rattle.script_play.specs.Tagged.{entry_text, tagged, IsWholeLines}
use Rattle.script_play.proofs.WholeLines.{whole_both, tagged_whole}
use Rattle.script_play.specs.Played.{IsPrefix, all_but_last, HasEntered, HasAllButLast, IsPartSent, HasWritten}

-- ---- fronts

pub prefix_all : {A : Type 0} (xs : List A) → IsPrefix xs xs
prefix_all xs = record { rest = []; is = sym (append-nil xs) }

pub prefix_part : {A : Type 0} (xs ys : List A) → IsPrefix xs (xs ++ ys)
prefix_part xs ys = record { rest = ys; is = refl }

pub prefix_behind : {A : Type 0} (xs : List A) {front whole : List A} → IsPrefix front whole → IsPrefix (xs ++ front) (xs ++ whole)
prefix_behind xs p = record { rest = p.rest; is = ap (λ r. xs ++ r) p.is ∙ sym (append_assoc xs _ p.rest) }

pub prefix_before : {A : Type 0} {front whole : List A} (ys : List A) → IsPrefix front whole → IsPrefix front (whole ++ ys)
prefix_before ys p = record { rest = p.rest ++ ys; is = ap (λ r. r ++ ys) p.is ∙ append_assoc _ p.rest ys }

all_but_last-append : {A : Type 0} (xs : List A) (y : A) (ys : List A) → all_but_last (xs ++ y ∷ ys) ≡ xs ++ all_but_last (y ∷ ys)
all_but_last-append xs y ys =
    let n : length (xs ++ y ∷ ys) - 1 ≡ length xs + (length (y ∷ ys) - 1) = omega (arith, length-append xs (y ∷ ys)) in
    ap (λ k. take k (xs ++ y ∷ ys)) n ∙ take-append-add xs (y ∷ ys) (length (y ∷ ys) - 1)

-- ---- parts of a history

pub replay-append : (w : World) (xs ys : List Entry) → replay w (xs ++ ys) ≡ replay (replay w xs) ys
replay-append w [] ys = refl
replay-append w (x ∷ xs) ys = replay-append (step w x) xs ys

pub tagged-append : (w : World) (xs ys : List Entry) → tagged w (xs ++ ys) ≡ tagged w xs ++ tagged (replay w xs) ys
tagged-append w [] ys = refl
tagged-append w (x ∷ xs) ys = ap (λ r. entry_text w x ++ r) (tagged-append (step w x) xs ys) ∙ sym (append_assoc (entry_text w x) (tagged (step w x) xs) (tagged (replay (step w x) xs) ys))

tagged_front : (w : World) (es : List Entry) → IsPrefix (tagged w (all_but_last es)) (tagged w es)
tagged_front w es =
    let front : List Entry = all_but_last es in
    let back : List Entry = drop (length es - 1) es in
    record { rest = tagged (replay w front) back; is = ap (tagged w) (sym (take-append-drop (length es - 1) es)) ∙ tagged-append w front back }

-- ---- what was written

all_but_last_of : (w : World) (es : List Entry) (text : List ℕ) → text ≡ tagged w es → HasAllButLast w es text
all_but_last_of w es text h = subst (HasAllButLast w es) (sym h) (record { prefix = prefix_all (tagged w es); all_but_last = tagged_front w es })

-- all of it
pub all_part : (p : Played) (w : World) (es : List Entry) (text : List ℕ) → text ≡ tagged w es → IsPartSent p w es text
all_part Done w es text h = h
all_part (BadLine number) w es text h = h
all_part TooLarge w es text h = h
all_part ReadFault w es text h = h
all_part WriteFault w es text h = all_but_last_of w es text h
all_part Memory w es text h = (all_but_last_of w es text h, subst IsWholeLines (sym h) (tagged_whole w es))

pub all_written : (p : Played) (w : World) (es : List Entry) (before after : Option (List ℕ)) → HasWritten Done w es before after → HasWritten p w es before after
all_written p w es before after x = record { text = x.text; written = x.written; part = all_part p w es x.text x.part }

pub wrote_nothing : (p : Played) (w : World) (es : List Entry) (before : Option (List ℕ)) → es ≡ [] → HasWritten p w es before before
wrote_nothing p w es before h = record { text = []; written = sym (append_known-nil before); part = all_part p w es [] (ap (tagged w) (sym h)) }

last_behind : (w : World) (xs ys : List Entry) (text : List ℕ) → IsPrefix (tagged (replay w xs) (all_but_last ys)) text → IsPrefix (tagged w (all_but_last (xs ++ ys))) (tagged w xs ++ text)
last_behind w xs [] text p = subst (λ es. IsPrefix (tagged w (all_but_last es)) (tagged w xs ++ text)) (sym (append-nil xs)) (prefix_before text (tagged_front w xs))
last_behind w xs (y ∷ ys) text p =
    let same : tagged w (all_but_last (xs ++ y ∷ ys)) ≡ tagged w xs ++ tagged (replay w xs) (all_but_last (y ∷ ys)) = ap (tagged w) (all_but_last-append xs y ys) ∙ tagged-append w xs (all_but_last (y ∷ ys)) in
    subst (λ t. IsPrefix t (tagged w xs ++ text)) (sym same) (prefix_behind (tagged w xs) p)

most_behind : (w : World) (xs ys : List Entry) (text : List ℕ) → HasAllButLast (replay w xs) ys text → HasAllButLast w (xs ++ ys) (tagged w xs ++ text)
most_behind w xs ys text x = record {
  prefix = subst (λ t. IsPrefix (tagged w xs ++ text) t) (sym (tagged-append w xs ys)) (prefix_behind (tagged w xs) x.prefix);
  all_but_last = last_behind w xs ys text x.all_but_last;
}

part_behind : (p : Played) (w : World) (xs ys : List Entry) (text : List ℕ) → IsPartSent p (replay w xs) ys text → IsPartSent p w (xs ++ ys) (tagged w xs ++ text)
part_behind Done w xs ys text h = ap (λ t. tagged w xs ++ t) h ∙ sym (tagged-append w xs ys)
part_behind (BadLine number) w xs ys text h = ap (λ t. tagged w xs ++ t) h ∙ sym (tagged-append w xs ys)
part_behind TooLarge w xs ys text h = ap (λ t. tagged w xs ++ t) h ∙ sym (tagged-append w xs ys)
part_behind ReadFault w xs ys text h = ap (λ t. tagged w xs ++ t) h ∙ sym (tagged-append w xs ys)
part_behind WriteFault w xs ys text h = most_behind w xs ys text h
part_behind Memory w xs ys text h = (most_behind w xs ys text h.0, whole_both (tagged w xs) text (tagged_whole w xs) h.1)

-- a part that ended so, behind one that was done
pub written_behind : (p : Played) (w : World) (xs ys : List Entry) (before middle after : Option (List ℕ)) → HasWritten Done w xs before middle → HasWritten p (replay w xs) ys middle after → HasWritten p w (xs ++ ys) before after
written_behind p w xs ys before middle after x y = record {
  text = tagged w xs ++ y.text;
  written = y.written ∙ ap (λ m. append_known m y.text) (x.written ∙ ap (append_known before) x.part) ∙ sym (append_known-append before (tagged w xs) y.text);
  part = part_behind p w xs ys y.text y.part;
}

-- ---- what was entered

pub entered_behind : (p : Played) (xs ys : List Entry) (script : Script) → HasEntered p script ys → HasEntered p (after_entries xs script) (xs ++ ys)
entered_behind Done xs ys script h = ap (after_entries xs) h
entered_behind (BadLine number) xs ys script h = ap (after_entries xs) h
entered_behind TooLarge xs ys script h = ap (after_entries xs) h
entered_behind ReadFault xs ys script h = prefix_behind xs h
entered_behind WriteFault xs ys script h = prefix_behind xs h
entered_behind Memory xs ys script h = prefix_behind xs h
