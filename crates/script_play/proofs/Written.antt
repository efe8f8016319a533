-- A player's lines in what was written are those that it is sent, or the first of them.
use Rattle.std.proofs.Common.{◌≡◌, ℕ, ◌≤◌, Bool, true, false, cond, eqb, List, [], ◌∷◌, ◌++◌, Some, None, refl, sym, ◌∙◌, ap, subst, append_assoc, ◌⊎◌, inl, inr}
use Rattle.std.specs.Prelude.{Option, unwrap_or}
use Rattle.std.specs.List.{filter_map, cons_option}
use Rattle.std.proofs.lemmas.List.{append-nil}
use Rattle.std.proofs.lemmas.List.Elements.{filter_map-append}
use Rattle.line_io.specs.Lines.{lines_of, onto_first}
use Rattle.line_io.proofs.LinesLemmas.{lines_of-nil}
use Rattle.campaign_law.specs.declared.entry.Entry.{Entry}
use Rattle.campaign_law.specs.World.{World, step, replay, sent, lines_of as entry_lines}
use Rattle.campaign_law.specs.Player.{opening, trace, machine}
use Rattle.campaign_law.specs.Law.{Course, IsOpening, world_of, bytes_of}
use Rattle.campaign_law.proofs.Simulation.{sent_is_machine}
use Rattle.script_play.specs.declared.run.Played.{Played}
use Rattle.script_play.specs.declared.run.Played.TheVariants.{Done, ReadFault, WriteFault, BadLine, TooLarge, Memory}
use Rattle.script_play.specs.Tagged.{seat_tag, tagged, behind, lines_behind, IsWholeLines}
use Rattle.script_play.specs.Played.{IsPrefix, GoesOn, entries_since, EndsWithin, AreWrittenOf, IsPartSent, HasWritten, Writes}
use Rattle.script_play.proofs.Fronts.{prefix_part, prefix_behind}
use Rattle.script_play.proofs.Behind.{sent_behind}

-- ---- the lines of a front of a text

line_more : (byte : ℕ) (bytes : List ℕ) (ends : Bool) → eqb byte 10 ≡ ends → lines_of (byte ∷ bytes) ≡ cond ends ([] ∷ lines_of bytes) (onto_first byte (lines_of bytes))
unfolding lines_of
line_more byte bytes ends h = ap (λ b. cond b ([] ∷ lines_of bytes) (onto_first byte (lines_of bytes))) h

-- the first of them, or these and a front of the next
abbrev MayEndWithin : (lines whole : List (List ℕ)) → Type 0
MayEndWithin lines whole = IsPrefix lines whole ⊎ EndsWithin lines whole

line_before : (line : List ℕ) (lines whole : List (List ℕ)) → MayEndWithin lines whole → MayEndWithin (line ∷ lines) (line ∷ whole)
line_before line lines whole (inl p) = inl (prefix_behind (line ∷ []) p)
line_before line lines whole (inr p) = inr (record { first = line ∷ p.first; front = p.front; next = p.next; rest = p.rest; lines_are = ap (λ ls. line ∷ ls) p.lines_are; whole_is = ap (λ ls. line ∷ ls) p.whole_is; part = p.part })

byte_alone : (byte : ℕ) (whole : List (List ℕ)) → MayEndWithin ((byte ∷ []) ∷ []) (onto_first byte whole)
byte_alone byte [] = inl (prefix_part ((byte ∷ []) ∷ []) [])
byte_alone byte (line ∷ whole) = inr (record { first = []; front = byte ∷ []; next = byte ∷ line; rest = whole; lines_are = refl; whole_is = refl; part = prefix_part (byte ∷ []) line })

byte_onto : (byte : ℕ) (lines rest : List (List ℕ)) → MayEndWithin (onto_first byte lines) (onto_first byte (lines ++ rest))
byte_onto byte [] rest = byte_alone byte rest
byte_onto byte (line ∷ lines) rest = inl (prefix_part ((byte ∷ line) ∷ lines) rest)

byte_within : (byte : ℕ) (first : List (List ℕ)) (front next : List ℕ) (rest : List (List ℕ)) → IsPrefix front next → MayEndWithin (onto_first byte (first ++ front ∷ [])) (onto_first byte (first ++ next ∷ rest))
byte_within byte [] front next rest p = inr (record { first = []; front = byte ∷ front; next = byte ∷ next; rest = rest; lines_are = refl; whole_is = refl; part = prefix_behind (byte ∷ []) p })
byte_within byte (line ∷ first) front next rest p = inr (record { first = (byte ∷ line) ∷ first; front = front; next = next; rest = rest; lines_are = refl; whole_is = refl; part = p })

byte_before : (byte : ℕ) (lines whole : List (List ℕ)) → MayEndWithin lines whole → MayEndWithin (onto_first byte lines) (onto_first byte whole)
byte_before byte lines whole (inl p) = subst (λ ls. MayEndWithin (onto_first byte lines) (onto_first byte ls)) (sym p.is) (byte_onto byte lines p.rest)
byte_before byte lines whole (inr p) =
    subst (λ ls. MayEndWithin (onto_first byte ls) (onto_first byte whole)) (sym p.lines_are)
    (subst (λ ls. MayEndWithin (onto_first byte (p.first ++ p.front ∷ [])) (onto_first byte ls)) (sym p.whole_is) (byte_within byte p.first p.front p.next p.rest p.part))

front_lines : (text rest : List ℕ) → MayEndWithin (lines_of text) (lines_of (text ++ rest))
front_lines [] rest = subst (λ ls. MayEndWithin ls (lines_of rest)) (sym lines_of-nil) (inl (prefix_part [] (lines_of rest)))
front_lines (byte ∷ text) rest = by (eqb byte 10) refl (front_lines text rest)
  where
    by : (ends : Bool) → eqb byte 10 ≡ ends → MayEndWithin (lines_of text) (lines_of (text ++ rest)) → MayEndWithin (lines_of (byte ∷ text)) (lines_of (byte ∷ (text ++ rest)))
    by true h p = subst (λ ls. MayEndWithin ls (lines_of (byte ∷ (text ++ rest)))) (sym (line_more byte text true h)) (subst (MayEndWithin ([] ∷ lines_of text)) (sym (line_more byte (text ++ rest) true h)) (line_before [] (lines_of text) (lines_of (text ++ rest)) p))
    by false h p = subst (λ ls. MayEndWithin ls (lines_of (byte ∷ (text ++ rest)))) (sym (line_more byte text false h)) (subst (MayEndWithin (onto_first byte (lines_of text))) (sym (line_more byte (text ++ rest) false h)) (byte_before byte (lines_of text) (lines_of (text ++ rest)) p))

-- ---- the lines of whole lines and of what comes behind them

-- the lines of a text that ends so
record EndsAs (line : List ℕ) : Type 0 where
  first : List ℕ
  more : List (List ℕ)
  is : (rest : List ℕ) → lines_of (line ++ 10 ∷ rest) ≡ first ∷ (more ++ lines_of rest)

ends_as : (line : List ℕ) → EndsAs line
ends_as [] = record { first = []; more = []; is = λ rest. line_more 10 rest true refl }
ends_as (byte ∷ line) = by (eqb byte 10) refl (ends_as line)
  where
    by : (ends : Bool) → eqb byte 10 ≡ ends → EndsAs line → EndsAs (byte ∷ line)
    by true h x = record { first = []; more = x.first ∷ x.more; is = λ rest. line_more byte (line ++ 10 ∷ rest) true h ∙ ap (λ ls. [] ∷ ls) (x.is rest) }
    by false h x = record { first = byte ∷ x.first; more = x.more; is = λ rest. line_more byte (line ++ 10 ∷ rest) false h ∙ ap (onto_first byte) (x.is rest) }

lines_of-ended : (line rest : List ℕ) → lines_of ((line ++ 10 ∷ []) ++ rest) ≡ lines_of (line ++ 10 ∷ []) ++ lines_of rest
lines_of-ended line rest =
    let x : EndsAs line = ends_as line in
    ap lines_of (append_assoc line (10 ∷ []) rest) ∙ x.is rest
    ∙ ap (λ ls. ls ++ lines_of rest) (sym (x.is [] ∙ ap (λ ls. x.first ∷ (x.more ++ ls)) lines_of-nil ∙ ap (λ ls. x.first ∷ ls) (append-nil x.more)))

lines_of-bytes_of : (lines : List (List ℕ)) (rest : List ℕ) → lines_of (bytes_of lines ++ rest) ≡ lines_of (bytes_of lines) ++ lines_of rest
lines_of-bytes_of [] rest = ap (λ ls. ls ++ lines_of rest) (sym lines_of-nil)
lines_of-bytes_of (line ∷ lines) rest =
    ap lines_of (append_assoc (line ++ 10 ∷ []) (bytes_of lines) rest)
    ∙ lines_of-ended line (bytes_of lines ++ rest)
    ∙ ap (λ ls. lines_of (line ++ 10 ∷ []) ++ ls) (lines_of-bytes_of lines rest)
    ∙ sym (append_assoc (lines_of (line ++ 10 ∷ [])) (lines_of (bytes_of lines)) (lines_of rest))
    ∙ ap (λ ls. ls ++ lines_of rest) (sym (lines_of-ended line (bytes_of lines)))

whole_lines : (text rest : List ℕ) → IsWholeLines text → lines_of (text ++ rest) ≡ lines_of text ++ lines_of rest
whole_lines text rest x = subst (λ t. lines_of (t ++ rest) ≡ lines_of t ++ lines_of rest) (sym x.is) (lines_of-bytes_of x.lines rest)

-- ---- those behind a seat's number

behind_more : (front line more rest : List ℕ) → behind front line ≡ Some rest → behind front (line ++ more) ≡ Some (rest ++ more)
behind_more [] line more rest h = ap (λ (o : Option (List ℕ)). Some (unwrap_or o rest ++ more)) h
behind_more (first ∷ front) [] more rest h = cc
behind_more (first ∷ front) (byte ∷ line) more rest h = by (eqb first byte) h (behind_more front line more rest)
  where
    by : (same : Bool) → cond same (behind front line) None ≡ Some rest → (behind front line ≡ Some rest → behind front (line ++ more) ≡ Some (rest ++ more)) → cond same (behind front (line ++ more)) None ≡ Some (rest ++ more)
    by true h further = further h
    by false h further = cc

kept_prefix : (tag : List ℕ) (lines whole : List (List ℕ)) → IsPrefix lines whole → IsPrefix (filter_map (behind tag) lines) (filter_map (behind tag) whole)
kept_prefix tag lines whole p = record { rest = filter_map (behind tag) p.rest; is = ap (filter_map (behind tag)) p.is ∙ filter_map-append (behind tag) lines p.rest }

kept_within : (tag : List ℕ) (lines whole : List (List ℕ)) (p : EndsWithin lines whole) (own : Option (List ℕ)) → behind tag p.front ≡ own → MayEndWithin (filter_map (behind tag) lines) (filter_map (behind tag) whole)
kept_within tag lines whole p own h = by own h
  where
    some : (own : Option (List ℕ)) → behind tag p.front ≡ own → filter_map (behind tag) lines ≡ filter_map (behind tag) p.first ++ cons_option own []
    some own h = ap (filter_map (behind tag)) p.lines_are ∙ filter_map-append (behind tag) p.first (p.front ∷ []) ∙ ap (λ o. filter_map (behind tag) p.first ++ cons_option o []) h

    all : filter_map (behind tag) whole ≡ filter_map (behind tag) p.first ++ cons_option (behind tag p.next) (filter_map (behind tag) p.rest)
    all = ap (filter_map (behind tag)) p.whole_is ∙ filter_map-append (behind tag) p.first (p.next ∷ p.rest)

    by : (own : Option (List ℕ)) → behind tag p.front ≡ own → MayEndWithin (filter_map (behind tag) lines) (filter_map (behind tag) whole)
    by None h = inl (record {
      rest = cons_option (behind tag p.next) (filter_map (behind tag) p.rest);
      is = all ∙ ap (λ ls. ls ++ cons_option (behind tag p.next) (filter_map (behind tag) p.rest)) (sym (some None h ∙ append-nil (filter_map (behind tag) p.first)));
    })
    by (Some line) h = inr (record {
      first = filter_map (behind tag) p.first;
      front = line;
      next = line ++ p.part.rest;
      rest = filter_map (behind tag) p.rest;
      lines_are = some (Some line) h;
      whole_is = all ∙ ap (λ o. filter_map (behind tag) p.first ++ cons_option o (filter_map (behind tag) p.rest)) (ap (behind tag) p.part.is ∙ behind_more tag p.front p.part.rest line h);
      part = prefix_part line p.part.rest;
    })

kept : (tag : List ℕ) (lines whole : List (List ℕ)) → MayEndWithin lines whole → MayEndWithin (filter_map (behind tag) lines) (filter_map (behind tag) whole)
kept tag lines whole (inl p) = inl (kept_prefix tag lines whole p)
kept tag lines whole (inr p) = kept_within tag lines whole p (behind tag p.front) refl

front_behind : (p : ℕ) (text whole : List ℕ) → IsPrefix text whole → MayEndWithin (lines_behind p text) (lines_behind p whole)
unfolding lines_behind
front_behind p text whole x = subst (λ t. MayEndWithin (filter_map (behind (seat_tag p)) (lines_of text)) (filter_map (behind (seat_tag p)) (lines_of t))) (sym x.is) (kept (seat_tag p) (lines_of text) (lines_of (text ++ x.rest)) (front_lines text x.rest))

whole_behind : (p : ℕ) (text whole : List ℕ) → IsPrefix text whole → IsWholeLines text → IsPrefix (lines_behind p text) (lines_behind p whole)
unfolding lines_behind
whole_behind p text whole x ended = kept_prefix (seat_tag p) (lines_of text) (lines_of whole) (record { rest = lines_of x.rest; is = ap lines_of x.is ∙ whole_lines text x.rest ended })

-- ---- what was written

lines_written : (answer : Played) (w : World) (es : List Entry) (text : List ℕ) (p : ℕ) → p ≤ 32 → IsPartSent answer w es text → AreWrittenOf answer (lines_behind p text) (sent w es p)
lines_written Done w es text p small h = ap (lines_behind p) h ∙ sent_behind w es p small
lines_written (BadLine number) w es text p small h = ap (lines_behind p) h ∙ sent_behind w es p small
lines_written TooLarge w es text p small h = ap (lines_behind p) h ∙ sent_behind w es p small
lines_written ReadFault w es text p small h = ap (lines_behind p) h ∙ sent_behind w es p small
lines_written WriteFault w es text p small h = subst (MayEndWithin (lines_behind p text)) (sent_behind w es p small) (front_behind p text (tagged w es) h.prefix)
lines_written Memory w es text p small h = subst (IsPrefix (lines_behind p text)) (sent_behind w es p small) (whole_behind p text (tagged w es) h.0.prefix h.1)

-- behind lines that were sent before
lines_before : (answer : Played) (before lines printed : List (List ℕ)) → AreWrittenOf answer lines printed → AreWrittenOf answer (before ++ lines) (before ++ printed)
lines_before Done before lines printed h = ap (λ ls. before ++ ls) h
lines_before (BadLine number) before lines printed h = ap (λ ls. before ++ ls) h
lines_before TooLarge before lines printed h = ap (λ ls. before ++ ls) h
lines_before ReadFault before lines printed h = ap (λ ls. before ++ ls) h
lines_before WriteFault before lines printed (inl p) = inl (prefix_behind before p)
lines_before WriteFault before lines printed (inr p) = inr (record {
  first = before ++ p.first;
  front = p.front;
  next = p.next;
  rest = p.rest;
  lines_are = ap (λ ls. before ++ ls) p.lines_are ∙ sym (append_assoc before p.first (p.front ∷ []));
  whole_is = ap (λ ls. before ++ ls) p.whole_is ∙ sym (append_assoc before p.first (p.next ∷ p.rest));
  part = p.part;
})
lines_before Memory before lines printed h = prefix_behind before h

sent-append : (w : World) (xs ys : List Entry) (p : ℕ) → sent w (xs ++ ys) p ≡ sent w xs p ++ sent (replay w xs) ys p
sent-append w [] ys p = refl
sent-append w (x ∷ xs) ys p = ap (λ ls. entry_lines w x p ++ ls) (sent-append (step w x) xs ys p) ∙ sym (append_assoc (entry_lines w x p) (sent (step w x) xs p) (sent (replay (step w x) xs) ys p))

pub writes : (answer : Played) (old new : Course) (before after : Option (List ℕ)) → IsOpening old.origin → GoesOn old new → HasWritten answer (world_of old) (entries_since old new) before after → Writes answer old new before after
writes answer old new before after opens g x = record {
  bytes = x;
  players = λ p player small.
      let printed : sent old.origin old.history p ++ sent (world_of old) (entries_since old new) p ≡ machine (opening new.origin p) (trace new.origin new.history p) =
      sym (sent-append old.origin old.history (entries_since old new) p)
      ∙ (λ i. sent (sym g.origin i) (sym g.history i) p)
      ∙ sent_is_machine new.origin new.history p (subst IsOpening (sym g.origin) opens) player in
      subst (AreWrittenOf answer (sent old.origin old.history p ++ lines_behind p x.text)) printed
      (lines_before answer (sent old.origin old.history p) (lines_behind p x.text) (sent (world_of old) (entries_since old new) p) (lines_written answer (world_of old) (entries_since old new) x.text p small x.part));
}
