-- Macros, as they are read against the grammar's, and read again.
use Rattle.std.proofs.Common.{◌≡◌, ℕ, zero, suc, ◌+◌, ◌-◌, ◌<◌, ◌≤◌, Bool, true, false, ◌||◌, List, [], ◌∷◌, ◌++◌, length, Option, Some, None, refl, sym, ap, ◌∙◌, arith, inl, inr, ◌⊎◌}
use Rattle.std.specs.Prelude.{nat_eq}
use Rattle.std.proofs.lemmas.List.{length-append}
use Rattle.reading.specs.Reading.{Read, done, bind, on_head, Begins, IsLongest}
use Rattle.reading.specs.Placed.{bind_at}
use Rattle.reading.proofs.Pairs.{same_pair, eq_means, or_left, or_right}
use Rattle.reading.proofs.Laws.{Reads, reads_as, reads_head, head_yes, head_no}
use Rattle.reading.proofs.Combine.{Wrapped, reads_wrapped}
use Rattle.reading.proofs.Placed.{bind_at_is, on_head_at, reads_bind_at}
use Rattle.reading.proofs.Longest.{found, off, longest}
use Rattle.macro_grammar.specs.Tree.{Piece, Plain, Roll}
use Rattle.macro_grammar.specs.Grammar.{IsEscaped, is_bracket, IsRoll, NoPlainFirst, Follows, IsMacro}
use Rattle.macro_grammar.specs.Readers.{roll_at, plain_text, at_end, unless_end, pieces_at, macro_at}
use Rattle.macro_grammar.proofs.Names.{reads_cons}
use Rattle.macro_grammar.proofs.Leaves.{reads_front, front_fate, reads_refused}
use Rattle.macro_grammar.proofs.Calls.{ThenAt, reads_then_at}
use Rattle.macro_grammar.proofs.OptionWords.{reads_roll}
use Rattle.macro_grammar.proofs.StatementsAgain.{head_pass}
use Rattle.macro_grammar.proofs.RollsAgain.{roll_again}

-- ---- plain text

abbrev Run : Bool → List ℕ → List ℕ → Type 0
Run false s m = IsEscaped is_bracket s m
Run true s m = (c : ℕ) × (a : List ℕ) × (x : List ℕ) × (s ≡ c ∷ a) × (is_bracket c ≡ true) × (m ≡ c ∷ x) × IsEscaped is_bracket a x

begins_run : (v : Bool) → Begins (Run v) []
begins_run false = ([], [], refl)
begins_run true = (91 ∷ [], 91 ∷ [], (91, [], [], refl, refl, refl, refl))

run_backslash : (b : ℕ) (f m : List ℕ) → b ≡ 92 → Run true f m → Run false (b ∷ f) m
run_backslash b f m e (c, a, x, s, q, v, h) = rw v (a, inr (q, rw (e, s) refl), h)

run_plain : (b : ℕ) (f m : List ℕ) → is_bracket b ≡ false → Run false f m → Run false (b ∷ f) (b ∷ m)
run_plain b f m q h = (f, inl (q, refl), h)

run_special : (b : ℕ) (f m : List ℕ) → is_bracket b ≡ true → Run false f m → Run true (b ∷ f) (b ∷ m)
run_special b f m q h = (b, f, m, refl, q, refl, h)

no_bracket : (u v w : Bool) → u ≡ false → v ≡ false → w ≡ false → u || (v || w) ≡ false
no_bracket u v w e f g = rw (e, f, g) refl

run_by : (b : ℕ) (s : List ℕ) (u v w : Bool) → nat_eq 91 b ≡ u → nat_eq 93 b ≡ v → nat_eq 92 b ≡ w → Reads (plain_text true) (Run true) s → Reads (plain_text false) (Run false) s → Reads (plain_text false) (Run false) (b ∷ s)
run_by b s true v w e f g behind plain = record { outcome = Some []; rest = b ∷ s; front = []; is = rw e refl; split = refl; one = λ c z z' k. let same : b ≡ c = cc in let t : nat_eq 91 c ≡ true = rw (← same) e in rw t refl; fate = refl }
run_by b s false true w e f g behind plain = reads_refused (plain_text false) (Run false) b s (λ s2. rw (e, f) refl) (begins_run false)
run_by b s false false true e f g behind plain = reads_front (plain_text true) (plain_text false) (Run true) (Run false) b s (λ s2. rw (e, f, g) refl) (front_fate (Run true) (Run false) b (λ h m k. run_backslash b h m (eq_means 92 b g) k)) behind
run_by b s false false false e f g behind plain = reads_cons is_bracket (plain_text false) (plain_text false) (Run false) (Run false) b s (λ s2. rw (e, f, g) refl) (λ h m k. run_plain b h m (no_bracket (nat_eq 91 b) (nat_eq 93 b) (nat_eq 92 b) e f g) k) plain

behind_by : (b : ℕ) (s : List ℕ) (v : Bool) → is_bracket b ≡ v → Reads (plain_text false) (Run false) s → Reads (plain_text true) (Run true) (b ∷ s)
behind_by b s true e plain = reads_cons is_bracket (plain_text false) (plain_text true) (Run false) (Run true) b s (λ s2. rw e refl) (λ h m k. run_special b h m e k) plain
behind_by b s false e plain = reads_refused (plain_text true) (Run true) b s (λ s2. rw e refl) (begins_run true)

reads_text : (v : Bool) (s : List ℕ) → Reads (plain_text v) (Run v) s
reads_text false [] = record { outcome = Some []; rest = []; front = []; is = refl; split = refl; one = λ c z z' k. absurd cc; fate = refl }
reads_text true [] = record { outcome = None; rest = []; front = []; is = refl; split = refl; one = λ c z z' k. absurd cc; fate = begins_run true }
reads_text false (b ∷ s) = run_by b s (nat_eq 91 b) (nat_eq 93 b) (nat_eq 92 b) refl refl refl (reads_text true s) (reads_text false s)
reads_text true (b ∷ s) = behind_by b s (is_bracket b) refl (reads_text false s)

-- a run that isn't empty
abbrev FullRun : List ℕ → List ℕ → Type 0
FullRun s [] = ⊥
FullRun s (c ∷ m) = IsEscaped is_bracket s (c ∷ m)

begins_full : Begins FullRun []
begins_full = (97 ∷ [], 97 ∷ [], ([], inl (refl, refl), refl))

full_backslash : (b : ℕ) (f m : List ℕ) → b ≡ 92 → Run true f m → FullRun (b ∷ f) m
full_backslash b f m e (c, a, x, s, q, v, h) = rw v (a, inr (q, rw (e, s) refl), h)

full_by : (b : ℕ) (s : List ℕ) (v w : Bool) → nat_eq 91 b ≡ false → nat_eq 93 b ≡ v → nat_eq 92 b ≡ w → Reads (plain_text false) FullRun (b ∷ s)
full_by b s true w e f g = reads_refused (plain_text false) FullRun b s (λ s2. rw (e, f) refl) begins_full
full_by b s false true e f g = reads_front (plain_text true) (plain_text false) (Run true) FullRun b s (λ s2. rw (e, f, g) refl) (front_fate (Run true) FullRun b (λ h m k. full_backslash b h m (eq_means 92 b g) k)) (reads_text true s)
full_by b s false false e f g = reads_cons is_bracket (plain_text false) (plain_text false) (Run false) FullRun b s (λ s2. rw (e, f, g) refl) (λ h m k. run_plain b h m (no_bracket (nat_eq 91 b) (nat_eq 93 b) (nat_eq 92 b) e f g) k) (reads_text false s)

reads_full : (b : ℕ) (s : List ℕ) → nat_eq 91 b ≡ false → Reads (plain_text false) FullRun (b ∷ s)
reads_full b s e = full_by b s (nat_eq 93 b) (nat_eq 92 b) e refl refl

-- ---- pieces

unless_cons : {A : Type 0} (x : A) (p : Read A) (f : List ℕ) (c : ℕ) (z : List ℕ) → unless_end x p (f ++ (c ∷ z)) ≡ p (f ++ (c ∷ z))
unless_cons x p [] c z = refl
unless_cons x p (b ∷ f) c z = refl

unless_is : {A : Type 0} (x : A) (p : Read A) (s : List ℕ) (c : ℕ) (z : List ℕ) → s ≡ c ∷ z → unless_end x p s ≡ p s
unless_is x p [] c z e = absurd cc
unless_is x p (b ∷ s) c z e = refl

reads_unless : {A : Type 0} (x : A) (p : Read A) (G : List ℕ → A → Type 0) (b : ℕ) (s : List ℕ) → Reads p G (b ∷ s) → Reads (unless_end x p) G (b ∷ s)
reads_unless x p G b s r = record { outcome = r.outcome; rest = r.rest; front = r.front; is = r.is; split = r.split; one = λ c z z' h. unless_cons x p r.front c z' ∙ r.one c z z' h; fate = r.fate }

module _ (depth room : ℕ) where
  abbrev RollFirst : ℕ → List ℕ → List Piece → Type 0
  RollFirst at = ThenAt (IsRoll (suc depth)) (λ at2 p. Wrapped (λ ps. p ∷ ps) (IsMacro (suc depth) at2)) at

  follows_roll : (at : ℕ) (s : List ℕ) (p : Piece) (ps : List Piece) → IsRoll (suc depth) at s p → Follows p ps
  follows_roll at s (Plain q m) ps h = absurd h
  follows_roll at s (Roll q o x y) ps h = tt

  roll_first : (at : ℕ) (s : List ℕ) (ps : List Piece) → RollFirst at s ps → IsMacro (suc depth) at s ps
  roll_first at s ps (a, b, p, e, g, (qs, h, v)) = rw v (a, b, e, inr g, follows_roll at a p qs g, h)

  -- a run of plain text, and then the end or a roll
  abbrev AfterRun : ℕ → ℕ → List ℕ → List ℕ → List Piece → Type 0
  AfterRun at at2 m s ps = ((s ≡ []) × (ps ≡ Plain at m ∷ [])) ⊎ ThenAt (IsRoll (suc depth)) (λ at3 p. Wrapped (λ qs. Plain at m ∷ (p ∷ qs)) (IsMacro (suc depth) at3)) at2 s ps

  no_plain : (at : ℕ) (s : List ℕ) (p : Piece) (ps : List Piece) → IsRoll (suc depth) at s p → NoPlainFirst (p ∷ ps)
  no_plain at s (Plain q m) ps h = absurd h
  no_plain at s (Roll q o x y) ps h = tt

  run_then : (at : ℕ) (a s m : List ℕ) (ps : List Piece) → FullRun a m → AfterRun at (at + length a) m s ps → IsMacro (suc depth) at (a ++ s) ps
  run_then at a s [] ps h after = absurd h
  run_then at a s (c ∷ m) ps h (inl (e, v)) = rw v (a, s, refl, inl (refl, h), tt, e)
  run_then at a s (c ∷ m) ps h (inr (b, d, p, e, g, (qs, k, v))) = rw v (a, s, refl, inl (refl, h), no_plain (at + length a) b p qs g, (b, d, e, inr g, follows_roll (at + length a) b p qs g, k))

  some_macro : (at : ℕ) → (b : List ℕ) × (ps : List Piece) × IsMacro (suc depth) at b ps
  some_macro at = ([], [], refl)

  reads_end : (at at2 : ℕ) (m s : List ℕ) → Reads (at_end (Plain at m ∷ [])) (AfterRun at at2 m) s
  reads_end at at2 m [] = record { outcome = Some (Plain at m ∷ []); rest = []; front = []; is = refl; split = refl; one = λ b z z' e. absurd cc; fate = inl (refl, refl) }
  reads_end at at2 m (b ∷ s) = record { outcome = None; rest = b ∷ s; front = []; is = refl; split = refl; one = λ c z z' e. refl; fate = ([], Plain at m ∷ [], inl (refl, refl)) }

  reads_no_more : (at : ℕ) (s : List ℕ) → Reads (pieces_at depth room zero at) (IsMacro (suc depth) at) s
  reads_no_more at s = record { outcome = None; rest = s; front = []; is = refl; split = refl; one = λ b z z' e. refl; fate = ([], [], refl) }

  reads_rolls : (turns : ℕ) (f : Piece → List Piece → List Piece) (at : ℕ) (s : List ℕ) → ((at2 : ℕ) (r : List ℕ) → Reads (pieces_at depth room turns at2) (IsMacro (suc depth) at2) r)
      → Reads (bind_at at (roll_at depth room) (λ at2 p. bind (pieces_at depth room turns at2) (λ ps. done (f p ps)))) (ThenAt (IsRoll (suc depth)) (λ at2 p. Wrapped (f p) (IsMacro (suc depth) at2)) at) s
  reads_rolls turns f at s more = reads_then_at at (roll_at depth room) (λ at2 p. bind (pieces_at depth room turns at2) (λ ps. done (f p ps))) (IsRoll (suc depth)) (λ at2 p. Wrapped (f p) (IsMacro (suc depth) at2)) s
      (λ at2 p. ([], f p [], ([], refl, refl))) (reads_roll depth room at s) (λ at2 p r. reads_wrapped (f p) (pieces_at depth room turns at2) (IsMacro (suc depth) at2) r (more at2 r))

  abbrev after_run : ℕ → ℕ → ℕ → List ℕ → Read (List Piece)
  after_run turns at at2 m = on_head (nat_eq 91) (bind_at at2 (roll_at depth room) (λ at3 p. bind (pieces_at depth room turns at3) (λ ps. done (Plain at m ∷ (p ∷ ps))))) (at_end (Plain at m ∷ []))

  reads_after_run : (turns at at2 : ℕ) (m s : List ℕ) → ((at3 : ℕ) (r : List ℕ) → Reads (pieces_at depth room turns at3) (IsMacro (suc depth) at3) r) → Reads (after_run turns at at2 m) (AfterRun at at2 m) s
  reads_after_run turns at at2 m s more = reads_head (nat_eq 91) (bind_at at2 (roll_at depth room) (λ at3 p. bind (pieces_at depth room turns at3) (λ ps. done (Plain at m ∷ (p ∷ ps))))) (at_end (Plain at m ∷ [])) (AfterRun at at2 m) s
      (λ b t e. reads_as (bind_at at2 (roll_at depth room) (λ at3 p. bind (pieces_at depth room turns at3) (λ ps. done (Plain at m ∷ (p ∷ ps))))) (ThenAt (IsRoll (suc depth)) (λ at3 p. Wrapped (λ qs. Plain at m ∷ (p ∷ qs)) (IsMacro (suc depth) at3)) at2) (AfterRun at at2 m) (b ∷ t) (λ f x h. inr h) (reads_rolls turns (λ p ps. Plain at m ∷ (p ∷ ps)) at2 (b ∷ t) more))
      (λ t. reads_end at at2 m t)

  reads_run : (turns at b : ℕ) (s : List ℕ) → nat_eq 91 b ≡ false → ((at3 : ℕ) (r : List ℕ) → Reads (pieces_at depth room turns at3) (IsMacro (suc depth) at3) r) → Reads (bind_at at (λ _. plain_text false) (λ at2 m. after_run turns at at2 m)) (IsMacro (suc depth) at) (b ∷ s)
  reads_run turns at b s e more = reads_bind_at at (λ _. plain_text false) (λ at2 m. after_run turns at at2 m) (λ _. FullRun) (AfterRun at) (IsMacro (suc depth))
      (record { then = λ a z m ps g h. run_then at a z m ps g h; ends = λ a m g. ([], Plain at m ∷ [], inl (refl, refl)) }) (b ∷ s) (reads_full b s e) (λ at2 m r. reads_after_run turns at at2 m r more)

  pieces_by : (turns at b : ℕ) (s : List ℕ) (v : Bool) → nat_eq 91 b ≡ v → ((at3 : ℕ) (r : List ℕ) → Reads (pieces_at depth room turns at3) (IsMacro (suc depth) at3) r) → Reads (pieces_at depth room (suc turns) at) (IsMacro (suc depth) at) (b ∷ s)
  pieces_by turns at b s true e more = head_yes (nat_eq 91) (bind_at at (roll_at depth room) (λ at2 p. bind (pieces_at depth room turns at2) (λ ps. done (p ∷ ps)))) (unless_end [] (bind_at at (λ _. plain_text false) (λ at2 m. after_run turns at at2 m))) (IsMacro (suc depth) at) b s e
      (reads_as (bind_at at (roll_at depth room) (λ at2 p. bind (pieces_at depth room turns at2) (λ ps. done (p ∷ ps)))) (RollFirst at) (IsMacro (suc depth) at) (b ∷ s) (roll_first at) (reads_rolls turns (λ p ps. p ∷ ps) at (b ∷ s) more))
  pieces_by turns at b s false e more = head_no (nat_eq 91) (bind_at at (roll_at depth room) (λ at2 p. bind (pieces_at depth room turns at2) (λ ps. done (p ∷ ps)))) (unless_end [] (bind_at at (λ _. plain_text false) (λ at2 m. after_run turns at at2 m))) (IsMacro (suc depth) at) b s e
      (reads_unless [] (bind_at at (λ _. plain_text false) (λ at2 m. after_run turns at at2 m)) (IsMacro (suc depth) at) b s (reads_run turns at b s e more))

  pub reads_pieces : (turns at : ℕ) (s : List ℕ) → Reads (pieces_at depth room turns at) (IsMacro (suc depth) at) s
  reads_pieces zero at s = reads_no_more at s
  reads_pieces (suc turns) at [] = record { outcome = Some []; rest = []; front = []; is = refl; split = refl; one = λ c z z' k. absurd cc; fate = refl }
  reads_pieces (suc turns) at (b ∷ s) = pieces_by turns at b s (nat_eq 91 b) refl (reads_pieces turns)

-- ---- read again

-- what may follow a run of plain text
abbrev Stops : List ℕ → Type 0
Stops [] = Unit {0}
Stops (b ∷ s) = b ≡ 91

text_again : (a b m : List ℕ) → IsEscaped is_bracket a m → Stops b → plain_text false (a ++ b) ≡ (Some m, b)
text_again a [] [] h stop = rw h refl
text_again a (c ∷ b) [] h stop = rw (h, stop) refl
text_again a b (c ∷ m) (x, inl (q, e), h) stop =
    let k = or_left (nat_eq 91 c) _ q in let l = or_left (nat_eq 93 c) _ (or_right (nat_eq 91 c) _ q) in let n = or_right (nat_eq 93 c) _ (or_right (nat_eq 91 c) _ q) in
    let rest = text_again x b m h stop in
    rw (e, k, l, n, rest) refl
text_again a b (c ∷ m) (x, inr (q, e), h) stop = let rest = text_again x b m h stop in rw (e, q, rest) refl

run_start : (a m : List ℕ) (c : ℕ) → IsEscaped is_bracket a (c ∷ m) → (b : ℕ) × (w : List ℕ) × (a ≡ b ∷ w) × (nat_eq 91 b ≡ false)
run_start a m c (x, inl (q, e), h) = (c, x, e, or_left (nat_eq 91 c) _ q)
run_start a m c (x, inr (q, e), h) = (92, c ∷ x, e, refl)

module _ (depth room : ℕ) where
  roll_start : (at : ℕ) (s : List ℕ) (p : Piece) → IsRoll (suc depth) at s p → (w : List ℕ) × (s ≡ 91 ∷ w)
  roll_start at s (Plain q m) h = absurd h
  roll_start at s (Roll q o x None) (pl, a, b, e, g, h) = (a ++ (58 ∷ (b ++ (93 ∷ []))), e)
  roll_start at s (Roll q o x (Some y)) (i, pl, a, b, c, e, g, h, k) = (a ++ (58 ∷ (b ++ (59 ∷ (c ++ (93 ∷ []))))), e)

  -- a roll and the pieces behind it
  rolls_again : (turns : ℕ) (f : Piece → List Piece → List Piece) (at : ℕ) (a b : List ℕ) (p : Piece) (ps : List Piece) → IsRoll (suc depth) at a p → length a < room → pieces_at depth room turns (at + length a) b ≡ (Some ps, [])
      → bind_at at (roll_at depth room) (λ at2 q. bind (pieces_at depth room turns at2) (λ qs. done (f q qs))) (a ++ b) ≡ (Some (f p ps), [])
  rolls_again turns f at a b p ps g lt more =
      bind_at_is at (roll_at depth room) (λ at2 q. bind (pieces_at depth room turns at2) (λ qs. done (f q qs))) (a ++ b) a b p (roll_again depth room at a b p g lt) refl
      ∙ rw more refl

  roll_longer : (at : ℕ) (s : List ℕ) (p : Piece) → IsRoll (suc depth) at s p → 1 ≤ length s
  roll_longer at s p h = let k = roll_start at s p h in let len = ap length k.1 in omega arith

  -- a run of plain text, and what is read behind it
  run_again : (turns at : ℕ) (a b m : List ℕ) (c : ℕ) (w : List ℕ) → a ≡ c ∷ w → nat_eq 91 c ≡ false → IsEscaped is_bracket a m → Stops b → pieces_at depth room (suc turns) at (a ++ b) ≡ after_run depth room turns at (at + length a) m b
  run_again turns at a b m c w head other g stop =
      let p : a ++ b ≡ c ∷ (w ++ b) = ap (λ (z : List ℕ). z ++ b) head in
      head_pass (nat_eq 91) (bind_at at (roll_at depth room) (λ at2 q. bind (pieces_at depth room turns at2) (λ qs. done (q ∷ qs)))) (unless_end [] (bind_at at (λ _. plain_text false) (λ at2 n. after_run depth room turns at at2 n))) (a ++ b) (rw p other)
      ∙ (unless_is [] (bind_at at (λ _. plain_text false) (λ at2 n. after_run depth room turns at at2 n)) (a ++ b) c (w ++ b) p
      ∙ bind_at_is at (λ _. plain_text false) (λ at2 n. after_run depth room turns at at2 n) (a ++ b) a b m (text_again a b m g stop) refl)

  pub pieces_again : (turns at : ℕ) (s : List ℕ) (ps : List Piece) → IsMacro (suc depth) at s ps → length s < turns → length s < room → pieces_at depth room turns at s ≡ (Some ps, [])
  pieces_again zero at s ps h lt small = absurd (omega arith)
  pieces_again (suc turns) at s [] h lt small = rw h refl
  pieces_again (suc turns) at s (p ∷ ps) (a, b, e, inr g, f, h) lt small =
      let len : length s ≡ length a + length b = ap length e ∙ length-append a b in
      let more1 = roll_longer at a p g in
      let more = pieces_again turns (at + length a) b ps h (omega arith) (omega arith) in
      let k = rolls_again turns (λ q qs. q ∷ qs) at a b p ps g (omega arith) more in
      let w = roll_start at a p g in
      let head : a ++ b ≡ 91 ∷ (w.0 ++ b) = ap (λ (z : List ℕ). z ++ b) w.1 in
      ap (λ (z : List ℕ). pieces_at depth room (suc turns) at z) e
      ∙ on_head_at (nat_eq 91) (bind_at at (roll_at depth room) (λ at2 q. bind (pieces_at depth room turns at2) (λ qs. done (q ∷ qs)))) (unless_end [] (bind_at at (λ _. plain_text false) (λ at2 m. after_run depth room turns at at2 m))) (a ++ b) 91 (w.0 ++ b) head refl k
  pieces_again (suc turns) at s (Roll q o x y ∷ ps) (a, b, e, inl g, f, h) lt small = absurd g
  pieces_again (suc turns) at s (Plain q [] ∷ ps) (a, b, e, inl g, f, h) lt small = absurd g
  pieces_again (suc turns) at s (Plain q (c ∷ m) ∷ []) (a, b, e, inl (pl, g), f, h) lt small =
      let k = run_start a m c g in
      let whole : s ≡ a ++ [] = rw h at e in
      rw pl (ap (λ (z : List ℕ). pieces_at depth room (suc turns) at z) whole ∙ run_again turns at a [] (c ∷ m) k.0 k.1 k.2 k.3 g tt)
  pieces_again (suc turns) at s (Plain q (c ∷ m) ∷ (Plain q2 m2 ∷ ps)) (a, b, e, inl (pl, g), f, h) lt small = absurd f
  pieces_again (suc turns) at s (Plain q (c ∷ m) ∷ (Roll q2 o x y ∷ ps)) (a, b, e, inl (pl, g), f, (a2, b2, e2, inl bad, f2, h2)) lt small = absurd bad
  pieces_again (suc turns) at s (Plain q (c ∷ m) ∷ (Roll q2 o x y ∷ ps)) (a, b, e, inl (pl, g), f, (a2, b2, e2, inr roll, f2, h2)) lt small =
      let k = run_start a m c g in
      let w = roll_start (at + length a) a2 (Roll q2 o x y) roll in
      let head : a2 ++ b2 ≡ 91 ∷ (w.0 ++ b2) = ap (λ (z : List ℕ). z ++ b2) w.1 in
      let whole : s ≡ a ++ (a2 ++ b2) = e ∙ ap (λ (z : List ℕ). a ++ z) e2 in
      let len : length s ≡ length a + (length a2 + length b2) = ap length whole ∙ (length-append a (a2 ++ b2) ∙ ap (λ (n : ℕ). length a + n) (length-append a2 b2)) in
      let more1 = roll_longer (at + length a) a2 (Roll q2 o x y) roll in
      let more = pieces_again turns ((at + length a) + length a2) b2 ps h2 (omega arith) (omega arith) in
      let r = rolls_again turns (λ p qs. Plain at (c ∷ m) ∷ (p ∷ qs)) (at + length a) a2 b2 (Roll q2 o x y) ps roll (omega arith) more in
      let stop : Stops (a2 ++ b2) = rw head refl in
      let last = on_head_at (nat_eq 91) (bind_at (at + length a) (roll_at depth room) (λ at3 p. bind (pieces_at depth room turns at3) (λ qs. done (Plain at (c ∷ m) ∷ (p ∷ qs))))) (at_end (Plain at (c ∷ m) ∷ [])) (a2 ++ b2) 91 (w.0 ++ b2) head refl r in
      rw pl (ap (λ (z : List ℕ). pieces_at depth room (suc turns) at z) whole ∙ (run_again turns at a (a2 ++ b2) (c ∷ m) k.0 k.1 k.2 k.3 g stop ∙ last))

-- ---- whole macros

module _ (depth : ℕ) where
  pub reads_macro : (turns : ℕ) (s : List ℕ) → Reads (macro_at depth turns) (IsMacro (suc depth) 0) s
  unfolding macro_at
  reads_macro turns s = reads_pieces depth turns turns 0 s

  pub macro_again : (turns : ℕ) (s : List ℕ) (ps : List Piece) → IsMacro (suc depth) 0 s ps → length s < turns → macro_at depth turns s ≡ (Some ps, [])
  unfolding macro_at
  macro_again turns s ps h lt = pieces_again depth turns turns 0 s ps h lt lt

  -- what is read of a whole text is what it spells
  pub macro_found : (s : List ℕ) (ps : List Piece) (turns : ℕ) → macro_at depth turns s ≡ (Some ps, []) → IsMacro (suc depth) 0 s ps
  macro_found = found (macro_at depth) (IsMacro (suc depth) 0) reads_macro macro_again

  -- what isn't read spells nothing
  pub macro_off : (s r : List ℕ) → ((turns : ℕ) → length s < turns → macro_at depth turns s ≡ (None, r)) → (ps : List Piece) → IsMacro (suc depth) 0 s ps → ⊥
  macro_off = off (macro_at depth) (IsMacro (suc depth) 0) reads_macro macro_again

  -- and fails at the end of the longest front that begins a macro
  pub macro_longest : (s r : List ℕ) → ((turns : ℕ) → length s < turns → macro_at depth turns s ≡ (None, r)) → (length r ≤ length s) × IsLongest (IsMacro (suc depth) 0) s (length s - length r)
  macro_longest = longest (macro_at depth) (IsMacro (suc depth) 0) reads_macro macro_again

  same_some : (a b : List Piece) → ◌≡◌ {A = Option (List Piece)} (Some a) (Some b) → a ≡ b
  same_some a b e = cc

  -- a text spells one list of pieces at most
  pub one_macro : (s : List ℕ) (a b : List Piece) → IsMacro (suc depth) 0 s a → IsMacro (suc depth) 0 s b → a ≡ b
  one_macro s a b g h =
      let n = suc (length s) in
      same_some a b (same_pair (Some a) (Some b) [] [] (sym (macro_again n s a g (omega arith)) ∙ macro_again n s b h (omega arith))).0
