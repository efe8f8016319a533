-- Options and rolls, as they are read against the grammar's.
use Rattle.std.proofs.Common.{◌≡◌, ℕ, suc, ◌+◌, ◌<◌, true, ◌&&◌, List, [], ◌∷◌, ◌++◌, length, Some, None, refl, sym, ap, subst, ◌∙◌, append-nil, arith, inl, inr, ◌⊎◌}
use Rattle.std.specs.Prelude.{nat_eq}
use Rattle.std.proofs.lemmas.Bool.Decides.{nat_tests}
use Rattle.reading.specs.Reading.{Read, done, bind, on_head, item}
use Rattle.reading.specs.Placed.{Grammar, bind_at}
use Rattle.reading.proofs.Pairs.{eq_means}
use Rattle.reading.proofs.Laws.{Reads, Sequence, reads_done, reads_bind, reads_as, reads_item, reads_head, IsItem}
use Rattle.reading.proofs.Combine.{only, IsNothing, Wrapped, reads_wrapped}
use Rattle.reading.proofs.Placed.{bind_at_is, reads_bind_at, Inhabited}
use Rattle.macro_grammar.specs.Tree.{Tree, Address, Receivers, Hidden, Master, Runner, Both, Whisper, Branch, If, Count, Options, Addressed, AddressFirst, BranchFirst, Piece, Roll, FirstOption, ForWhom, OnWhat}
use Rattle.macro_grammar.specs.Grammar.{IsExpr, IsStatement, IsAddressWord, IsBranchWord, BetweenBlanks, IsAddress, IsBranch, AreOptions, has_if, IsRoll}
use Rattle.macro_grammar.specs.Readers.{blanks_at, expr_at, closed, bracketed_at, letter_at, address_word_at, bytes_at, branch_word_at, between_at, is_branch_letter, first_word_at, second_option, alone, options_at, statement_at, roll_end, roll_at}
use Rattle.macro_grammar.proofs.Names.{TheBlanks, reads_blanks}
use Rattle.macro_grammar.proofs.Leaves.{and_left}
use Rattle.macro_grammar.proofs.Calls.{ThenAt, reads_then_at, Argument, reads_argument, reads_closed, some_closed, closed_is, argument_again}
use Rattle.macro_grammar.proofs.Unaries.{BlanksOf, reads_blanks_of, reads_expr, some_expr, expr_again}
use Rattle.macro_grammar.proofs.Assignments.{reads_statement}

-- ---- a byte before a word

pub same_byte : (b : ℕ) → nat_eq b b ≡ true
same_byte b = grind (arith, nat_tests)

abbrev pub ItemThen : {A : Type 0} → ℕ → Grammar A → Grammar A
ItemThen byte G at s y = (b : List ℕ) × (s ≡ byte ∷ b) × G (at + 1) b y

item_joins : {A : Type 0} (byte : ℕ) (G : Grammar A) (at : ℕ) (a s : List ℕ) (c : ℕ) (y : A) → IsItem (nat_eq byte) a c → G (at + length a) s y → ItemThen byte G at (a ++ s) y
item_joins byte G at a s c y g h =
    let front : a ≡ byte ∷ [] = g.1 ∙ ap (λ (w : ℕ). w ∷ []) (eq_means byte c g.0) in
    let one : at + length a ≡ at + 1 = ap (λ (w : List ℕ). at + length w) front in
    (s, rw front refl, subst (λ (n : ℕ). G n s y) one h)

pub reads_item_then : {A : Type 0} (byte : ℕ) (p : ℕ → Read A) (G : Grammar A) → Inhabited G → ((at : ℕ) (s : List ℕ) → Reads (p at) (G at) s) → (at : ℕ) (s : List ℕ) → Reads (bind_at at (λ _. item (nat_eq byte)) (λ at2 _. p at2)) (ItemThen byte G at) s
reads_item_then byte p G some reads at s = reads_bind_at at (λ _. item (nat_eq byte)) (λ at2 _. p at2) (λ _. IsItem (nat_eq byte)) (λ at2 _. G at2) (ItemThen byte G)
    (record { then = λ a b c y g h. item_joins byte G at a b c y g h; ends = λ a c g. some (at + length a) }) s (reads_item (nat_eq byte) (only byte (same_byte byte)) s) (λ at2 c r. reads at2 r)

pub some_item_then : {A : Type 0} (byte : ℕ) (G : Grammar A) → Inhabited G → Inhabited (ItemThen byte G)
some_item_then byte G some at = let w = some (at + 1) in (byte ∷ w.0, w.1, (w.0, refl, w.2))

pub item_then_again : {A : Type 0} (byte : ℕ) (p : ℕ → Read A) (at : ℕ) (z : List ℕ) → bind_at at (λ _. item (nat_eq byte)) (λ at2 _. p at2) (byte ∷ z) ≡ p (at + 1) z
item_then_again byte p at z = bind_at_is at (λ _. item (nat_eq byte)) (λ at2 _. p at2) (byte ∷ z) (byte ∷ []) z byte (rw (same_byte byte) refl) refl

-- one letter
abbrev pub TheLetter : {A : Type 0} → ℕ → A → List ℕ → A → Type 0
TheLetter byte x s y = (s ≡ byte ∷ []) × (y ≡ x)

letter_is : {A : Type 0} (byte : ℕ) (x : A) (s : List ℕ) (y : A) → Wrapped (λ _. x) (IsItem (nat_eq byte)) s y → TheLetter byte x s y
letter_is byte x s y (b, (t, e), v) = let k = eq_means byte b t in (rw (e, k) refl, v)

pub reads_letter : {A : Type 0} (byte : ℕ) (x : A) (s : List ℕ) → Reads (letter_at byte x) (TheLetter byte x) s
reads_letter byte x s = reads_as (letter_at byte x) (Wrapped (λ _. x) (IsItem (nat_eq byte))) (TheLetter byte x) s (letter_is byte x) (reads_wrapped (λ _. x) (item (nat_eq byte)) (IsItem (nat_eq byte)) s (reads_item (nat_eq byte) (only byte (same_byte byte)) s))

-- ---- an expression in brackets

module _ (depth : ℕ) where
  abbrev pub Bracketed : {A : Type 0} → (Tree → A) → Grammar A
  Bracketed mk at s y = (a : List ℕ) × (x : Tree) × (s ≡ 40 ∷ (a ++ (41 ∷ []))) × IsExpr (suc depth) (at + 1) a x × (y ≡ mk x)

  bracket_is : {A : Type 0} (mk : Tree → A) (at : ℕ) (s : List ℕ) (y : A) → Argument (IsExpr (suc depth)) 40 (λ at3 x. Wrapped (λ _. mk x) (IsItem (nat_eq 41))) at s y → Bracketed mk at s y
  bracket_is mk at s y (a, b, x, e, h, last) = let q = closed_is (mk x) y b last in let z = q.0 in (a, x, rw (e, z) refl, h, q.1)

  reads_bracketed : {A : Type 0} (turns : ℕ) (mk : Tree → A) (at : ℕ) (s : List ℕ) → Reads (bracketed_at depth turns mk at) (Bracketed mk at) s
  reads_bracketed turns mk at s = reads_as (bracketed_at depth turns mk at) (Argument (IsExpr (suc depth)) 40 (λ at3 x. Wrapped (λ _. mk x) (IsItem (nat_eq 41))) at) (Bracketed mk at) s (bracket_is mk at)
      (reads_argument (expr_at (suc depth) turns) (IsExpr (suc depth)) 40 at (λ at2 x. closed (mk x)) (λ at3 x. Wrapped (λ _. mk x) (IsItem (nat_eq 41))) s refl (reads_expr (suc depth) turns) (some_expr (suc depth)) (λ at2 x. some_closed (mk x)) (λ at2 x r. reads_closed (mk x) r))

  some_bracketed : {A : Type 0} (mk : Tree → A) → Inhabited (Bracketed mk)
  some_bracketed mk at = let w = some_expr (suc depth) (at + 1) in (40 ∷ (w.0 ++ (41 ∷ [])), mk w.1, (w.0, w.1, refl, w.2, refl))

  pub bracket_again : {A : Type 0} (turns : ℕ) (mk : Tree → A) (at : ℕ) (a z : List ℕ) (x : Tree) → IsExpr (suc depth) (at + 1) a x → length a < turns → bracketed_at depth turns mk at (40 ∷ (a ++ (41 ∷ z))) ≡ (Some (mk x), z)
  bracket_again turns mk at a z x h lt = argument_again (expr_at (suc depth) turns) 40 at (λ at2 u. closed (mk u)) a (41 ∷ z) x refl (expr_again (suc depth) turns (at + 1) a (41 ∷ z) x h refl lt)

  -- ---- words of addresses

  whisper_is : (at : ℕ) (s : List ℕ) (x : Address) → ItemThen 119 (Bracketed (Whisper at)) at s x → IsAddressWord (suc depth) at s x
  whisper_is at s x (b, e, (a, t, e2, h, v)) = let two : (at + 1) + 1 ≡ at + 2 = omega arith in rw v (refl, a, rw (e, e2) refl, rw two at h)

  -- behind a g
  abbrev AfterG : ℕ → List ℕ → Address → Type 0
  AfterG at s x = TheLetter 115 (Both at) s x ⊎ IsNothing (Master at) s x

  after_g : (at : ℕ) (a s : List ℕ) (c : ℕ) (x : Address) → IsItem (nat_eq 103) a c → AfterG at s x → IsAddressWord (suc depth) at (a ++ s) x
  after_g at a s c x (t, e) (inl (f, v)) = let k = eq_means 103 c t in rw (v, e, f, k) (refl, refl)
  after_g at a s c x (t, e) (inr (f, v)) = let k = eq_means 103 c t in rw (v, e, f, k) (refl, refl)

  pub reads_address_word : (turns at : ℕ) (s : List ℕ) → Reads (address_word_at depth turns at) (IsAddressWord (suc depth) at) s
  unfolding address_word_at
  reads_address_word turns at s = reads_head (nat_eq 114) (letter_at 114 (Receivers at)) _ (IsAddressWord (suc depth) at) s
      (λ b t e. reads_as (letter_at 114 (Receivers at)) (TheLetter 114 (Receivers at)) (IsAddressWord (suc depth) at) (b ∷ t) (λ f x h. rw h.1 (refl, h.0)) (reads_letter 114 (Receivers at) (b ∷ t)))
      (λ s2. reads_head (nat_eq 104) (letter_at 104 (Hidden at)) _ (IsAddressWord (suc depth) at) s2
      (λ b t e. reads_as (letter_at 104 (Hidden at)) (TheLetter 104 (Hidden at)) (IsAddressWord (suc depth) at) (b ∷ t) (λ f x h. rw h.1 (refl, h.0)) (reads_letter 104 (Hidden at) (b ∷ t)))
      (λ s3. reads_head (nat_eq 115) (letter_at 115 (Runner at)) _ (IsAddressWord (suc depth) at) s3
      (λ b t e. reads_as (letter_at 115 (Runner at)) (TheLetter 115 (Runner at)) (IsAddressWord (suc depth) at) (b ∷ t) (λ f x h. rw h.1 (refl, h.0)) (reads_letter 115 (Runner at) (b ∷ t)))
      (λ s4. reads_head (nat_eq 103) (bind (item (nat_eq 103)) (λ _. on_head (nat_eq 115) (letter_at 115 (Both at)) (done (Master at)))) _ (IsAddressWord (suc depth) at) s4
      (λ b t e. reads_bind (item (nat_eq 103)) (λ _. on_head (nat_eq 115) (letter_at 115 (Both at)) (done (Master at))) (IsItem (nat_eq 103)) (λ _. AfterG at) (IsAddressWord (suc depth) at)
      (record { then = λ a z c x g h. after_g at a z c x g h; ends = λ a c g. ([], Master at, inr (refl, refl)) }) (b ∷ t) (reads_item (nat_eq 103) (only 103 refl) (b ∷ t))
      (λ c. reads_head (nat_eq 115) (letter_at 115 (Both at)) (done (Master at)) (AfterG at) _
      (λ d u f. reads_as (letter_at 115 (Both at)) (TheLetter 115 (Both at)) (AfterG at) (d ∷ u) (λ g x h. inl h) (reads_letter 115 (Both at) (d ∷ u)))
      (λ u. reads_done (AfterG at) (Master at) u (inr (refl, refl)))))
      (λ s5. reads_as (bind_at at (λ _. item (nat_eq 119)) (λ at2 _. bracketed_at depth turns (Whisper at) at2)) (ItemThen 119 (Bracketed (Whisper at)) at) (IsAddressWord (suc depth) at) s5 (whisper_is at)
      (reads_item_then 119 (bracketed_at depth turns (Whisper at)) (Bracketed (Whisper at)) (some_bracketed (Whisper at)) (reads_bracketed turns (Whisper at)) at s5)))))

  some_address_word : Inhabited (IsAddressWord (suc depth))
  some_address_word at = (114 ∷ [], Receivers at, (refl, refl))

-- ---- a word of so many bytes

abbrev pub TheBytes : List ℕ → List ℕ → List ℕ → Type 0
TheBytes w s x = (s ≡ w) × (x ≡ [])

bytes_joins : (b : ℕ) (w : List ℕ) → Sequence (IsItem (nat_eq b)) (λ _. TheBytes w) (TheBytes (b ∷ w))
bytes_joins b w = record {
  then = λ a s c x g h. let k = eq_means b c g.0 in let e = g.1 in let f = h.0 in (rw (e, f, k) refl, h.1);
  ends = λ a c g. (w, [], (refl, refl));
}

pub reads_bytes : (w s : List ℕ) → Reads (bytes_at w) (TheBytes w) s
reads_bytes [] s = reads_done (TheBytes []) [] s (refl, refl)
reads_bytes (b ∷ w) s = reads_bind (item (nat_eq b)) (λ _. bytes_at w) (IsItem (nat_eq b)) (λ _. TheBytes w) (TheBytes (b ∷ w)) (bytes_joins b w) s (reads_item (nat_eq b) (only b (same_byte b)) s) (λ _. reads_bytes w _)

pub bytes_again : (w z : List ℕ) → bytes_at w (w ++ z) ≡ (Some [], z)
bytes_again [] z = refl
bytes_again (b ∷ w) z = let k = bytes_again w z in rw (same_byte b) k

module _ (depth : ℕ) where
  branch_then : (w : List ℕ) (mk : Tree → Branch) (at : ℕ) (a s x : List ℕ) (y : Branch) → TheBytes w a x → Bracketed depth mk (at + length a) s y
      → (b : List ℕ) × (t : Tree) × (a ++ s ≡ w ++ (40 ∷ (b ++ (41 ∷ [])))) × IsExpr (suc depth) ((at + length w) + 1) b t × (y ≡ mk t)
  branch_then w mk at a s x y (e, v) (b, t, e2, h, f) = (b, t, rw (e, e2) refl, subst (λ (z : List ℕ). IsExpr (suc depth) ((at + length z) + 1) b t) e h, f)

  if_then : (at : ℕ) (a s x : List ℕ) (y : Branch) → TheBytes (105 ∷ (102 ∷ [])) a x → Bracketed depth (If at) (at + length a) s y → IsBranchWord (suc depth) at (a ++ s) y
  if_then at a s x y g h = let k = branch_then (105 ∷ (102 ∷ [])) (If at) at a s x y g h in let three : (at + 2) + 1 ≡ at + 3 = omega arith in rw k.4 (refl, k.0, k.2, rw three at k.3)

  count_then : (at : ℕ) (a s x : List ℕ) (y : Branch) → TheBytes (99 ∷ (111 ∷ (117 ∷ (110 ∷ (116 ∷ []))))) a x → Bracketed depth (Count at) (at + length a) s y → IsBranchWord (suc depth) at (a ++ s) y
  count_then at a s x y g h = let k = branch_then (99 ∷ (111 ∷ (117 ∷ (110 ∷ (116 ∷ []))))) (Count at) at a s x y g h in let six : (at + 5) + 1 ≡ at + 6 = omega arith in rw k.4 (refl, k.0, k.2, rw six at k.3)

  pub reads_branch_word : (turns at : ℕ) (s : List ℕ) → Reads (branch_word_at depth turns at) (IsBranchWord (suc depth) at) s
  unfolding branch_word_at
  reads_branch_word turns at s = reads_head (nat_eq 105) (bind_at at (λ _. bytes_at (105 ∷ (102 ∷ []))) (λ at2 _. bracketed_at depth turns (If at) at2)) _ (IsBranchWord (suc depth) at) s
      (λ b t e. reads_bind_at at (λ _. bytes_at (105 ∷ (102 ∷ []))) (λ at2 _. bracketed_at depth turns (If at) at2) (λ _. TheBytes (105 ∷ (102 ∷ []))) (λ at2 _. Bracketed depth (If at) at2) (λ _. IsBranchWord (suc depth) at)
      (record { then = λ a z x y g h. if_then at a z x y g h; ends = λ a x g. some_bracketed depth (If at) (at + length a) }) (b ∷ t) (reads_bytes (105 ∷ (102 ∷ [])) (b ∷ t)) (λ at2 x r. reads_bracketed depth turns (If at) at2 r))
      (λ s2. reads_bind_at at (λ _. bytes_at (99 ∷ (111 ∷ (117 ∷ (110 ∷ (116 ∷ [])))))) (λ at2 _. bracketed_at depth turns (Count at) at2) (λ _. TheBytes (99 ∷ (111 ∷ (117 ∷ (110 ∷ (116 ∷ [])))))) (λ at2 _. Bracketed depth (Count at) at2) (λ _. IsBranchWord (suc depth) at)
      (record { then = λ a z x y g h. count_then at a z x y g h; ends = λ a x g. some_bracketed depth (Count at) (at + length a) }) s2 (reads_bytes (99 ∷ (111 ∷ (117 ∷ (110 ∷ (116 ∷ []))))) s2) (λ at2 x r. reads_bracketed depth turns (Count at) at2 r))

  some_branch_word : Inhabited (IsBranchWord (suc depth))
  some_branch_word at =
      let w = some_expr (suc depth) (at + 3) in
      (105 ∷ (102 ∷ (40 ∷ (w.0 ++ (41 ∷ [])))), If at w.1, (refl, w.0, refl, w.2))

-- ---- options with blanks

between_then : {A : Type 0} (Word : Grammar A) (at : ℕ) (w s x : List ℕ) (y : A) → TheBlanks w x → (a : List ℕ) × (v : List ℕ) × (u : A) × (s ≡ a ++ v) × Word (at + length w) a u × BlanksOf u v y → BetweenBlanks Word at (w ++ s) y
between_then Word at w s x y (bl, same) (a, v, u, e, h, (blv, f)) = (w, a, v, ap (λ (z : List ℕ). w ++ z) e, bl, blv, rw f h)

-- a word and blanks
abbrev WordBlanks : {A : Type 0} → Grammar A → ℕ → List ℕ → A → Type 0
WordBlanks {A} Word at s y = (a : List ℕ) × (v : List ℕ) × (u : A) × (s ≡ a ++ v) × Word at a u × BlanksOf u v y

pub reads_between : {A : Type 0} (word : ℕ → Read A) (Word : Grammar A) → Inhabited Word → ((at : ℕ) (s : List ℕ) → Reads (word at) (Word at) s) → (at : ℕ) (s : List ℕ) → Reads (between_at word at) (BetweenBlanks Word at) s
reads_between word Word some reads at s = reads_bind_at at (λ _. blanks_at) (λ at2 _. bind (word at2) (λ x. bind blanks_at (λ _. done x))) (λ _. TheBlanks) (λ at2 _. WordBlanks Word at2) (BetweenBlanks Word)
    (record { then = λ w z x y g h. between_then Word at w z x y g h; ends = λ w x g. let k = some (at + length w) in (k.0, k.1, (k.0, [], k.1, sym (append-nil k.0), k.2, (tt, refl))) }) s
    (reads_blanks s)
    (λ at2 x r. reads_bind (word at2) (λ y. bind blanks_at (λ _. done y)) (Word at2) BlanksOf (WordBlanks Word at2)
    (record { then = λ a b y z g h. (a, b, y, refl, g, h); ends = λ a y g. ([], y, (tt, refl)) }) r (reads at2 r) (λ y. reads_blanks_of y _))

pub some_between : {A : Type 0} (Word : Grammar A) → Inhabited Word → Inhabited (BetweenBlanks Word)
some_between Word some at = let k = some (at + 0) in (k.0, k.1, ([], k.0, [], sym (append-nil k.0), tt, tt, k.2))

module _ (depth : ℕ) where
  abbrev pub FirstWord : Grammar FirstOption
  FirstWord at s (ForWhom x) = IsAddressWord (suc depth) at s x
  FirstWord at s (OnWhat y) = IsBranchWord (suc depth) at s y

  what_is : (at : ℕ) (s : List ℕ) (o : FirstOption) → Wrapped OnWhat (IsBranchWord (suc depth) at) s o → FirstWord at s o
  what_is at s o (y, h, v) = rw v h

  whom_is : (at : ℕ) (s : List ℕ) (o : FirstOption) → Wrapped ForWhom (IsAddressWord (suc depth) at) s o → FirstWord at s o
  whom_is at s o (x, h, v) = rw v h

  reads_first_word : (turns at : ℕ) (s : List ℕ) → Reads (first_word_at depth turns at) (FirstWord at) s
  reads_first_word turns at s = reads_head is_branch_letter (bind (branch_word_at depth turns at) (λ y. done (OnWhat y))) (bind (address_word_at depth turns at) (λ x. done (ForWhom x))) (FirstWord at) s
      (λ b t e. reads_as (bind (branch_word_at depth turns at) (λ y. done (OnWhat y))) (Wrapped OnWhat (IsBranchWord (suc depth) at)) (FirstWord at) (b ∷ t) (what_is at) (reads_wrapped OnWhat (branch_word_at depth turns at) (IsBranchWord (suc depth) at) (b ∷ t) (reads_branch_word depth turns at (b ∷ t))))
      (λ t. reads_as (bind (address_word_at depth turns at) (λ x. done (ForWhom x))) (Wrapped ForWhom (IsAddressWord (suc depth) at)) (FirstWord at) t (whom_is at) (reads_wrapped ForWhom (address_word_at depth turns at) (IsAddressWord (suc depth) at) t (reads_address_word depth turns at t)))

  some_first_word : Inhabited FirstWord
  some_first_word at = (114 ∷ [], ForWhom (Receivers at), (refl, refl))

  -- the other option
  abbrev Other : FirstOption → Grammar Options
  Other (ForWhom x) at s o = Wrapped (AddressFirst x) (IsBranch (suc depth) at) s o
  Other (OnWhat y) at s o = Wrapped (BranchFirst y) (IsAddress (suc depth) at) s o

  reads_other : (turns : ℕ) (o : FirstOption) (at : ℕ) (s : List ℕ) → Reads (second_option depth turns o at) (Other o at) s
  reads_other turns (ForWhom x) at s = reads_wrapped (AddressFirst x) (between_at (branch_word_at depth turns) at) (IsBranch (suc depth) at) s (reads_between (branch_word_at depth turns) (IsBranchWord (suc depth)) (some_branch_word depth) (reads_branch_word depth turns) at s)
  reads_other turns (OnWhat y) at s = reads_wrapped (BranchFirst y) (between_at (address_word_at depth turns) at) (IsAddress (suc depth) at) s (reads_between (address_word_at depth turns) (IsAddressWord (suc depth)) (some_address_word depth) (reads_address_word depth turns) at s)

  some_other : (o : FirstOption) → Inhabited (Other o)
  some_other (ForWhom x) at = let w = some_between (IsBranchWord (suc depth)) (some_branch_word depth) at in (w.0, AddressFirst x w.1, (w.1, w.2, refl))
  some_other (OnWhat y) at = let w = some_between (IsAddressWord (suc depth)) (some_address_word depth) at in (w.0, BranchFirst y w.1, (w.1, w.2, refl))

  abbrev AfterFirst : ℕ → FirstOption → List ℕ → Options → Type 0
  AfterFirst at o s p = ItemThen 44 (Other o) at s p ⊎ IsNothing (alone o) s p

  options_then : (at : ℕ) (a s : List ℕ) (o : FirstOption) (p : Options) → BetweenBlanks FirstWord at a o → AfterFirst (at + length a) o s p → AreOptions (suc depth) at (a ++ s) p
  options_then at a s (ForWhom x) p g (inl (b, e, (y, h, v))) = rw v (a, b, ap (λ (z : List ℕ). a ++ z) e, g, h)
  options_then at a s (OnWhat y) p g (inl (b, e, (x, h, v))) = rw v (a, b, ap (λ (z : List ℕ). a ++ z) e, g, h)
  options_then at a s (ForWhom x) p g (inr (e, v)) = rw (v, e, append-nil) g
  options_then at a s (OnWhat y) p g (inr (e, v)) = rw (v, e, append-nil) g

  pub reads_options : (turns at : ℕ) (s : List ℕ) → Reads (options_at depth turns at) (AreOptions (suc depth) at) s
  unfolding options_at
  reads_options turns at s = reads_bind_at at (between_at (first_word_at depth turns)) (λ at2 o. on_head (nat_eq 44) (bind_at at2 (λ _. item (nat_eq 44)) (λ at3 _. second_option depth turns o at3)) (done (alone o))) (BetweenBlanks FirstWord) AfterFirst (AreOptions (suc depth))
      (record { then = λ a z o p g h. options_then at a z o p g h; ends = λ a o g. ([], alone o, inr (refl, refl)) }) s
      (reads_between (first_word_at depth turns) FirstWord some_first_word (reads_first_word turns) at s)
      (λ at2 o r. reads_head (nat_eq 44) (bind_at at2 (λ _. item (nat_eq 44)) (λ at3 _. second_option depth turns o at3)) (done (alone o)) (AfterFirst at2 o) r
      (λ b t e. reads_as (bind_at at2 (λ _. item (nat_eq 44)) (λ at3 _. second_option depth turns o at3)) (ItemThen 44 (Other o) at2) (AfterFirst at2 o) (b ∷ t) (λ f x h. inl h) (reads_item_then 44 (second_option depth turns o) (Other o) (some_other o) (reads_other turns o) at2 (b ∷ t)))
      (λ t. reads_done (AfterFirst at2 o) (alone o) t (inr (refl, refl))))

  pub some_options : Inhabited (AreOptions (suc depth))
  some_options at = let w = some_between (IsAddressWord (suc depth)) (some_address_word depth) at in (w.0, Addressed w.1, w.2)

  some_statement : Inhabited (IsStatement (suc depth))
  some_statement at = let w = some_expr (suc depth) at in (w.0, w.1, inr w.2)

  -- ---- rolls

  -- behind the first statement
  abbrev RollEnd : ℕ → Options → ℕ → Tree → List ℕ → Piece → Type 0
  RollEnd at o at5 x s p = ((has_if o ≡ true) × ItemThen 59 (ThenAt (IsStatement (suc depth)) (λ at7 y. TheLetter 93 (Roll at o x (Some y)))) at5 s p) ⊎ TheLetter 93 (Roll at o x None) s p

  reads_roll_end : (turns at : ℕ) (o : Options) (at5 : ℕ) (x : Tree) (s : List ℕ) → Reads (roll_end depth turns at o at5 x) (RollEnd at o at5 x) s
  reads_roll_end turns at o at5 x s = reads_head (λ b. has_if o && nat_eq 59 b) (bind_at at5 (λ _. item (nat_eq 59)) (λ at6 _. bind_at at6 (statement_at depth turns) (λ at7 y. letter_at 93 (Roll at o x (Some y))))) (letter_at 93 (Roll at o x None)) (RollEnd at o at5 x) s
      (λ b t e. reads_as (bind_at at5 (λ _. item (nat_eq 59)) (λ at6 _. bind_at at6 (statement_at depth turns) (λ at7 y. letter_at 93 (Roll at o x (Some y))))) (ItemThen 59 (ThenAt (IsStatement (suc depth)) (λ at7 y. TheLetter 93 (Roll at o x (Some y)))) at5) (RollEnd at o at5 x) (b ∷ t) (λ f u h. inl (and_left (has_if o) (nat_eq 59 b) e, h))
      (reads_item_then 59 (λ at6. bind_at at6 (statement_at depth turns) (λ at7 y. letter_at 93 (Roll at o x (Some y)))) (ThenAt (IsStatement (suc depth)) (λ at7 y. TheLetter 93 (Roll at o x (Some y))))
      (λ at6. let w = some_statement at6 in (w.0 ++ (93 ∷ []), Roll at o x (Some w.1), (w.0, 93 ∷ [], w.1, refl, w.2, (refl, refl))))
      (λ at6 r. reads_then_at at6 (statement_at depth turns) (λ at7 y. letter_at 93 (Roll at o x (Some y))) (IsStatement (suc depth)) (λ at7 y. TheLetter 93 (Roll at o x (Some y))) r (λ at7 y. (93 ∷ [], Roll at o x (Some y), (refl, refl)))
      (reads_statement depth turns at6 r) (λ at7 y q. reads_letter 93 (Roll at o x (Some y)) q)) at5 (b ∷ t)))
      (λ t. reads_as (letter_at 93 (Roll at o x None)) (TheLetter 93 (Roll at o x None)) (RollEnd at o at5 x) t (λ f u h. inr h) (reads_letter 93 (Roll at o x None) t))

  abbrev RollWord : ℕ → Grammar Piece
  RollWord at = ItemThen 91 (ThenAt (AreOptions (suc depth)) (λ at3 o. ItemThen 58 (ThenAt (IsStatement (suc depth)) (RollEnd at o)) at3))

  roll_is : (at : ℕ) (s : List ℕ) (p : Piece) → RollWord at at s p → IsRoll (suc depth) at s p
  roll_is at s p (b, e, (a, c, o, e2, g, (d, e3, (f, z, x, e4, h, inl (yes-if, (q, e5, (u, v, y, e6, k, (e7, w)))))))) =
      rw w (yes-if, refl, a, f, u, rw (e, e2, e3, e4, e5, e6, e7) refl, g, h, k)
  roll_is at s p (b, e, (a, c, o, e2, g, (d, e3, (f, z, x, e4, h, inr (e7, w))))) = rw w (refl, a, f, rw (e, e2, e3, e4, e7) refl, g, h)

  statements_end : (at : ℕ) (o : Options) → Inhabited (ThenAt (IsStatement (suc depth)) (RollEnd at o))
  statements_end at o at4 = let w = some_statement at4 in (w.0 ++ (93 ∷ []), Roll at o w.1 None, (w.0, 93 ∷ [], w.1, refl, w.2, inr (refl, refl)))

  pub reads_roll : (turns at : ℕ) (s : List ℕ) → Reads (roll_at depth turns at) (IsRoll (suc depth) at) s
  unfolding roll_at
  reads_roll turns at s = reads_as (bind_at at (λ _. item (nat_eq 91)) (λ at2 _. bind_at at2 (options_at depth turns) (λ at3 o. bind_at at3 (λ _. item (nat_eq 58)) (λ at4 _. bind_at at4 (statement_at depth turns) (roll_end depth turns at o))))) (RollWord at at) (IsRoll (suc depth) at) s (roll_is at)
      (reads_item_then 91 (λ at2. bind_at at2 (options_at depth turns) (λ at3 o. bind_at at3 (λ _. item (nat_eq 58)) (λ at4 _. bind_at at4 (statement_at depth turns) (roll_end depth turns at o)))) (ThenAt (AreOptions (suc depth)) (λ at3 o. ItemThen 58 (ThenAt (IsStatement (suc depth)) (RollEnd at o)) at3))
      (λ at2. let w = some_options at2 in let e = some_item_then 58 (ThenAt (IsStatement (suc depth)) (RollEnd at w.1)) (statements_end at w.1) (at2 + length w.0) in (w.0 ++ e.0, e.1, (w.0, e.0, w.1, refl, w.2, e.2)))
      (λ at2 r. reads_then_at at2 (options_at depth turns) (λ at3 o. bind_at at3 (λ _. item (nat_eq 58)) (λ at4 _. bind_at at4 (statement_at depth turns) (roll_end depth turns at o))) (AreOptions (suc depth)) (λ at3 o. ItemThen 58 (ThenAt (IsStatement (suc depth)) (RollEnd at o)) at3) r
      (λ at3 o. some_item_then 58 (ThenAt (IsStatement (suc depth)) (RollEnd at o)) (statements_end at o) at3) (reads_options turns at2 r)
      (λ at3 o q. reads_item_then 58 (λ at4. bind_at at4 (statement_at depth turns) (roll_end depth turns at o)) (ThenAt (IsStatement (suc depth)) (RollEnd at o)) (statements_end at o)
      (λ at4 u. reads_then_at at4 (statement_at depth turns) (roll_end depth turns at o) (IsStatement (suc depth)) (RollEnd at o) u (λ at5 x. (93 ∷ [], Roll at o x None, inr (refl, refl))) (reads_statement depth turns at4 u) (λ at5 x v. reads_roll_end turns at o at5 x v)) at3 q)) at s)
