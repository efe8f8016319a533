-- Options and rolls, as the code reads them.
use Rattle.std.proofs.Common.{◌≡◌, ℕ, suc, ◌+◌, ◌-◌, ◌≤◌, true, false, List, [], ◌∷◌, length, Option, Some, None, Ok, Err, refl, sym, subst, ◌∙◌, arith}
use Rattle.std.specs.Prelude.{nat_eq}
use Rattle.reading.specs.Reading.{Read, done, carry, bind, item}
use Rattle.reading.specs.Placed.{bind_at}
use Rattle.reading.proofs.Pairs.{Free, got}
use Rattle.macro_parse.specs.declared.nodes.Node.{Node}
use Rattle.macro_parse.specs.declared.nodes.Address.{Address as FlatAddress}
use Rattle.macro_parse.specs.declared.nodes.Address.TheVariants.{Receivers as FlatReceivers, Hidden as FlatHidden, Master as FlatMaster, Runner as FlatRunner, Both as FlatBoth, Whisper as FlatWhisper}
use Rattle.macro_parse.specs.declared.nodes.Branch.{Branch as FlatBranch}
use Rattle.macro_parse.specs.declared.nodes.Branch.TheVariants.{If as FlatIf, Count as FlatCount}
use Rattle.macro_parse.specs.declared.reader.Stop.{Stop}
use Rattle.macro_parse.specs.declared.reader.Stop.TheVariants.{Off, Memory}
use Rattle.macro_parse.specs.declared.rolls.First.{First}
use Rattle.macro_parse.specs.declared.rolls.First.TheVariants.{ForWhom as FirstForWhom, OnWhat as FirstOnWhat}
use Rattle.macro_grammar.specs.Tree.{Tree, Address, Receivers, Hidden, Master, Runner, Both, Whisper, Branch, If, Count, FirstOption, ForWhom, OnWhat}
use Rattle.macro_grammar.specs.Readers.{blanks_at, closed, argument_at, group_at, expr_at, bracketed_at, bytes_at, address_word_at, branch_word_at, is_branch_letter, first_word_at, between_at}
use Rattle.macro_grammar.specs.Limits.{AddressFits, BranchFits, FirstFits}
use Rattle.macro_parse.specs.Flat.{Puts, Finds, place}
use Rattle.macro_parse.specs.FlatPieces.{ShowsAddress, ShowsBranch, ShowsFirst, Adds}
use Rattle.macro_parse.specs.Levels.{HeadIs}
use Rattle.macro_parse.specs.Found.{Spells}
use Rattle.macro_parse.proofs.FlatTrees.{keeps_itself}
use Rattle.macro_parse.proofs.Scans.{takes_at, took, left}
use Rattle.macro_parse.proofs.Inside.{not_same}
use Rattle.macro_parse.proofs.AfterNames.{head_true, head_false}

pub still : {V T : Type 0} (Shown : List Node → V → T → Type 0) (Fits : T → Type 0) (nodes : List Node) (v : V) (t : T) → Shown nodes v t → Adds Shown Fits nodes nodes v t
still Shown Fits nodes v t h = record { shows = h; keeps = keeps_itself nodes; fits = λ f u. f }

-- ---- brackets around an expression

abbrev mapped : {A : Type 0} → (Tree → A) → Option Tree → Option A
mapped mk None = None
mapped mk (Some x) = Some (mk x)

carry_done : {A : Type 0} (mk : Tree → A) (x : Tree) (o : Option ℕ) (r : List ℕ) → carry (λ _. done (mk x)) o r ≡ got (mapped mk (carry (λ _. done x) o r).0) (carry (λ _. done x) o r).1
carry_done mk x None r = refl
carry_done mk x (Some b) r = refl

carry_closed : {A : Type 0} (mk : Tree → A) (o : Option Tree) (r : List ℕ) → carry (λ x. closed (mk x)) o r ≡ got (mapped mk (carry (λ x. closed x) o r).0) (carry (λ x. closed x) o r).1
carry_closed mk None r = refl
carry_closed mk (Some x) r = carry_done mk x (item (nat_eq 41) r).0 (item (nat_eq 41) r).1

carry_bracket : {A : Type 0} (mk : Tree → A) (expr : ℕ → Read Tree) (at : ℕ) (o : Option ℕ) (r : List ℕ)
    → carry (λ _. bind_at at expr (λ at2 x. closed (mk x))) o r ≡ got (mapped mk (carry (λ _. bind_at at expr (λ at2 x. closed x)) o r).0) (carry (λ _. bind_at at expr (λ at2 x. closed x)) o r).1
carry_bracket mk expr at None r = refl
carry_bracket mk expr at (Some b) r = carry_closed mk (expr at r).0 (expr at r).1

bracket_maps : {A : Type 0} (mk : Tree → A) (expr : ℕ → Read Tree) (at : ℕ) (s r : List ℕ) (o : Option Tree) → group_at expr at s ≡ (o, r) → argument_at expr 40 at (λ at2 x. closed (mk x)) s ≡ (mapped mk o, r)
unfolding group_at
bracket_maps mk expr at s r o e = carry_bracket mk expr (at + (length s - length (item (nat_eq 40) s).1)) (item (nat_eq 40) s).0 (item (nat_eq 40) s).1 ∙ rw e refl

-- ---- whom a roll is for

module _ (d end at b : ℕ) (s t : List ℕ) (n0 : List Node) (e : s ≡ b ∷ t) (here : at ≡ place end s) where
  pub receivers_found : b ≡ 114 → Finds (Adds ShowsAddress AddressFits n0 n0) (λ turns. address_word_at d turns (place end s)) (Ok (FlatReceivers at)) s t
  unfolding address_word_at
  receivers_found same = (Receivers (place end s), still ShowsAddress AddressFits n0 (FlatReceivers at) (Receivers (place end s)) (rw here refl), λ turns lt. rw (e, same) refl)

  pub hidden_found : b ≡ 104 → Finds (Adds ShowsAddress AddressFits n0 n0) (λ turns. address_word_at d turns (place end s)) (Ok (FlatHidden at)) s t
  unfolding address_word_at
  hidden_found same = (Hidden (place end s), still ShowsAddress AddressFits n0 (FlatHidden at) (Hidden (place end s)) (rw here refl), λ turns lt. rw (e, same) refl)

  pub runner_found : b ≡ 115 → Finds (Adds ShowsAddress AddressFits n0 n0) (λ turns. address_word_at d turns (place end s)) (Ok (FlatRunner at)) s t
  unfolding address_word_at
  runner_found same = (Runner (place end s), still ShowsAddress AddressFits n0 (FlatRunner at) (Runner (place end s)) (rw here refl), λ turns lt. rw (e, same) refl)

  pub both_found : (r : List ℕ) → b ≡ 103 → takes_at 115 t ≡ (Some true, r) → Finds (Adds ShowsAddress AddressFits n0 n0) (λ turns. address_word_at d turns (place end s)) (Ok (FlatBoth at)) s r
  unfolding address_word_at
  both_found r same h = let k = took 115 t r h in (Both (place end s), still ShowsAddress AddressFits n0 (FlatBoth at) (Both (place end s)) (rw here refl), λ turns lt. rw (e, same, k) refl)

master_is : (d turns at : ℕ) (t : List ℕ) → Free (nat_eq 115) t → address_word_at d turns at (103 ∷ t) ≡ (Some (Master at), t)
unfolding address_word_at
master_is d turns at [] f = refl
master_is d turns at (b ∷ t) f = rw f refl

pub master_found : (d end at b : ℕ) (s t r : List ℕ) (n0 : List Node) → s ≡ b ∷ t → at ≡ place end s → b ≡ 103 → takes_at 115 t ≡ (Some false, r) → Finds (Adds ShowsAddress AddressFits n0 n0) (λ turns. address_word_at d turns (place end s)) (Ok (FlatMaster at)) s r
master_found d end at b s t r n0 e here same h =
    let k = left 115 t r h in
    let rest = k.0 in (
      Master (place end s),
      still ShowsAddress AddressFits n0 (FlatMaster at) (Master (place end s)) (rw here refl),
      λ turns lt.
          let m = master_is d turns (place end s) t k.1 in
          let whole : s ≡ 103 ∷ t = rw same at e in
          rw rest (subst (λ (w : List ℕ). address_word_at d turns (place end s) w ≡ (Some (Master (place end s)), t)) (sym whole) m),
    )

whisper_is : (d turns at1 at2 b : ℕ) (s t : List ℕ) → s ≡ b ∷ t → b ≡ 119 → at1 + 1 ≡ at2 → address_word_at d turns at1 s ≡ bracketed_at d turns (Whisper at1) at2 t
unfolding address_word_at
whisper_is d turns at1 at2 b s t e same p = let m : at1 + (length (119 ∷ t) - length t) ≡ at2 = omega arith in rw (e, same, m) refl

module _ (depth d end b : ℕ) (s t r : List ℕ) (n0 n1 : List Node) (nest : depth ≡ suc d) (room : length s ≤ end) (e : s ≡ b ∷ t) (w : b ≡ 119) where
  pub whisper_found : (at seat : ℕ) → at ≡ place end s → Finds (Puts n0 n1) (λ turns. group_at (expr_at depth turns) (place end t)) (Ok seat) t r
      → Finds (Adds ShowsAddress AddressFits n0 n1) (λ turns. address_word_at d turns (place end s)) (Ok (FlatWhisper at seat)) s r
  whisper_found at seat here h = (
    Whisper (place end s) h.0,
    record { shows = (seat, rw here refl, h.1.shows); keeps = h.1.keeps; fits = h.1.fits },
    λ turns lt.
        let len : length s ≡ suc (length t) = rw e refl in
        let g = rw nest at (h.2 turns (omega arith)) in
        whisper_is d turns (place end s) (place end t) b s t e w (omega arith) ∙ bracket_maps (Whisper (place end s)) (expr_at (suc d) turns) (place end t) t r (Some h.0) g,
  )

  pub whisper_stops : (Shown : FlatAddress → Address → Type 0) (stop : Stop) → Finds (Puts n0 n1) (λ turns. group_at (expr_at depth turns) (place end t)) (Err stop) t r → Finds Shown (λ turns. address_word_at d turns (place end s)) (Err stop) s r
  whisper_stops Shown Off h = λ turns lt.
      let len : length s ≡ suc (length t) = rw e refl in
      let g = rw nest at (h turns (omega arith)) in
      whisper_is d turns (place end s) (place end t) b s t e w (omega arith) ∙ bracket_maps (Whisper (place end s)) (expr_at (suc d) turns) (place end t) t r None g
  whisper_stops Shown Memory h = tt

pub address_end : (d turns at : ℕ) (s : List ℕ) → length s ≡ 0 → address_word_at d turns at s ≡ (None, s)
unfolding address_word_at
address_end d turns at [] e = refl
address_end d turns at (b ∷ s) e = absurd (omega arith)

pub address_off : (d turns at b : ℕ) (s t : List ℕ) → s ≡ b ∷ t → (b ≡ 114 → ⊥) → (b ≡ 104 → ⊥) → (b ≡ 115 → ⊥) → (b ≡ 103 → ⊥) → (b ≡ 119 → ⊥) → address_word_at d turns at s ≡ (None, s)
unfolding address_word_at
address_off d turns at b s t e f1 f2 f3 f4 f5 =
    let g1 = not_same 114 b f1 in
    let g2 = not_same 104 b f2 in
    let g3 = not_same 115 b f3 in
    let g4 = not_same 103 b f4 in
    let g5 = not_same 119 b f5 in
    rw (e, g1, g2, g3, g4, g5) refl

-- ---- what its statements hang on

abbrev if_bytes : List ℕ
if_bytes = 105 ∷ (102 ∷ [])

abbrev count_bytes : List ℕ
count_bytes = 99 ∷ (111 ∷ (117 ∷ (110 ∷ (116 ∷ []))))

module _ (d turns at1 at2 : ℕ) (s r : List ℕ) where
  if_is : HeadIs (nat_eq 105) s true → bytes_at if_bytes s ≡ (Some [], r) → at1 + (length s - length r) ≡ at2 → branch_word_at d turns at1 s ≡ bracketed_at d turns (If at1) at2 r
  unfolding branch_word_at
  if_is h b m =
      head_true (nat_eq 105) (bind_at at1 (λ _. bytes_at if_bytes) (λ p _. bracketed_at d turns (If at1) p)) (bind_at at1 (λ _. bytes_at count_bytes) (λ p _. bracketed_at d turns (Count at1) p)) s h ∙ rw (b, m) refl

  count_is : HeadIs (nat_eq 105) s false → bytes_at count_bytes s ≡ (Some [], r) → at1 + (length s - length r) ≡ at2 → branch_word_at d turns at1 s ≡ bracketed_at d turns (Count at1) at2 r
  unfolding branch_word_at
  count_is h b m =
      head_false (nat_eq 105) (bind_at at1 (λ _. bytes_at if_bytes) (λ p _. bracketed_at d turns (If at1) p)) (bind_at at1 (λ _. bytes_at count_bytes) (λ p _. bracketed_at d turns (Count at1) p)) s h ∙ rw (b, m) refl

  if_none : HeadIs (nat_eq 105) s true → bytes_at if_bytes s ≡ (None, r) → branch_word_at d turns at1 s ≡ (None, r)
  unfolding branch_word_at
  if_none h b =
      head_true (nat_eq 105) (bind_at at1 (λ _. bytes_at if_bytes) (λ p _. bracketed_at d turns (If at1) p)) (bind_at at1 (λ _. bytes_at count_bytes) (λ p _. bracketed_at d turns (Count at1) p)) s h ∙ rw b refl

  count_none : HeadIs (nat_eq 105) s false → bytes_at count_bytes s ≡ (None, r) → branch_word_at d turns at1 s ≡ (None, r)
  unfolding branch_word_at
  count_none h b =
      head_false (nat_eq 105) (bind_at at1 (λ _. bytes_at if_bytes) (λ p _. bracketed_at d turns (If at1) p)) (bind_at at1 (λ _. bytes_at count_bytes) (λ p _. bracketed_at d turns (Count at1) p)) s h ∙ rw b refl

module _ (d end : ℕ) (s r1 : List ℕ) (Shown : FlatBranch → Branch → Type 0) where
  pub if_word_stops : (stop : Stop) → HeadIs (nat_eq 105) s true → Spells {U = Unit {0}} if_bytes (Err stop) s r1 → Finds Shown (λ turns. branch_word_at d turns (place end s)) (Err stop) s r1
  if_word_stops Off h e = λ turns lt. if_none d turns (place end s) 0 s r1 h e
  if_word_stops Memory h e = tt

  pub count_word_stops : (stop : Stop) → HeadIs (nat_eq 105) s false → Spells {U = Unit {0}} count_bytes (Err stop) s r1 → Finds Shown (λ turns. branch_word_at d turns (place end s)) (Err stop) s r1
  count_word_stops Off h e = λ turns lt. count_none d turns (place end s) 0 s r1 h e
  count_word_stops Memory h e = tt

module _ (depth d end : ℕ) (s t r : List ℕ) (n0 n1 : List Node) (nest : depth ≡ suc d) (room : length s ≤ end) (shrinks : length t ≤ length s) where
  pub if_found : (at j : ℕ) → at ≡ place end s → HeadIs (nat_eq 105) s true → bytes_at if_bytes s ≡ (Some [], t) → Finds (Puts n0 n1) (λ turns. group_at (expr_at depth turns) (place end t)) (Ok j) t r
      → Finds (Adds ShowsBranch BranchFits n0 n1) (λ turns. branch_word_at d turns (place end s)) (Ok (FlatIf at j)) s r
  if_found at j here head e h = (
    If (place end s) h.0,
    record { shows = (j, rw here refl, h.1.shows); keeps = h.1.keeps; fits = h.1.fits },
    λ turns lt.
        let g = rw nest at (h.2 turns (omega arith)) in
        if_is d turns (place end s) (place end t) s t head e (omega arith) ∙ bracket_maps (If (place end s)) (expr_at (suc d) turns) (place end t) t r (Some h.0) g,
  )

  pub count_found : (at j : ℕ) → at ≡ place end s → HeadIs (nat_eq 105) s false → bytes_at count_bytes s ≡ (Some [], t) → Finds (Puts n0 n1) (λ turns. group_at (expr_at depth turns) (place end t)) (Ok j) t r
      → Finds (Adds ShowsBranch BranchFits n0 n1) (λ turns. branch_word_at d turns (place end s)) (Ok (FlatCount at j)) s r
  count_found at j here head e h = (
    Count (place end s) h.0,
    record { shows = (j, rw here refl, h.1.shows); keeps = h.1.keeps; fits = h.1.fits },
    λ turns lt.
        let g = rw nest at (h.2 turns (omega arith)) in
        count_is d turns (place end s) (place end t) s t head e (omega arith) ∙ bracket_maps (Count (place end s)) (expr_at (suc d) turns) (place end t) t r (Some h.0) g,
  )

  module _ (Shown : FlatBranch → Branch → Type 0) where
    pub if_stops : (stop : Stop) → HeadIs (nat_eq 105) s true → bytes_at if_bytes s ≡ (Some [], t) → Finds (Puts n0 n1) (λ turns. group_at (expr_at depth turns) (place end t)) (Err stop) t r → Finds Shown (λ turns. branch_word_at d turns (place end s)) (Err stop) s r
    if_stops Off head e h = λ turns lt.
        let g = rw nest at (h turns (omega arith)) in
        if_is d turns (place end s) (place end t) s t head e (omega arith) ∙ bracket_maps (If (place end s)) (expr_at (suc d) turns) (place end t) t r None g
    if_stops Memory head e h = tt

    pub count_stops : (stop : Stop) → HeadIs (nat_eq 105) s false → bytes_at count_bytes s ≡ (Some [], t) → Finds (Puts n0 n1) (λ turns. group_at (expr_at depth turns) (place end t)) (Err stop) t r → Finds Shown (λ turns. branch_word_at d turns (place end s)) (Err stop) s r
    count_stops Off head e h = λ turns lt.
        let g = rw nest at (h turns (omega arith)) in
        count_is d turns (place end s) (place end t) s t head e (omega arith) ∙ bracket_maps (Count (place end s)) (expr_at (suc d) turns) (place end t) t r None g
    count_stops Memory head e h = tt

-- ---- the first option

module _ (d at : ℕ) (s r : List ℕ) (n0 n1 : List Node) where
  pub first_branch : (b : FlatBranch) → HeadIs is_branch_letter s true → Finds (Adds ShowsBranch BranchFits n0 n1) (λ turns. branch_word_at d turns at) (Ok b) s r → Finds (Adds ShowsFirst FirstFits n0 n1) (λ turns. first_word_at d turns at) (Ok (FirstOnWhat b)) s r
  first_branch b head h = (
    OnWhat h.0,
    record { shows = (b, refl, h.1.shows); keeps = h.1.keeps; fits = h.1.fits },
    λ turns lt.
        let e = h.2 turns lt in
        head_true is_branch_letter (bind (branch_word_at d turns at) (λ y. done (OnWhat y))) (bind (address_word_at d turns at) (λ x. done (ForWhom x))) s head ∙ rw e refl,
  )

  pub first_address : (a : FlatAddress) → HeadIs is_branch_letter s false → Finds (Adds ShowsAddress AddressFits n0 n1) (λ turns. address_word_at d turns at) (Ok a) s r → Finds (Adds ShowsFirst FirstFits n0 n1) (λ turns. first_word_at d turns at) (Ok (FirstForWhom a)) s r
  first_address a head h = (
    ForWhom h.0,
    record { shows = (a, refl, h.1.shows); keeps = h.1.keeps; fits = h.1.fits },
    λ turns lt.
        let e = h.2 turns lt in
        head_false is_branch_letter (bind (branch_word_at d turns at) (λ y. done (OnWhat y))) (bind (address_word_at d turns at) (λ x. done (ForWhom x))) s head ∙ rw e refl,
  )

  pub first_branch_stops : (Shown : First → FirstOption → Type 0) (stop : Stop) → HeadIs is_branch_letter s true → Finds (Adds ShowsBranch BranchFits n0 n1) (λ turns. branch_word_at d turns at) (Err stop) s r → Finds Shown (λ turns. first_word_at d turns at) (Err stop) s r
  first_branch_stops Shown Off head h = λ turns lt.
      let e = h turns lt in
      head_true is_branch_letter (bind (branch_word_at d turns at) (λ y. done (OnWhat y))) (bind (address_word_at d turns at) (λ x. done (ForWhom x))) s head ∙ rw e refl
  first_branch_stops Shown Memory head h = tt

  pub first_address_stops : (Shown : First → FirstOption → Type 0) (stop : Stop) → HeadIs is_branch_letter s false → Finds (Adds ShowsAddress AddressFits n0 n1) (λ turns. address_word_at d turns at) (Err stop) s r → Finds Shown (λ turns. first_word_at d turns at) (Err stop) s r
  first_address_stops Shown Off head h = λ turns lt.
      let e = h turns lt in
      head_false is_branch_letter (bind (branch_word_at d turns at) (λ y. done (OnWhat y))) (bind (address_word_at d turns at) (λ x. done (ForWhom x))) s head ∙ rw e refl
  first_address_stops Shown Memory head h = tt

-- ---- between blanks

module _ {V T : Type 0} (Shown : V → T → Type 0) (word : ℕ → ℕ → Read T) (end : ℕ) (s r1 r2 : List ℕ) (room : length s ≤ end) (shrinks : length r1 ≤ length s) (before : (w : List ℕ) × (blanks_at s ≡ (Some w, r1))) where
  pub between_found : (v : V) (r3 : List ℕ) → (w : List ℕ) × (blanks_at r2 ≡ (Some w, r3)) → Finds Shown (λ turns. word turns (place end r1)) (Ok v) r1 r2 → Finds Shown (λ turns. between_at (word turns) (place end s)) (Ok v) s r3
  between_found v r3 behind h = (
    h.0,
    h.1,
    λ turns lt.
        let b1 = before.1 in
        let b2 = behind.1 in
        let m : place end s + (length s - length r1) ≡ place end r1 = omega arith in
        let e = h.2 turns (omega arith) in
        rw (b1, m, e, b2) refl,
  )

  pub between_stops : (stop : Stop) → Finds Shown (λ turns. word turns (place end r1)) (Err stop) r1 r2 → Finds Shown (λ turns. between_at (word turns) (place end s)) (Err stop) s r2
  between_stops Off h = λ turns lt.
      let b1 = before.1 in
      let m : place end s + (length s - length r1) ≡ place end r1 = omega arith in
      let e = h turns (omega arith) in
      rw (b1, m, e) refl
  between_stops Memory h = tt
