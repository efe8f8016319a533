-- Options together, and rolls, as the code reads them.
use Rattle.std.proofs.Common.{◌≡◌, ℕ, suc, ◌+◌, ◌-◌, ◌<◌, ◌≤◌, true, false, List, ◌∷◌, length, Some, None, Ok, Err, refl, sym, subst, ◌∙◌, arith}
use Rattle.std.specs.Prelude.{Result, nat_eq}
use Rattle.reading.specs.Reading.{Read, done, on_head, item}
use Rattle.reading.specs.Placed.{bind_at}
use Rattle.reading.proofs.Pairs.{head_free}
use Rattle.macro_parse.specs.declared.nodes.Node.{Node}
use Rattle.macro_parse.specs.declared.nodes.Address.{Address as FlatAddress}
use Rattle.macro_parse.specs.declared.nodes.Branch.{Branch as FlatBranch}
use Rattle.macro_parse.specs.declared.nodes.Options.{Options as FlatOptions}
use Rattle.macro_parse.specs.declared.nodes.Options.TheVariants.{Addressed as FlatAddressed, Branched as FlatBranched, AddressFirst as FlatAddressFirst, BranchFirst as FlatBranchFirst}
use Rattle.macro_parse.specs.declared.nodes.Piece.{Piece as FlatPiece}
use Rattle.macro_parse.specs.declared.nodes.Piece.TheVariants.{Roll as FlatRoll}
use Rattle.macro_parse.specs.declared.reader.Stop.{Stop}
use Rattle.macro_parse.specs.declared.reader.Stop.TheVariants.{Off, Memory}
use Rattle.macro_parse.specs.declared.rolls.First.{First}
use Rattle.macro_parse.specs.declared.rolls.First.TheVariants.{ForWhom as FirstForWhom, OnWhat as FirstOnWhat}
use Rattle.macro_grammar.specs.Tree.{Tree, Address, Receivers, Hidden, Master, Runner, Both, Whisper, Branch, If, Count, Options, Addressed, Branched, AddressFirst, BranchFirst, Piece, Roll, FirstOption, ForWhom, OnWhat}
use Rattle.macro_grammar.specs.Grammar.{has_if}
use Rattle.macro_grammar.specs.Readers.{statement_at, address_word_at, branch_word_at, first_word_at, between_at, second_option, alone, options_at, letter_at, roll_end, roll_at}
use Rattle.macro_grammar.specs.Limits.{AddressFits, BranchFits, FirstFits, OptionsFit, PieceFits}
use Rattle.macro_parse.specs.Flat.{Shows, Keeps, Puts, Finds, place}
use Rattle.macro_parse.specs.FlatPieces.{ShowsAddress, ShowsBranch, ShowsFirst, ShowsOptions, ShowsPiece, Adds, AddsRoll}
use Rattle.macro_parse.specs.Found.{Expects}
use Rattle.macro_parse.proofs.FlatTrees.{shows_kept, keeps_itself, keeps_then}
use Rattle.macro_parse.proofs.Finding.{finds_as, finds_then, stops_then}
use Rattle.macro_parse.proofs.Scans.{takes_at, took, left}
use Rattle.macro_grammar.proofs.Unaries.{and_false}
use Rattle.macro_grammar.proofs.OptionWords.{same_byte}

-- ---- what stood in the old nodes still stands

pub address_kept : (xs zs : List Node) (a : FlatAddress) (x : Address) → Keeps xs zs → ShowsAddress xs a x → ShowsAddress zs a x
address_kept xs zs a (Receivers p) k h = h
address_kept xs zs a (Hidden p) k h = h
address_kept xs zs a (Master p) k h = h
address_kept xs zs a (Runner p) k h = h
address_kept xs zs a (Both p) k h = h
address_kept xs zs a (Whisper p x) k (j, e, h) = (j, e, shows_kept xs zs j x k h)

pub branch_kept : (xs zs : List Node) (b : FlatBranch) (y : Branch) → Keeps xs zs → ShowsBranch xs b y → ShowsBranch zs b y
branch_kept xs zs b (If p x) k (j, e, h) = (j, e, shows_kept xs zs j x k h)
branch_kept xs zs b (Count p x) k (j, e, h) = (j, e, shows_kept xs zs j x k h)

pub options_kept : (xs zs : List Node) (o : FlatOptions) (t : Options) → Keeps xs zs → ShowsOptions xs o t → ShowsOptions zs o t
options_kept xs zs o (Addressed x) k (a, e, h) = (a, e, address_kept xs zs a x k h)
options_kept xs zs o (Branched y) k (b, e, h) = (b, e, branch_kept xs zs b y k h)
options_kept xs zs o (AddressFirst x y) k (a, b, e, h, g) = (a, b, e, address_kept xs zs a x k h, branch_kept xs zs b y k g)
options_kept xs zs o (BranchFirst y x) k (b, a, e, h, g) = (b, a, e, branch_kept xs zs b y k h, address_kept xs zs a x k g)

-- ---- a byte that is wanted

module _ {W U : Type 0} (Whole : W → U → Type 0) (k : ℕ → ℕ → Read U) (byte end : ℕ) (s r1 : List ℕ) (room : length s ≤ end) where
  pub finds_item : (found : Result W Stop) (r2 : List ℕ) → s ≡ byte ∷ r1 → Finds Whole (λ turns. k turns (place end r1)) found r1 r2 → Finds Whole (λ turns. bind_at (place end s) (λ _. item (nat_eq byte)) (λ at2 _. k turns at2)) found s r2
  finds_item found r2 e h =
      let q = same_byte byte in
      let len : length s ≡ suc (length r1) = rw e refl in
      let m : place end s + (length (byte ∷ r1) - length r1) ≡ place end r1 = omega arith in
      finds_as Whole (λ turns. k turns (place end r1)) (λ turns. bind_at (place end s) (λ _. item (nat_eq byte)) (λ at2 _. k turns at2)) found r1 s r2 (omega arith)
      (λ turns. subst (λ (w : List ℕ). bind_at (place end s) (λ _. item (nat_eq byte)) (λ at2 _. k turns at2) w ≡ k turns (place end r1) r1) (sym e) (rw (q, m) refl)) h

  pub stops_item : (stop : Stop) → Expects {U = Unit {0}} byte (Err stop) s r1 → Finds Whole (λ turns. bind_at (place end s) (λ _. item (nat_eq byte)) (λ at2 _. k turns at2)) (Err stop) s r1
  stops_item Off e = λ turns lt. rw e refl
  stops_item Memory e = tt

-- ---- options

abbrev then_option : ℕ → ℕ → ℕ → FirstOption → Read Options
then_option d turns at o = on_head (nat_eq 44) (bind_at at (λ _. item (nat_eq 44)) (λ at2 _. second_option d turns o at2)) (done (alone o))

abbrev first_of_options : ℕ → ℕ → ℕ → Read FirstOption
first_of_options d turns = between_at (first_word_at d turns)

module _ (d end : ℕ) (s r1 : List ℕ) (n0 n1 : List Node) (room : length s ≤ end) (shrinks : length r1 ≤ length s) where
  options_is : (x : FirstOption) (turns : ℕ) → first_of_options d turns (place end s) s ≡ (Some x, r1) → options_at d turns (place end s) s ≡ then_option d turns (place end r1) x r1
  unfolding options_at
  options_is x turns e = let m : place end s + (length s - length r1) ≡ place end r1 = omega arith in rw (e, m) refl

  pub first_stops_options : (Shown : First → FirstOption → Type 0) (Told : FlatOptions → Options → Type 0) (stop : Stop) → Finds Shown (λ turns. first_of_options d turns (place end s)) (Err stop) s r1 → Finds Told (λ turns. options_at d turns (place end s)) (Err stop) s r1
  unfolding options_at
  first_stops_options Shown Told Off h = λ turns lt. let e = h turns lt in rw e refl
  first_stops_options Shown Told Memory h = tt

  address_alone_by : (r0 : List ℕ) (a : FlatAddress) (x : FirstOption) → Adds ShowsFirst FirstFits n0 n1 (FirstForWhom a) x → ((turns : ℕ) → length s < turns → first_of_options d turns (place end s) s ≡ (Some x, r1)) → takes_at 44 r1 ≡ (Some false, r0)
      → Finds (Adds ShowsOptions OptionsFit n0 n1) (λ turns. options_at d turns (place end s)) (Ok (FlatAddressed a)) s r0
  address_alone_by r0 a (ForWhom x) p h e =
      let k = left 44 r1 r0 e in
      let rest = k.0 in
      let own = p.shows in
      let same : own.0 ≡ a = cc in (
        Addressed x,
        record { shows = (own.0, rw same refl, own.2); keeps = p.keeps; fits = p.fits },
        λ turns lt.
            rw rest (options_is (ForWhom x) turns (h turns lt) ∙ head_free (nat_eq 44) (bind_at (place end r1) (λ _. item (nat_eq 44)) (λ at2 _. second_option d turns (ForWhom x) at2)) (Addressed x) r1 k.1),
      )
  address_alone_by r0 a (OnWhat y) p h e = let own = p.shows in let bad = own.1 in absurd cc

  branch_alone_by : (r0 : List ℕ) (b : FlatBranch) (x : FirstOption) → Adds ShowsFirst FirstFits n0 n1 (FirstOnWhat b) x → ((turns : ℕ) → length s < turns → first_of_options d turns (place end s) s ≡ (Some x, r1)) → takes_at 44 r1 ≡ (Some false, r0)
      → Finds (Adds ShowsOptions OptionsFit n0 n1) (λ turns. options_at d turns (place end s)) (Ok (FlatBranched b)) s r0
  branch_alone_by r0 b (OnWhat y) p h e =
      let k = left 44 r1 r0 e in
      let rest = k.0 in
      let own = p.shows in
      let same : own.0 ≡ b = cc in (
        Branched y,
        record { shows = (own.0, rw same refl, own.2); keeps = p.keeps; fits = p.fits },
        λ turns lt.
            rw rest (options_is (OnWhat y) turns (h turns lt) ∙ head_free (nat_eq 44) (bind_at (place end r1) (λ _. item (nat_eq 44)) (λ at2 _. second_option d turns (OnWhat y) at2)) (Branched y) r1 k.1),
      )
  branch_alone_by r0 b (ForWhom x) p h e = let own = p.shows in let bad = own.1 in absurd cc

  pub address_alone : (r0 : List ℕ) (a : FlatAddress) → Finds (Adds ShowsFirst FirstFits n0 n1) (λ turns. first_of_options d turns (place end s)) (Ok (FirstForWhom a)) s r1 → takes_at 44 r1 ≡ (Some false, r0)
      → Finds (Adds ShowsOptions OptionsFit n0 n1) (λ turns. options_at d turns (place end s)) (Ok (FlatAddressed a)) s r0
  address_alone r0 a h e = address_alone_by r0 a h.0 h.1 h.2 e

  pub branch_alone : (r0 : List ℕ) (b : FlatBranch) → Finds (Adds ShowsFirst FirstFits n0 n1) (λ turns. first_of_options d turns (place end s)) (Ok (FirstOnWhat b)) s r1 → takes_at 44 r1 ≡ (Some false, r0)
      → Finds (Adds ShowsOptions OptionsFit n0 n1) (λ turns. options_at d turns (place end s)) (Ok (FlatBranched b)) s r0
  branch_alone r0 b h e = branch_alone_by r0 b h.0 h.1 h.2 e

  -- a comma and an option of the other kind
  comma_is : (x : FirstOption) (turns : ℕ) (r2 : List ℕ) → r1 ≡ 44 ∷ r2 → length r1 ≤ end → then_option d turns (place end r1) x r1 ≡ second_option d turns x (place end r2) r2
  comma_is x turns r2 e room1 =
      let len : length r1 ≡ suc (length r2) = rw e refl in
      let m : place end r1 + (length (44 ∷ r2) - length r2) ≡ place end r2 = omega arith in
      subst (λ (w : List ℕ). then_option d turns (place end r1) x w ≡ second_option d turns x (place end r2) r2) (sym e) (rw m refl)

  module _ (r2 r3 : List ℕ) (n2 : List Node) (comma : takes_at 44 r1 ≡ (Some true, r2)) where
    second_is : (x : FirstOption) (turns : ℕ) → first_of_options d turns (place end s) s ≡ (Some x, r1) → options_at d turns (place end s) s ≡ second_option d turns x (place end r2) r2
    second_is x turns e = options_is x turns e ∙ comma_is x turns r2 (took 44 r1 r2 comma) (omega arith)

    shorter : length r2 < length s
    shorter = let k = took 44 r1 r2 comma in let len : length r1 ≡ suc (length r2) = rw k refl in omega arith

    address_then_by : (a : FlatAddress) (b : FlatBranch) (x : FirstOption) → Adds ShowsFirst FirstFits n0 n1 (FirstForWhom a) x → ((turns : ℕ) → length s < turns → first_of_options d turns (place end s) s ≡ (Some x, r1))
        → Finds (Adds ShowsBranch BranchFits n1 n2) (λ turns. between_at (branch_word_at d turns) (place end r2)) (Ok b) r2 r3 → Finds (Adds ShowsOptions OptionsFit n0 n2) (λ turns. options_at d turns (place end s)) (Ok (FlatAddressFirst a b)) s r3
    address_then_by a b (ForWhom x) p h g =
        let own = p.shows in
        let same : own.0 ≡ a = cc in (
          AddressFirst x g.0,
          record { shows = (own.0, b, rw same refl, address_kept n1 n2 own.0 x g.1.keeps own.2, g.1.shows); keeps = keeps_then n0 n1 n2 p.keeps g.1.keeps; fits = λ f u. g.1.fits (p.fits f u.0) u.1 },
          λ turns lt.
              let short = shorter in
              let e = g.2 turns (omega (arith, short)) in
              second_is (ForWhom x) turns (h turns lt) ∙ rw e refl,
        )
    address_then_by a b (OnWhat y) p h g = let own = p.shows in let bad = own.1 in absurd cc

    branch_then_by : (b : FlatBranch) (a : FlatAddress) (x : FirstOption) → Adds ShowsFirst FirstFits n0 n1 (FirstOnWhat b) x → ((turns : ℕ) → length s < turns → first_of_options d turns (place end s) s ≡ (Some x, r1))
        → Finds (Adds ShowsAddress AddressFits n1 n2) (λ turns. between_at (address_word_at d turns) (place end r2)) (Ok a) r2 r3 → Finds (Adds ShowsOptions OptionsFit n0 n2) (λ turns. options_at d turns (place end s)) (Ok (FlatBranchFirst b a)) s r3
    branch_then_by b a (OnWhat y) p h g =
        let own = p.shows in
        let same : own.0 ≡ b = cc in (
          BranchFirst y g.0,
          record { shows = (own.0, a, rw same refl, branch_kept n1 n2 own.0 y g.1.keeps own.2, g.1.shows); keeps = keeps_then n0 n1 n2 p.keeps g.1.keeps; fits = λ f u. g.1.fits (p.fits f u.0) u.1 },
          λ turns lt.
              let short = shorter in
              let e = g.2 turns (omega (arith, short)) in
              second_is (OnWhat y) turns (h turns lt) ∙ rw e refl,
        )
    branch_then_by b a (ForWhom x) p h g = let own = p.shows in let bad = own.1 in absurd cc

    pub address_then : (a : FlatAddress) (b : FlatBranch) → Finds (Adds ShowsFirst FirstFits n0 n1) (λ turns. first_of_options d turns (place end s)) (Ok (FirstForWhom a)) s r1
        → Finds (Adds ShowsBranch BranchFits n1 n2) (λ turns. between_at (branch_word_at d turns) (place end r2)) (Ok b) r2 r3 → Finds (Adds ShowsOptions OptionsFit n0 n2) (λ turns. options_at d turns (place end s)) (Ok (FlatAddressFirst a b)) s r3
    address_then a b h g = address_then_by a b h.0 h.1 h.2 g

    pub branch_then : (b : FlatBranch) (a : FlatAddress) → Finds (Adds ShowsFirst FirstFits n0 n1) (λ turns. first_of_options d turns (place end s)) (Ok (FirstOnWhat b)) s r1
        → Finds (Adds ShowsAddress AddressFits n1 n2) (λ turns. between_at (address_word_at d turns) (place end r2)) (Ok a) r2 r3 → Finds (Adds ShowsOptions OptionsFit n0 n2) (λ turns. options_at d turns (place end s)) (Ok (FlatBranchFirst b a)) s r3
    branch_then b a h g = branch_then_by b a h.0 h.1 h.2 g

    address_then_stops_by : (Told : FlatOptions → Options → Type 0) (a : FlatAddress) (x : FirstOption) → Adds ShowsFirst FirstFits n0 n1 (FirstForWhom a) x → ((turns : ℕ) → length s < turns → first_of_options d turns (place end s) s ≡ (Some x, r1))
        → Finds (Adds ShowsBranch BranchFits n1 n2) (λ turns. between_at (branch_word_at d turns) (place end r2)) (Err Off) r2 r3 → Finds Told (λ turns. options_at d turns (place end s)) (Err Off) s r3
    address_then_stops_by Told a (ForWhom x) p h g = λ turns lt.
        let short = shorter in
        let e = g turns (omega (arith, short)) in
        second_is (ForWhom x) turns (h turns lt) ∙ rw e refl
    address_then_stops_by Told a (OnWhat y) p h g = let own = p.shows in let bad = own.1 in absurd cc

    branch_then_stops_by : (Told : FlatOptions → Options → Type 0) (b : FlatBranch) (x : FirstOption) → Adds ShowsFirst FirstFits n0 n1 (FirstOnWhat b) x → ((turns : ℕ) → length s < turns → first_of_options d turns (place end s) s ≡ (Some x, r1))
        → Finds (Adds ShowsAddress AddressFits n1 n2) (λ turns. between_at (address_word_at d turns) (place end r2)) (Err Off) r2 r3 → Finds Told (λ turns. options_at d turns (place end s)) (Err Off) s r3
    branch_then_stops_by Told b (OnWhat y) p h g = λ turns lt.
        let short = shorter in
        let e = g turns (omega (arith, short)) in
        second_is (OnWhat y) turns (h turns lt) ∙ rw e refl
    branch_then_stops_by Told b (ForWhom x) p h g = let own = p.shows in let bad = own.1 in absurd cc

    pub address_then_stops : (Told : FlatOptions → Options → Type 0) (a : FlatAddress) (stop : Stop) → Finds (Adds ShowsFirst FirstFits n0 n1) (λ turns. first_of_options d turns (place end s)) (Ok (FirstForWhom a)) s r1
        → Finds (Adds ShowsBranch BranchFits n1 n2) (λ turns. between_at (branch_word_at d turns) (place end r2)) (Err stop) r2 r3 → Finds Told (λ turns. options_at d turns (place end s)) (Err stop) s r3
    address_then_stops Told a Off h g = address_then_stops_by Told a h.0 h.1 h.2 g
    address_then_stops Told a Memory h g = tt

    pub branch_then_stops : (Told : FlatOptions → Options → Type 0) (b : FlatBranch) (stop : Stop) → Finds (Adds ShowsFirst FirstFits n0 n1) (λ turns. first_of_options d turns (place end s)) (Ok (FirstOnWhat b)) s r1
        → Finds (Adds ShowsAddress AddressFits n1 n2) (λ turns. between_at (address_word_at d turns) (place end r2)) (Err stop) r2 r3 → Finds Told (λ turns. options_at d turns (place end s)) (Err stop) s r3
    branch_then_stops Told b Off h g = branch_then_stops_by Told b h.0 h.1 h.2 g
    branch_then_stops Told b Memory h g = tt

-- ---- the end of a roll

module _ (d end at first : ℕ) (q : FlatOptions) (o : Options) (x : Tree) (s : List ℕ) (n0 : List Node) (room : length s ≤ end) (own : ShowsOptions n0 q o) (shown : Shows n0 first x) where
  pub end_none : (r : List ℕ) → s ≡ 93 ∷ r → Finds (AddsRoll o x n0 n0) (λ turns. roll_end d turns at o (place end s) x) (Ok (FlatRoll at q first None)) s r
  end_none r e = (
    Roll at o x None,
    record { adds = record { shows = (q, first, refl, own, shown); keeps = keeps_itself n0; fits = λ f u. f }; parts = λ u. u },
    λ turns lt.
        let no_second = and_false (has_if o) in
        subst (λ (w : List ℕ). roll_end d turns at o (place end s) x w ≡ (Some (Roll at o x None), r)) (sym e) (rw no_second refl),
  )

  module _ (second : ℕ) (r1 r2 r3 : List ℕ) (n1 : List Node) (may : has_if o ≡ true) (e : s ≡ 59 ∷ r1) (shrinks : length r2 ≤ length r1)
      (h : Finds (Puts n0 n1) (λ turns. statement_at d turns (place end r1)) (Ok second) r1 r2) where
    some_is : (turns : ℕ) → length s < turns → roll_end d turns at o (place end s) x s ≡ letter_at 93 (Roll at o x (Some h.0)) r2
    some_is turns lt =
        let len : length s ≡ suc (length r1) = rw e refl in
        let m1 : place end s + (length (59 ∷ r1) - length r1) ≡ place end r1 = omega arith in
        let f = h.2 turns (omega arith) in
        subst (λ (w : List ℕ). roll_end d turns at o (place end s) x w ≡ letter_at 93 (Roll at o x (Some h.0)) r2) (sym e) (rw (may, m1, f) refl)

    pub end_some : r2 ≡ 93 ∷ r3 → Finds (AddsRoll o x n0 n1) (λ turns. roll_end d turns at o (place end s) x) (Ok (FlatRoll at q first (Some second))) s r3
    end_some g = (
      Roll at o x (Some h.0),
      record {
        adds = record { shows = (q, first, second, refl, options_kept n0 n1 q o h.1.keeps own, shows_kept n0 n1 first x h.1.keeps shown, h.1.shows); keeps = h.1.keeps; fits = λ f u. h.1.fits f u.2 };
        parts = λ u. (u.0, u.1);
      },
      λ turns lt. some_is turns lt ∙ rw g refl,
    )

    pub end_open : (Shown : FlatPiece → Piece → Type 0) (stop : Stop) → Expects {U = Unit {0}} 93 (Err stop) r2 r3 → Finds Shown (λ turns. roll_end d turns at o (place end s) x) (Err stop) s r3
    end_open Shown Off g = λ turns lt. some_is turns lt ∙ rw g refl
    end_open Shown Memory g = tt

-- ---- rolls

abbrev pub after_options : ℕ → ℕ → ℕ → ℕ → Options → Read Piece
after_options d at turns at3 o = bind_at at3 (λ _. item (nat_eq 58)) (λ at4 _. bind_at at4 (statement_at d turns) (roll_end d turns at o))

abbrev pub inside_roll : ℕ → ℕ → ℕ → ℕ → Read Piece
inside_roll d at turns at2 = bind_at at2 (options_at d turns) (after_options d at turns)

module _ (d end : ℕ) (s r1 : List ℕ) (room : length s ≤ end) where
  pub roll_opens : (Whole : FlatPiece → Piece → Type 0) (found : Result FlatPiece Stop) (r : List ℕ) → s ≡ 91 ∷ r1 → Finds Whole (λ turns. inside_roll d (place end s) turns (place end r1)) found r1 r → Finds Whole (λ turns. roll_at d turns (place end s)) found s r
  unfolding roll_at
  roll_opens Whole found r e h = finds_item Whole (λ turns at2. inside_roll d (place end s) turns at2) 91 end s r1 room found r e h

  pub roll_stops : (Whole : FlatPiece → Piece → Type 0) (stop : Stop) → Expects {U = Unit {0}} 91 (Err stop) s r1 → Finds Whole (λ turns. roll_at d turns (place end s)) (Err stop) s r1
  unfolding roll_at
  roll_stops Whole stop e = stops_item Whole (λ turns at2. inside_roll d (place end s) turns at2) 91 end s r1 room stop e

module _ (d end at : ℕ) (r1 r2 : List ℕ) (n0 n1 : List Node) (room : length r1 ≤ end) (shrinks : length r2 ≤ length r1) where
  pub options_stop : (Whole : FlatPiece → Piece → Type 0) (stop : Stop) → Finds (Adds ShowsOptions OptionsFit n0 n1) (λ turns. options_at d turns (place end r1)) (Err stop) r1 r2 → Finds Whole (λ turns. inside_roll d at turns (place end r1)) (Err stop) r1 r2
  options_stop Whole stop h = stops_then (Adds ShowsOptions OptionsFit n0 n1) Whole (λ turns. options_at d turns) (λ turns. after_options d at turns) (place end r1) stop r1 r2 h

  module _ (q : FlatOptions) (h : Finds (Adds ShowsOptions OptionsFit n0 n1) (λ turns. options_at d turns (place end r1)) (Ok q) r1 r2) where
    pub colon_stops : (Whole : FlatPiece → Piece → Type 0) (stop : Stop) (r3 : List ℕ) → Expects {U = Unit {0}} 58 (Err stop) r2 r3 → Finds Whole (λ turns. inside_roll d at turns (place end r1)) (Err stop) r1 r3
    colon_stops Whole stop r3 e =
        finds_then (Adds ShowsOptions OptionsFit n0 n1) Whole Whole (λ turns. options_at d turns) (λ turns. after_options d at turns) end q (Err stop) r1 r2 r3 room shrinks h
        (stops_item Whole (λ turns at4. bind_at at4 (statement_at d turns) (roll_end d turns at h.0)) 58 end r2 r3 (omega arith) stop e) (λ w u z. z)

    module _ (r3 r4 : List ℕ) (n2 : List Node) (colon : r2 ≡ 58 ∷ r3) (shrinks2 : length r4 ≤ length r3) where
      room3 : length r3 ≤ end
      room3 = let len : length r2 ≡ suc (length r3) = rw colon refl in omega arith

      pub statement_stops : (Whole : FlatPiece → Piece → Type 0) (stop : Stop) → Finds (Puts n1 n2) (λ turns. statement_at d turns (place end r3)) (Err stop) r3 r4 → Finds Whole (λ turns. inside_roll d at turns (place end r1)) (Err stop) r1 r4
      statement_stops Whole stop g =
          finds_then (Adds ShowsOptions OptionsFit n0 n1) Whole Whole (λ turns. options_at d turns) (λ turns. after_options d at turns) end q (Err stop) r1 r2 r4 room shrinks h
          (finds_item Whole (λ turns at4. bind_at at4 (statement_at d turns) (roll_end d turns at h.0)) 58 end r2 r3 (omega arith) (Err stop) r4 colon
          (stops_then (Puts n1 n2) Whole (λ turns. statement_at d turns) (λ turns. roll_end d turns at h.0) (place end r3) stop r3 r4 g)) (λ w u z. z)

      pub roll_found : (first : ℕ) (found : Result FlatPiece Stop) (r5 : List ℕ) (n3 : List Node) → Finds (Puts n1 n2) (λ turns. statement_at d turns (place end r3)) (Ok first) r3 r4
          → ((o : Options) (x : Tree) → ShowsOptions n2 q o → Shows n2 first x → Finds (AddsRoll o x n2 n3) (λ turns. roll_end d turns at o (place end r4) x) found r4 r5)
          → Finds (Adds ShowsPiece PieceFits n0 n3) (λ turns. inside_roll d at turns (place end r1)) found r1 r5
      roll_found first found r5 n3 g last =
          let own = options_kept n1 n2 q h.0 g.1.keeps h.1.shows in
          let more = last h.0 g.0 own g.1.shows in
          let room4 = room3 in
          finds_then (Adds ShowsOptions OptionsFit n0 n1) (AddsRoll h.0 g.0 n2 n3) (Adds ShowsPiece PieceFits n0 n3) (λ turns. options_at d turns) (λ turns. after_options d at turns) end q found r1 r2 r5 room shrinks h
          (finds_item (AddsRoll h.0 g.0 n2 n3) (λ turns at4. bind_at at4 (statement_at d turns) (roll_end d turns at h.0)) 58 end r2 r3 (omega arith) found r5 colon
          (finds_then (Puts n1 n2) (AddsRoll h.0 g.0 n2 n3) (AddsRoll h.0 g.0 n2 n3) (λ turns. statement_at d turns) (λ turns. roll_end d turns at h.0) end first found r3 r4 r5 (omega (arith, room4)) shrinks2 g more (λ w u z. z)))
          (λ w u a. record {
            shows = a.adds.shows;
            keeps = keeps_then n0 n2 n3 (keeps_then n0 n1 n2 h.1.keeps g.1.keeps) a.adds.keeps;
            fits = λ f z. let p = a.parts z in a.adds.fits (g.1.fits (h.1.fits f p.0) p.1) z;
          })
