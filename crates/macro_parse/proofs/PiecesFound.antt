-- Pieces, as the code reads them.
use Rattle.std.proofs.Common.{◌≡◌, ℕ, suc, ◌+◌, ◌-◌, ◌<◌, ◌≤◌, Bool, true, false, List, [], ◌∷◌, ◌++◌, length, Option, Some, None, Ok, Err, refl, sym, ap, ◌∙◌, append_assoc, append-nil, arith}
use Rattle.std.specs.Prelude.{Result, IsErrAnd, nat_eq}
use Rattle.std.proofs.lemmas.Bool.Decides.{nat_tests}
use Rattle.std.specs.Global.{Vec}
use Rattle.reading.specs.Reading.{Read, done, carry, bind, on_head}
use Rattle.reading.specs.Placed.{bind_at}
use Rattle.reading.proofs.Pairs.{got}
use Rattle.macro_parse.specs.declared.nodes.Node.{Node}
use Rattle.macro_parse.specs.declared.nodes.Piece.{Piece as FlatPiece}
use Rattle.macro_parse.specs.declared.nodes.Piece.TheVariants.{Plain as FlatPlain}
use Rattle.macro_parse.specs.declared.reader.Stop.{Stop}
use Rattle.macro_parse.specs.declared.reader.Stop.TheVariants.{Off, Memory}
use Rattle.macro_grammar.specs.Tree.{Piece, Plain, Roll}
use Rattle.macro_grammar.specs.Readers.{plain_text, roll_at, at_end, pieces_at}
use Rattle.macro_grammar.specs.Limits.{PieceFits, PiecesFit}
use Rattle.macro_parse.specs.Flat.{Keeps, place}
use Rattle.macro_parse.specs.FlatPieces.{ShowsPiece, ShowsPieces, Adds}
use Rattle.macro_parse.specs.Found.{with_bytes}
use Rattle.macro_parse.specs.Levels.{HeadIs}
use Rattle.macro_parse.specs.Turns.{PlainStep, FindsBytes, FindsPlain, in_front_of, with_pieces, RollGives, TurnGives, FindsPieces}
use Rattle.macro_parse.proofs.FlatTrees.{shows_kept, keeps_itself, keeps_then}
use Rattle.macro_grammar.specs.Grammar.{is_bracket}
use Rattle.macro_parse.proofs.Scans.{carry_front, front_twice}
use Rattle.macro_parse.proofs.Inside.{not_same}
use Rattle.macro_parse.proofs.RollsWhole.{options_kept}

-- ---- plain text

pub plain_goes_on : (whole text rest r : List ℕ) (b : ℕ) → plain_text false whole ≡ with_bytes text (plain_text false rest) → plain_text false rest ≡ with_bytes (b ∷ []) (plain_text false r) → plain_text false whole ≡ with_bytes (text ++ (b ∷ [])) (plain_text false r)
plain_goes_on whole text rest r b h e = h ∙ rw e (ap (λ (o : Option (List ℕ)). got o (plain_text false r).1) (front_twice text (b ∷ []) (plain_text false r).0))

pub plain_ends : (whole text rest r : List ℕ) → plain_text false whole ≡ with_bytes text (plain_text false rest) → plain_text false rest ≡ (Some [], r) → plain_text false whole ≡ (Some text, r)
plain_ends whole text rest r h e = h ∙ rw e (ap (λ (w : List ℕ). got (Some w) r) (append-nil text))

pub plain_stops : (whole text rest r : List ℕ) (stop : Stop) → plain_text false whole ≡ with_bytes text (plain_text false rest) → PlainStep rest (Err stop) r → FindsBytes (Err stop) whole r
plain_stops whole text rest r Off h e = h ∙ rw e refl
plain_stops whole text rest r Memory h e = tt

-- ---- lists of pieces

piece_kept : (xs zs : List Node) (p : FlatPiece) (t : Piece) → Keeps xs zs → ShowsPiece xs p t → ShowsPiece zs p t
piece_kept xs zs p (Plain at m) k h = h
piece_kept xs zs p (Roll at o x None) k (q, j, e, own, h) = (q, j, e, options_kept xs zs q o k own, shows_kept xs zs j x k h)
piece_kept xs zs p (Roll at o x (Some y)) k (q, j, l, e, own, h, g) = (q, j, l, e, options_kept xs zs q o k own, shows_kept xs zs j x k h, shows_kept xs zs l y k g)

pieces_kept : (xs zs : List Node) (ps : List FlatPiece) (ts : List Piece) → Keeps xs zs → ShowsPieces xs ps ts → ShowsPieces zs ps ts
pieces_kept xs zs [] [] k h = tt
pieces_kept xs zs [] (t ∷ ts) k h = absurd h
pieces_kept xs zs (p ∷ ps) [] k h = absurd h
pieces_kept xs zs (p ∷ ps) (t ∷ ts) k h = (piece_kept xs zs p t k h.0, pieces_kept xs zs ps ts k h.1)

shows_join : (nodes : List Node) (ps qs : List FlatPiece) (ts us : List Piece) → ShowsPieces nodes ps ts → ShowsPieces nodes qs us → ShowsPieces nodes (ps ++ qs) (ts ++ us)
shows_join nodes [] qs [] us h g = g
shows_join nodes [] qs (t ∷ ts) us h g = absurd h
shows_join nodes (p ∷ ps) qs [] us h g = absurd h
shows_join nodes (p ∷ ps) qs (t ∷ ts) us h g = (h.0, shows_join nodes ps qs ts us h.1 g)

fits_split : (ts us : List Piece) → PiecesFit (ts ++ us) → PiecesFit ts × PiecesFit us
fits_split [] us h = (tt, h)
fits_split (t ∷ ts) us h = let k = fits_split ts us h.1 in ((h.0, k.0), k.1)

pub adds_join : (n0 n1 n2 : List Node) (ps qs : List FlatPiece) (ts us : List Piece) → Adds ShowsPieces PiecesFit n0 n1 ps ts → Adds ShowsPieces PiecesFit n1 n2 qs us → Adds ShowsPieces PiecesFit n0 n2 (ps ++ qs) (ts ++ us)
adds_join n0 n1 n2 ps qs ts us a b = record {
  shows = shows_join n2 ps qs ts us (pieces_kept n1 n2 ps ts b.keeps a.shows) b.shows;
  keeps = keeps_then n0 n1 n2 a.keeps b.keeps;
  fits = λ f u. let k = fits_split ts us u in b.fits (a.fits f k.0) k.1;
}

pub adds_none : (n0 : List Node) → Adds ShowsPieces PiecesFit n0 n0 [] []
adds_none n0 = record { shows = tt; keeps = keeps_itself n0; fits = λ f u. f }

adds_one : (n0 n1 : List Node) (p : FlatPiece) (t : Piece) → Adds ShowsPiece PieceFits n0 n1 p t → Adds ShowsPieces PiecesFit n0 n1 (p ∷ []) (t ∷ [])
adds_one n0 n1 p t a = record { shows = (a.shows, tt); keeps = a.keeps; fits = λ f u. a.fits f u.0 }

-- ---- one byte of plain text

pub plain_itself : (b : ℕ) (s t : List ℕ) → s ≡ b ∷ t → (b ≡ 91 → ⊥) → (b ≡ 93 → ⊥) → (b ≡ 92 → ⊥) → plain_text false s ≡ with_bytes (b ∷ []) (plain_text false t)
plain_itself b s t e f1 f2 f3 =
    let g1 = not_same 91 b f1 in
    let g2 = not_same 93 b f2 in
    let g3 = not_same 92 b f3 in
    rw (e, g1, g2, g3) (carry_front b (plain_text false t).0 (plain_text false t).1)

pub plain_escaped : (a b : ℕ) (s t r : List ℕ) → s ≡ a ∷ t → a ≡ 92 → t ≡ b ∷ r → is_bracket b ≡ true → plain_text false s ≡ with_bytes (b ∷ []) (plain_text false r)
plain_escaped a b s t r e same f k = rw (e, same, f, k) (carry_front b (plain_text false r).0 (plain_text false r).1)

-- ---- turns

carry_two : (a p : Piece) (o : Option (List Piece)) (r : List ℕ) → carry (λ ps. done (a ∷ (p ∷ ps))) o r ≡ with_pieces (a ∷ (p ∷ [])) (o, r)
carry_two a p None r = refl
carry_two a p (Some ps) r = refl

abbrev got_pieces : Option (List Piece) → List ℕ → Option (List Piece) × List ℕ
got_pieces o r = (o, r)

front_of_twice : (ts us : List Piece) (o : Option (List Piece)) → in_front_of ts (in_front_of us o) ≡ in_front_of (ts ++ us) o
front_of_twice ts us None = refl
front_of_twice ts us (Some ps) = ap Some (sym (append_assoc ts us ps))

front_of_none : (o : Option (List Piece)) → in_front_of [] o ≡ o
front_of_none None = refl
front_of_none (Some ps) = refl

-- a roll, where plain text has ended and the text hasn't
roll_or_end : (d room at b : ℕ) (t : List ℕ) (x : List Piece) (k : ℕ → Piece → Read (List Piece)) (v : Bool) → nat_eq 91 b ≡ v → on_head (nat_eq 91) (bind_at at (roll_at d room) k) (at_end x) (b ∷ t) ≡ bind_at at (roll_at d room) k (b ∷ t)
unfolding roll_at
roll_or_end d room at b t x k true e = rw e refl
roll_or_end d room at b t x k false e = rw e refl

roll_not_end : (d room at : ℕ) (s : List ℕ) (x : List Piece) (k : ℕ → Piece → Read (List Piece)) → (length s ≡ 0 → ⊥) → on_head (nat_eq 91) (bind_at at (roll_at d room) k) (at_end x) s ≡ bind_at at (roll_at d room) k s
roll_not_end d room at [] x k h = absurd (h refl)
roll_not_end d room at (b ∷ t) x k h = roll_or_end d room at b t x k (nat_eq 91 b) refl

abbrev with_both : ℕ → ℕ → ℕ → Piece → ℕ → Piece → Read (List Piece)
with_both d room n a at p = bind (pieces_at d room n at) (λ ps. done (a ∷ (p ∷ ps)))

abbrev after_plain : ℕ → ℕ → ℕ → ℕ → ℕ → List ℕ → Read (List Piece)
after_plain d room n at at2 m = on_head (nat_eq 91) (bind_at at2 (roll_at d room) (with_both d room n (Plain at m))) (at_end (Plain at m ∷ []))

plain_turn : (d room n at : ℕ) (s : List ℕ) → HeadIs (nat_eq 91) s false → (length s ≡ 0 → ⊥) → pieces_at d room (suc n) at s ≡ bind_at at (λ _. plain_text false) (after_plain d room n at) s
plain_turn d room n at [] h f = absurd (f refl)
plain_turn d room n at (b ∷ s) h f = rw h refl

module _ (d end at : ℕ) (v : List ℕ) (s r : List ℕ) (ps0 ps1 : List FlatPiece) (n0 : List Node) (room : length s ≤ end) (shrinks : length r ≤ length s)
    (h : HeadIs (nat_eq 91) s false) (f : length s ≡ 0 → ⊥) (text : FindsPlain (Ok v) s r) (here : at ≡ place end s) (put : ps1 ≡ ps0 ++ (FlatPlain at v ∷ [])) where
  plain_adds : Adds ShowsPiece PieceFits n0 n0 (FlatPlain at v) (Plain (place end s) v)
  plain_adds = record { shows = rw here refl; keeps = keeps_itself n0; fits = λ g u. g }

  turn_is : (turns n : ℕ) → pieces_at d turns (suc n) (place end s) s ≡ after_plain d turns n (place end s) (place end r) v r
  turn_is turns n = let m : place end s + (length s - length r) ≡ place end r = omega arith in plain_turn d turns n (place end s) s h f ∙ rw (text, m) refl

  end_is : (turns n at2 : ℕ) (w : List ℕ) → length w ≡ 0 → after_plain d turns n (place end s) at2 v w ≡ (Some (Plain (place end s) v ∷ []), [])
  end_is turns n at2 [] e = refl
  end_is turns n at2 (b ∷ w) e = absurd (omega arith)

  nil_is : (w : List ℕ) → length w ≡ 0 → w ≡ []
  nil_is [] e = refl
  nil_is (b ∷ w) e = absurd (omega arith)

  pub plain_last : length r ≡ 0 → TurnGives d end ps0 ps1 n0 n0 (Ok false) s r
  plain_last e = (Plain (place end s) v ∷ [], (FlatPlain at v ∷ [], put, adds_one n0 n0 (FlatPlain at v) (Plain (place end s) v) plain_adds), nil_is r e, λ turns n lt. turn_is turns n ∙ end_is turns n (place end r) r e)

  module _ (g : length r ≡ 0 → ⊥) (r2 : List ℕ) (ps2 : List FlatPiece) (n1 : List Node) (shrinks2 : length r2 ≤ length r) where
    pub plain_then_roll : {U : Type 0} (u : U) → RollGives {U = U} d end ps1 ps2 n0 n1 (Ok u) r r2 → TurnGives d end ps0 ps2 n0 n1 (Ok true) s r2
    plain_then_roll u (t, (more, e, adds), told) =
        let a = Plain (place end s) v in
        let joined = adds_join n0 n0 n1 (FlatPlain at v ∷ []) more (a ∷ []) (t ∷ []) (adds_one n0 n0 (FlatPlain at v) a plain_adds) adds in (
          a ∷ (t ∷ []),
          (FlatPlain at v ∷ more, rw (e, put) (append_assoc ps0 (FlatPlain at v ∷ []) more), joined),
          λ turns n lt.
              let k = told turns (omega arith) in
              let m : place end r + (length r - length r2) ≡ place end r2 = omega arith in
              turn_is turns n ∙ (roll_not_end d turns (place end r) r (a ∷ []) (with_both d turns n a) g ∙ rw (k, m) (carry_two a t (pieces_at d turns n (place end r2) r2).0 (pieces_at d turns n (place end r2) r2).1)),
        )

    pub plain_then_stops : (stop : Stop) → RollGives {U = Unit {0}} d end ps1 ps2 n0 n1 (Err stop) r r2 → TurnGives d end ps0 ps2 n0 n1 (Err stop) s r2
    plain_then_stops Off told = λ turns n lt.
        let a = Plain (place end s) v in
        let k = told turns (omega arith) in
        turn_is turns n ∙ (roll_not_end d turns (place end r) r (a ∷ []) (with_both d turns n a) g ∙ rw k refl)
    plain_then_stops Memory told = tt

-- ---- all pieces

module _ (d end : ℕ) where
  -- so many turns were taken, and the pieces so far stand in front of what comes
  pub record TurnsSoFar (whole rest : List ℕ) (ts : List Piece) : Type 0 where
    pub count : ℕ
    pub told : (turns n : ℕ) → length whole < turns → turns ≡ count + n → pieces_at d turns turns (place end whole) whole ≡ with_pieces ts (pieces_at d turns n (place end rest) rest)
    pub room : count + length rest ≤ length whole

  pub turns_first : (whole : List ℕ) → TurnsSoFar whole whole []
  turns_first whole = record {
    count = 0;
    told = λ turns n lt e. let same : turns ≡ n = omega arith in rw same (sym (ap (λ (o : Option (List Piece)). got_pieces o (pieces_at d n n (place end whole) whole).1) (front_of_none (pieces_at d n n (place end whole) whole).0)));
    room = omega arith;
  }

  pub turns_next : (whole rest r : List ℕ) (ts us : List Piece) → TurnsSoFar whole rest ts → length r < length rest
      → ((turns n : ℕ) → length rest < turns → pieces_at d turns (suc n) (place end rest) rest ≡ with_pieces us (pieces_at d turns n (place end r) r)) → TurnsSoFar whole r (ts ++ us)
  turns_next whole rest r ts us s short h =
      let room = s.room in
      record {
        count = s.count + 1;
        told = λ turns n lt e.
            let k = h turns n (omega arith) in
            s.told turns (suc n) lt (omega arith) ∙ (ap (λ (p : Option (List Piece) × List ℕ). with_pieces ts p) k ∙ ap (λ (o : Option (List Piece)). got_pieces o (pieces_at d turns n (place end r) r).1) (front_of_twice ts us (pieces_at d turns n (place end r) r).0));
        room = omega arith;
      }

  pub turns_end : (whole rest : List ℕ) (ts us : List Piece) → TurnsSoFar whole rest ts
      → ((turns n : ℕ) → length rest < turns → pieces_at d turns (suc n) (place end rest) rest ≡ (Some us, [])) → (turns : ℕ) → length whole < turns → pieces_at d turns turns (place end whole) whole ≡ (Some (ts ++ us), [])
  turns_end whole rest ts us s h turns lt =
      let room = s.room in
      let n = turns - (s.count + 1) in
      let k = h turns n (omega arith) in
      s.told turns (suc n) lt (omega arith) ∙ ap (λ (p : Option (List Piece) × List ℕ). with_pieces ts p) k

  pub turns_stop : (whole rest r : List ℕ) (ts : List Piece) (ps0 ps1 : List FlatPiece) (n0 n1 n2 : List Node) (stop : Stop) → TurnsSoFar whole rest ts → TurnGives d end ps0 ps1 n1 n2 (Err stop) rest r → FindsPieces d end n0 n2 (Err stop) whole r
  turns_stop whole rest r ts ps0 ps1 n0 n1 n2 Off s h = λ turns lt.
      let room = s.room in
      let n = turns - (s.count + 1) in
      let k = h turns n (omega arith) in
      s.told turns (suc n) lt (omega arith) ∙ ap (λ (p : Option (List Piece) × List ℕ). with_pieces ts p) k
  turns_stop whole rest r ts ps0 ps1 n0 n1 n2 Memory s h = tt

pub pieces_residual : (d end : ℕ) (n0 n1 : List Node) (found : Result (Vec FlatPiece) Stop) (stop : Stop) (s r : List ℕ) → IsErrAnd found (λ e. e ≡ stop) → FindsPieces d end n0 n1 (Err stop) s r → FindsPieces d end n0 n1 found s r
pieces_residual d end n0 n1 (Ok v) stop s r e h = absurd e
pieces_residual d end n0 n1 (Err other) stop s r e h = rw e h

pub turn_residual : (d end : ℕ) (s r : List ℕ) (ps0 ps1 : List FlatPiece) (n0 n1 : List Node) (found : Result Bool Stop) (stop : Stop) → IsErrAnd found (λ e. e ≡ stop) → TurnGives d end ps0 ps1 n0 n1 (Err stop) s r → TurnGives d end ps0 ps1 n0 n1 found s r
turn_residual d end s r ps0 ps1 n0 n1 (Ok v) stop e h = absurd e
turn_residual d end s r ps0 ps1 n0 n1 (Err other) stop e h = rw e h

pub not_empty : (s : List ℕ) (v : Bool) → v ≡ nat_eq (length s) 0 → v ≡ false → length s ≡ 0 → ⊥
not_empty s v e f z = grind (arith, nat_tests)

pub is_empty : (s : List ℕ) (v : Bool) → v ≡ nat_eq (length s) 0 → v ≡ true → length s ≡ 0
is_empty s v e f = grind (arith, nat_tests)
