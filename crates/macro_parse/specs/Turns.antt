-- What reading pieces gives, turn by turn.
use Rattle.std.specs.Prelude.{◌≡◌, ℕ, suc, ◌<◌, Bool, true, false, List, [], ◌∷◌, ◌++◌, length, Option, Some, None, Result, Ok, Err}
use Rattle.std.specs.Global.{Vec}
use Rattle.macro_parse.specs.declared.nodes.Node.{Node}
use Rattle.macro_parse.specs.declared.nodes.Piece.{Piece as FlatPiece}
use Rattle.macro_parse.specs.declared.reader.Stop.{Stop}
use Rattle.macro_parse.specs.declared.reader.Stop.TheVariants.{Off, Memory}
use Rattle.macro_grammar.specs.Tree.{Piece}
use Rattle.macro_grammar.specs.Readers.{plain_text, roll_at, pieces_at}
use Rattle.macro_grammar.specs.Limits.{PiecesFit}
use Rattle.macro_parse.specs.Flat.{place}
use Rattle.macro_parse.specs.FlatPieces.{ShowsPieces, Adds}
use Rattle.macro_parse.specs.Found.{with_bytes}

-- one byte of plain text, or its end
abbrev pub PlainStep : List ℕ → Result (Option ℕ) Stop → List ℕ → Type 0
PlainStep s (Ok None) rest = plain_text false s ≡ (Some [], rest)
PlainStep s (Ok (Some b)) rest = plain_text false s ≡ with_bytes (b ∷ []) (plain_text false rest)
PlainStep s (Err Off) rest = plain_text false s ≡ (None, rest)
PlainStep s (Err Memory) rest = ⊥

abbrev pub FindsBytes : Result (Vec ℕ) Stop → List ℕ → List ℕ → Type 0
FindsBytes (Ok v) s rest = plain_text false s ≡ (Some v.items, rest)
FindsBytes (Err Off) s rest = plain_text false s ≡ (None, rest)
FindsBytes (Err Memory) s rest = Unit {0}

abbrev pub FindsPlain : Result (List ℕ) Stop → List ℕ → List ℕ → Type 0
FindsPlain (Ok text) s rest = plain_text false s ≡ (Some text, rest)
FindsPlain (Err Off) s rest = plain_text false s ≡ (None, rest)
FindsPlain (Err Memory) s rest = Unit {0}

-- pieces in front of those that were read
abbrev pub in_front_of : List Piece → Option (List Piece) → Option (List Piece)
in_front_of ps None = None
in_front_of ps (Some qs) = Some (ps ++ qs)

abbrev pub with_pieces : List Piece → Option (List Piece) × List ℕ → Option (List Piece) × List ℕ
with_pieces ps p = (in_front_of ps p.0, p.1)

-- pieces were put behind the old ones, which stand for ts
abbrev pub PutsPieces : List FlatPiece → List FlatPiece → List Node → List Node → List Piece → Type 0
PutsPieces old new n0 n1 ts = (more : List FlatPiece) × (new ≡ old ++ more) × Adds ShowsPieces PiecesFit n0 n1 more ts

-- the roll that comes next
abbrev pub RollGives : {U : Type 0} → ℕ → ℕ → List FlatPiece → List FlatPiece → List Node → List Node → Result U Stop → List ℕ → List ℕ → Type 0
RollGives d end old new n0 n1 (Ok u) s rest = (t : Piece) × PutsPieces old new n0 n1 (t ∷ []) × ((turns : ℕ) → length s < turns → roll_at d turns (place end s) s ≡ (Some t, rest))
RollGives d end old new n0 n1 (Err Off) s rest = (turns : ℕ) → length s < turns → roll_at d turns (place end s) s ≡ (None, rest)
RollGives d end old new n0 n1 (Err Memory) s rest = Unit {0}

-- one turn: all that is left, or a roll and what is before it
abbrev pub TurnGives : ℕ → ℕ → List FlatPiece → List FlatPiece → List Node → List Node → Result Bool Stop → List ℕ → List ℕ → Type 0
TurnGives d end old new n0 n1 (Ok false) s rest = (ts : List Piece) × PutsPieces old new n0 n1 ts × (rest ≡ []) × ((turns n : ℕ) → length s < turns → pieces_at d turns (suc n) (place end s) s ≡ (Some ts, []))
TurnGives d end old new n0 n1 (Ok true) s rest = (ts : List Piece) × PutsPieces old new n0 n1 ts × ((turns n : ℕ) → length s < turns → pieces_at d turns (suc n) (place end s) s ≡ with_pieces ts (pieces_at d turns n (place end rest) rest))
TurnGives d end old new n0 n1 (Err Off) s rest = (turns n : ℕ) → length s < turns → pieces_at d turns (suc n) (place end s) s ≡ (None, rest)
TurnGives d end old new n0 n1 (Err Memory) s rest = Unit {0}

-- all pieces of a text
abbrev pub FindsPieces : ℕ → ℕ → List Node → List Node → Result (Vec FlatPiece) Stop → List ℕ → List ℕ → Type 0
FindsPieces d end n0 n1 (Ok v) s rest = (ts : List Piece) × Adds ShowsPieces PiecesFit n0 n1 v.items ts × ((turns : ℕ) → length s < turns → pieces_at d turns turns (place end s) s ≡ (Some ts, []))
FindsPieces d end n0 n1 (Err Off) s rest = (turns : ℕ) → length s < turns → pieces_at d turns turns (place end s) s ≡ (None, rest)
FindsPieces d end n0 n1 (Err Memory) s rest = Unit {0}
