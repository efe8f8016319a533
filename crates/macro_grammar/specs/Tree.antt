-- What a macro text means, as trees whose nodes know their places.
use Rattle.std.specs.Prelude.{ℕ, List, Option}
use Rattle.dice_parse.specs.declared.parts.Group.{Group}
use Rattle.macro_grammar.specs.declared.words.Operator.{Operator}
use Rattle.macro_grammar.specs.declared.words.Function.{Function}

-- an expression or an assignment; at is the node's first byte, or the operator's of a binary one
pub data Tree : Type 0 where
  Number : (at : ℕ) → (value : ℕ) → Tree
  Dice : (at : ℕ) → Group → Tree
  Quoted : (at : ℕ) → (text : List ℕ) → Tree
  Name : (at : ℕ) → (name : List ℕ) → Tree
  Call0 : (at : ℕ) → Function → Tree
  Call1 : (at : ℕ) → Function → Tree → Tree
  Call2 : (at : ℕ) → Function → Tree → Tree → Tree
  Call3 : (at : ℕ) → Function → Tree → Tree → Tree → Tree
  Negated : (at : ℕ) → Tree → Tree
  Inverted : (at : ℕ) → Tree → Tree
  Binary : (at : ℕ) → Operator → Tree → Tree → Tree
  Assigned : (at : ℕ) → (name : List ℕ) → Tree → Tree

-- whom a roll is for
pub data Address : Type 0 where
  Receivers : (at : ℕ) → Address
  Hidden : (at : ℕ) → Address
  Master : (at : ℕ) → Address
  Runner : (at : ℕ) → Address
  Both : (at : ℕ) → Address
  Whisper : (at : ℕ) → Tree → Address

-- what a roll's statements hang on
pub data Branch : Type 0 where
  If : (at : ℕ) → Tree → Branch
  Count : (at : ℕ) → Tree → Branch

-- in the order in which they stand
pub data Options : Type 0 where
  Addressed : Address → Options
  Branched : Branch → Options
  AddressFirst : Address → Branch → Options
  BranchFirst : Branch → Address → Options

-- plain text with its escapes undone, the maximal run between rolls; or a roll
pub data Piece : Type 0 where
  Plain : (at : ℕ) → (text : List ℕ) → Piece
  Roll : (at : ℕ) → Options → Tree → Option Tree → Piece

-- the option that stands first
pub data FirstOption : Type 0 where
  ForWhom : Address → FirstOption
  OnWhat : Branch → FirstOption
