-- The list of a fight, whose turn it is, and in which round.
use Rattle.std.specs.Prelude.{◌≡◌, ◌≤◌, ◌↔◌, ℕ, ℤ, ◌+◌, min, Bool, true, false, not, if◌then◌else◌, List, [], ◌∷◌, AllPairs, Option, Some, None, IsNone, IfSome, option_map}
use Rattle.std.specs.List.{filter, list_any, position_or_len, slice_get}
use Rattle.std.specs.List.Sorted.{IsStrictlySortedBy}
use Rattle.std.specs.BTreeSet.{insert_key}
use Rattle.std.specs.declared.cmp.Ordering.{Ordering}
use Rattle.std.specs.Ordering.{flip_args, int_cmp, on, then_cmp}
use Rattle.names.specs.declared.token_id.TokenId.{TokenId}
use Rattle.names.specs.TokenId.{id_cmp, id_eq}
use Rattle.initiative.specs.declared.entry.Entry.{Entry}

-- ---- the list

-- the greater value is first, and of equal values the lesser id
abbrev pub entry_cmp : Entry → Entry → Ordering
entry_cmp = then_cmp (flip_args (on (λ entry. entry.value) int_cmp)) (on (λ entry. entry.id) id_cmp)

abbrev pub is_of : TokenId → Entry → Bool
is_of id entry = id_eq entry.id id

-- the token has an entry
abbrev pub is_listed : TokenId → List Entry → Bool
is_listed id list = list_any (is_of id) list

-- the list without the token's entry
abbrev pub without : TokenId → List Entry → List Entry
without id list = filter (λ entry. not (is_of id entry)) list

-- the list with this as the one entry of its token, at its place in the order
abbrev pub list_with : Entry → List Entry → List Entry
list_with entry list = insert_key entry_cmp (without entry.id list) entry

-- whose entry stands at that place
abbrev pub token_at : List Entry → ℕ → Option TokenId
token_at list place = option_map (λ entry. entry.id) (slice_get list place)

-- where the token's entry stands
abbrev pub place_of : TokenId → List Entry → ℕ
place_of id list = position_or_len (is_of id) list

-- whose entry follows that of the token that has the turn
abbrev pub following : Option TokenId → List Entry → Option TokenId
following None list = None
following (Some id) list = token_at list (place_of id list + 1)

-- ---- a fight

pub record Rounds : Type 0 where
  pub list : List Entry
  -- the token whose turn it is
  pub turn : Option TokenId
  pub round : ℕ

abbrev pub round_limit : ℕ
round_limit = 999999999

-- what is true of every fight
pub record IsFight (fight : Rounds) : Type 0 where
  pub in_order : IsStrictlySortedBy entry_cmp fight.list
  -- no token has two entries
  pub apart : AllPairs (λ one other. id_eq one.id other.id ≡ false) fight.list
  pub turn : IfSome fight.turn (λ id. is_listed id fight.list ≡ true)
  pub begun : IsNone fight.turn ↔ (fight.round ≡ 0)
  pub limit : fight.round ≤ round_limit

-- before it begins
abbrev pub no_fight : Rounds
no_fight = record { list = []; turn = None; round = 0 }

abbrev pub with_list : List Entry → Rounds → Rounds
with_list list fight = record { list = list; turn = fight.turn; round = fight.round }

-- ---- an entry is set

abbrev pub with_entry : TokenId → ℤ → Rounds → Rounds
with_entry id value fight = with_list (list_with (record { value = value; id = id }) fight.list) fight

-- the same in words: the token has the one entry with that value, all other entries stay, and so do turn and round
pub record SetsEntry (id : TokenId) (value : ℤ) (old new : Rounds) : Type 0 where
  pub own : filter (is_of id) new.list ≡ record { value = value; id = id } ∷ []
  pub others : without id new.list ≡ without id old.list
  pub turn : new.turn ≡ old.turn
  pub round : new.round ≡ old.round

-- ---- the turn passes on

-- a round begins with the first token, and the number of rounds stays at its limit
abbrev pub begun_with : Option TokenId → Rounds → Rounds
begun_with None fight = fight
begun_with (Some first) fight = record { list = fight.list; turn = Some first; round = min (fight.round + 1) round_limit }

abbrev pub passed_to : Option TokenId → Rounds → Rounds
passed_to None fight = begun_with (token_at fight.list 0) fight
passed_to (Some next) fight = record { list = fight.list; turn = Some next; round = fight.round }

-- the turn goes to the token whose entry follows, if there is one, or else a round begins
abbrev pub passed : Rounds → Rounds
passed fight = passed_to (following fight.turn fight.list) fight

-- the same in words
pub record PassesTurn (old new : Rounds) : Type 0 where
  pub list : new.list ≡ old.list
  -- where nobody has the turn, the first one gets it, in round 1
  pub begins : old.turn ≡ None → (first : TokenId) → token_at old.list 0 ≡ Some first → (new.turn ≡ Some first) × (new.round ≡ 1)
  -- each one but the last passes it to the next one, in the same round
  pub goes_on : (place : ℕ) (id next : TokenId) → old.turn ≡ Some id → token_at old.list place ≡ Some id → token_at old.list (place + 1) ≡ Some next
      → (new.turn ≡ Some next) × (new.round ≡ old.round)
  -- the last one passes it to the first one, and the round rises by one, but stays at its limit
  pub goes_round : (place : ℕ) (id first : TokenId) → old.turn ≡ Some id → token_at old.list place ≡ Some id → token_at old.list (place + 1) ≡ None
      → token_at old.list 0 ≡ Some first → (new.turn ≡ Some first) × (new.round ≡ min (old.round + 1) round_limit)

-- ---- an entry goes

abbrev pub has_turn : TokenId → Option TokenId → Bool
has_turn id None = false
has_turn id (Some turn) = id_eq turn id

-- the turn first passes on, where the token has it
abbrev pub passed_by : TokenId → Rounds → Rounds
passed_by id fight = if has_turn id fight.turn then passed fight else fight

-- the fight with that list; with no entry it is over
abbrev pub left_with : List Entry → Rounds → Rounds
left_with [] fight = no_fight
left_with (entry ∷ list) fight = with_list (entry ∷ list) fight

-- the token's entry goes, if it has one
abbrev pub without_entry : TokenId → Rounds → Rounds
without_entry id fight = if is_listed id fight.list then left_with (without id fight.list) (passed_by id fight) else fight
