-- What a seat sees of a fight.
use Rattle.std.specs.Prelude.{ℕ, ℤ, ◌+◌, ◌||◌, Bool, List, [], ◌∷◌, map, take, Option, Some, None}
use Rattle.std.specs.List.{filter, last_or, list_any}
use Rattle.names.specs.declared.token_id.TokenId.{TokenId}
use Rattle.names.specs.TokenId.{id_eq}
use Rattle.initiative.specs.declared.entry.Entry.{Entry}
use Rattle.initiative.specs.Fights.{Rounds, place_of}
use Rattle.views.specs.declared.view.FightView.{FightView}
use Rattle.views.specs.declared.view.TokenView.{TokenView}

-- an entry as a view has it
abbrev pub entry_text : Entry → TokenId × ℤ
entry_text e = (e.id, e.value)

-- a token of that id stands in the view, or the view is the game master's
abbrev pub stands_in : Bool → List TokenView → TokenId → Bool
stands_in gm tokens id = gm || list_any (λ t. id_eq t.id id) tokens

-- the entries whose tokens stand in the view
abbrev pub entries_in : Bool → List TokenView → List Entry → List Entry
entries_in gm tokens list = filter (λ e. stands_in gm tokens e.id) list

-- the list up to the token's entry
abbrev pub up_to : TokenId → List Entry → List Entry
up_to id list = take (place_of id list + 1) list

-- the last token of the view at or before the one that has the turn
abbrev pub turn_in : Bool → List TokenView → List Entry → Option TokenId → Option TokenId
turn_in gm tokens list None = None
turn_in gm tokens list (Some id) = last_or None (map (λ e. e.id) (entries_in gm tokens (up_to id list)))

-- the part, where there is an entry in its list
abbrev pub part_with : ℕ → Option TokenId → List Entry → Option FightView
part_with round turn [] = None
part_with round turn (e ∷ es) = Some (record { list = map entry_text (e ∷ es); round = round; turn = turn })

-- the part of a seat, the game master or a player, whose view has these tokens
unfoldable pub fight_in : Bool → List TokenView → Rounds → Option FightView
fight_in gm tokens fight = part_with fight.round (turn_in gm tokens fight.list fight.turn) (entries_in gm tokens fight.list)

-- the entries of the part of a fight
abbrev pub list_in : Option FightView → List (TokenId × ℤ)
list_in None = []
list_in (Some f) = f.list
