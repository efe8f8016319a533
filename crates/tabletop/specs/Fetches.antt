-- Files that are fetched before a job begins.
use Rattle.std.specs.Prelude.{◌≡◌, ◌≤◌, ◌⊎◌, ℕ, List, length, IfSome, Option, Some}
use Rattle.transcript_check.specs.Checks.{IsPlayable}
use Rattle.tabletop.specs.declared.endings.Ended.{Ended}
use Rattle.tabletop.specs.Ends.{NotFetched, campaign_limit}

-- a file has this text, where the desk tells it
abbrev pub IsFetched : Option (List ℕ) → List ℕ → Type 0
IsFetched campaign text = IfSome campaign (λ told. text ≡ told) × (length text ≤ campaign_limit)

-- of two files one wasn't fetched: the first, or the first was and the second wasn't
abbrev pub OneNotFetched : (DeskFailed : Type 0) → Ended → (campaign script : Option (List ℕ)) → Type 0
OneNotFetched DeskFailed ended campaign script =
    NotFetched DeskFailed ended campaign ⊎ ((text : List ℕ) × IsFetched campaign text × NotFetched DeskFailed ended script)

-- the desk tells the text of the name, and it isn't too large
pub record IsThere (texts : List ℕ → Option (List ℕ)) (name text : List ℕ) : Type 0 where
  pub told : texts name ≡ Some text
  pub small : length text ≤ campaign_limit

-- so it is with a campaign's text and a script's, and the script is played there to its end
pub record IsPlayableAt (texts : List ℕ → Option (List ℕ)) (file script : List ℕ) : Type 0 where
  pub campaign : List ℕ
  pub lines : List ℕ
  pub campaign_there : IsThere texts file campaign
  pub lines_there : IsThere texts script lines
  pub playable : IsPlayable campaign lines
