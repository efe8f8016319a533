-- What a turn of the writing half finds and enters.
use Rattle.std.specs.Prelude.{◌≡◌, ℕ, Bool, true, false, List, length, flat_map, Some, option_map}
use Rattle.campaign_law.specs.declared.entry.Entry.{Entry}
use Rattle.campaign_law.specs.World.{World, seat_at, replay}
use Rattle.campaign_law.specs.Session.{session, waiting}
use Rattle.session.specs.declared.hold.Hold.{Hold}
use Rattle.session.specs.declared.exchange.Found.{Found}
use Rattle.session.specs.declared.exchange.Found.TheVariants.{Lines, Gone, Cut, Memory}
use Rattle.session.specs.Held.{is_held, is_cut}

-- these lines wait behind the first `count`, each with its LF
abbrev pub Waits : World → List Entry → Hold → ℕ → List (List ℕ) → Type 0
Waits w h hold count lines = Some lines ≡ option_map (λ s. waiting count s.taken (session w h hold.seat)) (seat_at (replay w h) hold.seat)

-- so many lines wait, and this is their text
pub record WaitsAs (w : World) (h : List Entry) (hold : Hold) (count : ℕ) (text : List ℕ) (number : ℕ) : Type 0 where
  pub lines : List (List ℕ)
  pub waits : Waits w h hold count lines
  pub text_is : text ≡ flat_map (λ line. line) lines
  pub number_is : number ≡ length lines

abbrev pub Finds : World → Hold → ℕ → List Entry → Found → Type 0
Finds w hold count h (Lines text number) = (is_held w h hold ≡ true) × WaitsAs w h hold count text number
Finds w hold count h Gone = (is_held w h hold ≡ false) × (is_cut w h hold ≡ false)
Finds w hold count h Cut = (is_held w h hold ≡ false) × (is_cut w h hold ≡ true)
Finds w hold count h Memory = Unit {0}

-- the turn found one history and left another
pub record Exchanged (w : World) (hold : Hold) (count : ℕ) (before : List Entry) (entered : Bool) (found : Found) (after : List Entry) : Type 0 where
  pub held : entered ≡ true → is_held w before hold ≡ true
  pub finds : Finds w hold count after found
