-- What a player machine may be fed, and the law that every trace is so.
use Rattle.std.specs.Prelude.{◌≡◌, ◌≤◌, ℕ, false, List, [], ◌∷◌, IfSome, All}
use Rattle.campaign_law.specs.declared.entry.Entry.{Entry}
use Rattle.view_change.specs.Views.{FitsAmong}
use Rattle.player_view.specs.Tables.{HasTables}
use Rattle.campaign_law.specs.Outcome.{seat_of}
use Rattle.campaign_law.specs.World.{World}
use Rattle.campaign_law.specs.Worlds.{FitsTogether}
use Rattle.campaign_law.specs.Player.{Item, Machine, own, message, view, after, opening, started, trace}
use Rattle.campaign_law.specs.Law.{IsOpening}

-- an entry of its own seat, any line, and any view; but where a change is told, maps that are in both views have one size
abbrev pub MayFeed : Machine → Item → Type 0
MayFeed m (own e steps) = IfSome m.seat (λ s. s.book.seat ≡ seat_of e)
MayFeed m (message line) = Unit {0}
MayFeed m (view v) = m.due ≡ false → All (FitsAmong m.last.maps) v.maps

-- one item after another
abbrev pub MayFeedAll : Machine → List Item → Type 0
MayFeedAll m [] = Unit {0}
MayFeedAll m (item ∷ items) = MayFeed m item × MayFeedAll (after m item) items

-- so is each trace of a player, in a world that opens, fits together and has its tables
abbrev pub TracesFeed : Type 0
TracesFeed = (w : World) (h : List Entry) (p : ℕ) → 1 ≤ p → IsOpening w → FitsTogether w → HasTables w.scene
    → MayFeedAll (started (opening w p)) (trace w h p)
