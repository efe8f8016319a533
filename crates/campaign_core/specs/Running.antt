-- What holds of a running campaign.
use Rattle.std.specs.Prelude.{◌≡◌, ◌≤◌, true, false, List, length, Option, IfSome}
use Rattle.view_keep.specs.Kept.{Kept}
use Rattle.player_view.specs.Tables.{HasTables}
use Rattle.command_looks.specs.Fields.{AreKept}
use Rattle.campaign_law.specs.declared.entry.Entry.{Entry}
use Rattle.campaign_law.specs.World.{World}
use Rattle.campaign_law.specs.Worlds.{FitsTogether, opened_of}
use Rattle.campaign_writing.specs.Written.{IsWritten}
use Rattle.campaign_law.specs.Session.{changes_state}
use Rattle.campaign_law.specs.State.{world_in, state_of}
use Rattle.campaign_law.specs.Law.{IsOpening}
use Rattle.campaign_core.specs.declared.next.Prepared.{Prepared}
use Rattle.campaign_core.specs.declared.campaign.Made.{Made}
use Rattle.campaign_core.specs.declared.campaign.Made.TheVariants.{Whole, Alone}
use Rattle.campaign_core.specs.declared.campaign.Staged.{Staged}
use Rattle.campaign_core.specs.CutList.{AreCuts, Ledger}
use Rattle.campaign_core.specs.Leaving.{due, cut_due}
use Rattle.campaign_core.specs.Places.{Standing, law, HaveRoom}
use Rattle.campaign_core.specs.Said.{last_messages}
use Rattle.campaign_core.specs.Shown.{AreShown}
use Rattle.campaign_core.specs.Prepared.{IsPrepared}

abbrev pub entry_in : Staged → Entry
entry_in staged = staged.entry

-- all that the entry makes is prepared, and there is room for it: in the queues, and in the history a place for it and two for
-- each of 33 seats, of which each has a place in the list of cuts
pub record IsWhole (ledger : Ledger) (before : Standing) (kept : Kept) (e : Entry) (p : Prepared) : Type 0 where
  pub still : changes_state (world_in (law before)) e ≡ false
  pub enough : 67 ≤ ledger.places
  pub enough_cuts : 33 ≤ ledger.cut_places
  pub room : HaveRoom p.nexts.items before.posts
  pub prepared : IsPrepared (law before) kept e p

-- an entry stages itself alone only as a Leave that changes its seat's state, or as a Cut of a Joined seat
abbrev pub IsMade : Ledger → Standing → Kept → Entry → Made → Type 0
IsMade ledger before kept e (Whole p) = IsWhole ledger before kept e p
IsMade ledger before kept e Alone = changes_state (world_in (law before)) e ≡ true

abbrev pub IsStaged : Ledger → Standing → Kept → Staged → Type 0
IsStaged ledger before kept s = IsMade ledger before kept s.entry s.made

-- the state is that after the history; its fields are kept, and the view of each seat that is Joined; so are the list of cuts and
-- what the last entry said; in the history there are places for all the Leaves and Cuts that still change a seat's state, and in
-- the list for these Cuts; what is staged fits
pub record IsRunning (origin : World) (history : List Entry) (ledger : Ledger) (before : Standing) (kept : Kept) (stage : Option Staged) : Type 0 where
  pub now : law before ≡ state_of origin history
  pub opening : IsOpening origin
  pub fits : FitsTogether origin
  pub tables : HasTables origin.scene
  pub written : IsWritten (opened_of origin)
  pub fields : AreKept before.scene kept.fields
  pub views : AreShown (world_in (law before)) kept.views
  pub count : length kept.views ≡ length before.posts
  pub most : length kept.views ≤ 33
  pub cuts : AreCuts origin history ledger.cuts
  pub said : ledger.said ≡ last_messages origin history
  pub owed : due (law before).posts ≤ ledger.places
  pub owed_cuts : cut_due (law before).posts ≤ ledger.cut_places
  pub staged : IfSome stage (IsStaged ledger before kept)
