-- What the reply of an accepted command reports: the campaign where a dump is given it, else the steps of a move.
use Rattle.std.proofs.Common.{◌≡◌, ℕ, Bool, true, false, cond, ◌&&◌, Some, None, refl}
use Rattle.std.specs.Prelude.{Option, option_map}
use Rattle.serde_json.specs.Data.{Data}
use Rattle.seats.specs.Book.{Book}
use Rattle.command_json.specs.declared.command.Command.{Command}
use Rattle.command_json.specs.declared.command.Command.TheVariants.{Dump}
use Rattle.campaign_law.specs.Texts.{dump_line}
use Rattle.campaign_law.specs.Outcome.{of_steps}
use Rattle.entry_outcomes.specs.Steps.{line_reporting}
use Rattle.campaign_core.specs.Steps.{is_dumped}

-- the game master is told the campaign
pub campaign_reported : (steps : ℕ) (campaign : Data) (gm : Bool) (done : Option Command) (book : Option Book) → (gm && is_dumped done) ≡ true
    → line_reporting (record { steps = steps; dumped = cond gm (Some campaign) None }) done book ≡ option_map (λ (b : Book). dump_line b.lines campaign) book
campaign_reported steps campaign true (Some Dump) None h = refl
campaign_reported steps campaign true (Some Dump) (Some b) h = refl
campaign_reported steps campaign true (Some c) book h = cc
campaign_reported steps campaign true None book h = cc
campaign_reported steps campaign false command book h = cc

-- all else reports the steps alone
pub steps_reported : (steps : ℕ) (campaign : Data) (gm : Bool) (done : Option Command) (book : Option Book) → (gm && is_dumped done) ≡ false
    → line_reporting (record { steps = steps; dumped = cond gm (Some campaign) None }) done book ≡ line_reporting (of_steps steps) done book
steps_reported steps campaign true (Some Dump) book h = cc
steps_reported steps campaign true (Some c) None h = refl
steps_reported steps campaign true (Some c) (Some b) h = refl
steps_reported steps campaign true None book h = refl
steps_reported steps campaign false (Some c) None h = refl
steps_reported steps campaign false (Some c) (Some b) h = refl
steps_reported steps campaign false None book h = refl
