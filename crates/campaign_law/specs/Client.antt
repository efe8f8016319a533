-- What a client holds that reads the lines of its seat: a full line tells it the whole view, and a change line how it becomes the
-- next one.
use Rattle.std.specs.Prelude.{◌≡◌, ◌==◌, ◌&&◌, ℕ, Bool, true, false, List, [], ◌∷◌, ◌++◌, if◌then◌else◌, Option, Some, None, option_map}
use Rattle.views.specs.declared.view.View.{View}
use Rattle.views.specs.declared.change.Change.{Change}
use Rattle.view_lines.specs.Lines.{full_line, change_line}
use Rattle.view_change.specs.Change.{change_of, apply_change}
use Rattle.player_view.specs.Tables.{HasTables}
use Rattle.player_view.specs.View.{view_of}
use Rattle.campaign_law.specs.declared.entry.Entry.{Entry}
use Rattle.campaign_law.specs.Outcome.{seat_of}
use Rattle.campaign_law.specs.World.{World, seat_at, outcome_of, scene_after, is_present, messages_to, some_to_list, lines_of, step, replay}
use Rattle.campaign_law.specs.Law.{IsOpening}
use Rattle.campaign_law.specs.Worlds.{FitsTogether}

-- what one line tells of a view
pub data Told : Type 0 where
  full : View → Told
  change : Change → Told

abbrev pub told_line : Told → List ℕ
told_line (full v) = full_line v
told_line (change c) = change_line c

-- the whole view where it is due, else the change, if the views differ
abbrev pub told_by : Bool → View → View → Option Told
told_by true before after = Some (full after)
told_by false before after = option_map change (change_of before after)

-- what an entry tells a seat, if the seat is present
abbrev pub told_of : World → Entry → ℕ → Option Told
told_of w e seat =
    if is_present (seat_of e == seat) (seat_at w seat) (outcome_of w e) then told_by ((seat_of e == seat) && (outcome_of w e).full) (view_of w.scene seat) (view_of (scene_after w e) seat)
    else None

-- the view that a client holds once it was told something
abbrev pub view_with : Option View → Told → Option View
view_with held (full v) = Some v
view_with held (change c) = option_map (λ v. apply_change v c) held

abbrev pub held_after : Option View → Option Told → Option View
held_after held None = held
held_after held (Some told) = view_with held told

abbrev pub held_from : Option View → World → List Entry → ℕ → Option View
held_from held w [] seat = held
held_from held w (e ∷ h) seat = held_from (held_after held (told_of w e seat)) (step w e) h seat

-- the view that the seat's client holds after a history: none at first
abbrev pub held_view : World → List Entry → ℕ → Option View
held_view w h seat = held_from None w h seat

-- ---- the laws

-- the lines of an entry for a seat that are no reply and no message are those of what it is told
abbrev pub reply_of : World → Entry → ℕ → List (List ℕ)
reply_of w e seat = if seat_of e == seat then (outcome_of w e).reply else []

abbrev pub messages_of : World → Entry → ℕ → List (List ℕ)
messages_of w e seat = if is_present (seat_of e == seat) (seat_at w seat) (outcome_of w e) then messages_to seat (outcome_of w e) else []

abbrev pub LinesTellViews : Type 0
LinesTellViews = (w : World) (e : Entry) (seat : ℕ) → lines_of w e seat ≡ reply_of w e seat ++ (messages_of w e seat ++ some_to_list (option_map told_line (told_of w e seat)))

-- after each entry at which a seat is present, its client holds what the seat is shown
abbrev pub ClientHoldsView : Type 0
ClientHoldsView = (w : World) (h : List Entry) (e : Entry) (seat : ℕ) → IsOpening w → FitsTogether w → HasTables w.scene → is_present (seat_of e == seat) (seat_at (replay w h) seat) (outcome_of (replay w h) e) ≡ true
    → held_view w (h ++ e ∷ []) seat ≡ Some (view_of (replay w (h ++ e ∷ [])).scene seat)
