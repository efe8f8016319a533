-- A script that is played behind the Leaves of who was there.
use Rattle.std.proofs.Common.{◌≡◌, ℕ, List, [], ◌++◌, length, drop, refl, sym, ◌∙◌, ap, subst}
use Rattle.std.specs.Prelude.{Option, Some, None}
use Rattle.std.proofs.lemmas.List.{drop_at}
use Rattle.line_io.specs.Told.{WhereTold}
use Rattle.line_io.proofs.ToldLemmas.{append_known-nil}
use Rattle.command_effects.specs.Settle.{IsSettled}
use Rattle.campaign_law.specs.declared.entry.Entry.{Entry}
use Rattle.campaign_law.specs.World.{World, replay}
use Rattle.campaign_law.specs.Law.{Course, IsOpening, world_of}
use Rattle.campaign_law.proofs.Settled.{replay_settled}
use Rattle.crash_log.specs.Disk.{LeavesOnly}
use Rattle.crash_log.specs.Log.{HoldsLog}
use Rattle.script_play.specs.declared.run.Played.{Played}
use Rattle.script_play.specs.declared.run.Played.TheVariants as played
use Rattle.script_play.specs.Script.{script_of, NothingWaits}
use Rattle.script_play.specs.Played.{GoesOn, IsPrefix, HasEntered, HasRead, HasWritten, entries_since}
use Rattle.script_play.proofs.Fronts.{prefix_part, prefix_before, entered_behind, all_part, written_behind}
use Rattle.script_play.proofs.AfterEntry.{all_sound}
use Rattle.script_play.proofs.LineRuns.{since_all, world_on}
use Rattle.script_play.proofs.Reading.{told_weaker}
use Rattle.log_play.specs.declared.logged.Logged.{Logged}
use Rattle.log_play.specs.declared.logged.Logged.TheVariants.{Done, ReadFault, WriteFault, BadLine, TooLarge, DiskFault, Full, Memory}
use Rattle.log_play.specs.Logged.{as_played, IsLogStop, UnlessDiskFault}
use Rattle.log_play.specs.Kept.{HasFront, HasNoRoom, Keeps, KeepsLog}
use Rattle.log_play.proofs.KeptLemmas.{keeps_behind, keeps_same, keeps_wider, room_behind, room_wider}
use Rattle.tabletop.specs.Logged.{behind_leaves, leaves, resumed, start_of}
use Rattle.tabletop.proofs.Leaves.{leaves_send_nothing, first_leaves_send_nothing, nobody_waits}

-- ---- two facts where the source tells its bytes

pub told_both : (P Q R : List ℕ → List ℕ → Type 0) (a b : Option (List ℕ)) → WhereTold a b P → WhereTold a b Q → ((x y : List ℕ) → P x y → Q x y → R x y) → WhereTold a b R
told_both P Q R None None h k f = tt
told_both P Q R None (Some y) h k f = absurd h
told_both P Q R (Some x) None h k f = absurd h
told_both P Q R (Some x) (Some y) h k f = f x y h k

-- ---- the world behind a history

pub opening_settled : (c : Course) → IsOpening c.origin → IsSettled (world_of c).scene
opening_settled c opens = replay_settled c.origin c.history opens.scene

-- ---- a stop within the Leaves

module _ (w : World) (put : List Entry) (part : IsPrefix put (leaves w)) where
  front_of_whole : (all : List ℕ) → IsPrefix put (resumed w all).entries
  front_of_whole all = prefix_before (script_of (start_of w) all).entries part

  pub stop_entered : (stop : Logged) → IsLogStop stop → (all : List ℕ) → HasEntered (as_played stop) (resumed w all) put
  stop_entered Done h all = absurd h
  stop_entered ReadFault h all = absurd h
  stop_entered WriteFault h all = absurd h
  stop_entered (BadLine number) h all = absurd h
  stop_entered TooLarge h all = absurd h
  stop_entered DiskFault h all = front_of_whole all
  stop_entered Full h all = front_of_whole all
  stop_entered Memory h all = front_of_whole all

  pub stop_read : (stop : Logged) → IsLogStop stop → (all : List ℕ) → HasRead (as_played stop) (start_of w) (behind_leaves w put) all all
  stop_read Done h all = absurd h
  stop_read ReadFault h all = absurd h
  stop_read WriteFault h all = absurd h
  stop_read (BadLine number) h all = absurd h
  stop_read TooLarge h all = absurd h
  stop_read DiskFault h all = tt
  stop_read Full h all = tt
  stop_read Memory h all = tt

  -- the Leaves write nothing
  pub stop_written : (answer : Played) (out : Option (List ℕ)) → IsSettled w.scene → HasWritten answer w put out out
  stop_written answer out steady =
      record { text = []; written = sym (append_known-nil out); part = all_part answer w put [] (sym (first_leaves_send_nothing w put part.rest steady part.is)) }

-- ---- the Leaves, and then the script

module _ (old mid new : Course) (due : List Entry) (a : GoesOn old mid) (b : GoesOn mid new) (due_is : due ≡ leaves (world_of old)) (all_left : entries_since old mid ≡ due) where
  since_leaves : entries_since old new ≡ leaves (world_of old) ++ entries_since mid new
  since_leaves = since_all old mid new a b ∙ ap (λ es. es ++ entries_since mid new) (all_left ∙ due_is)

  starts : world_of mid ≡ start_of (world_of old)
  starts = world_on old mid a ∙ ap (replay (world_of old)) (all_left ∙ due_is)

  behind_is : behind_leaves (world_of old) (entries_since old new) ≡ entries_since mid new
  behind_is = ap (drop (length (leaves (world_of old)))) since_leaves ∙ drop_at (leaves (world_of old)) (entries_since mid new) (length (leaves (world_of old))) refl

  pub on_entered : (answer : Played) (script left : Option (List ℕ)) → WhereTold script left (λ all rest. HasEntered answer (script_of (world_of mid) all) (entries_since mid new))
      → WhereTold script left (λ all rest. HasEntered answer (resumed (world_of old) all) (entries_since old new))
  on_entered answer script left h =
      let xs : List Entry = leaves (world_of old) in
      let ys : List Entry = entries_since mid new in
      told_weaker (λ all rest. HasEntered answer (script_of (world_of mid) all) ys) (λ all rest. HasEntered answer (resumed (world_of old) all) (entries_since old new)) script left h
      (λ all rest x. subst (HasEntered answer (resumed (world_of old) all)) (sym since_leaves)
      (entered_behind answer xs ys (script_of (start_of (world_of old)) all) (subst (λ (v : World). HasEntered answer (script_of v all) ys) starts x)))

  pub on_read : (answer : Played) (script left : Option (List ℕ)) → WhereTold script left (λ all rest. HasRead answer (world_of mid) (entries_since mid new) all rest)
      → WhereTold script left (λ all rest. HasRead answer (start_of (world_of old)) (behind_leaves (world_of old) (entries_since old new)) all rest)
  on_read answer script left h =
      told_weaker (λ all rest. HasRead answer (world_of mid) (entries_since mid new) all rest) (λ all rest. HasRead answer (start_of (world_of old)) (behind_leaves (world_of old) (entries_since old new)) all rest) script left h
      (λ all rest x. subst (λ (es : List Entry). HasRead answer (start_of (world_of old)) es all rest) (sym behind_is) (subst (λ (v : World). HasRead answer v (entries_since mid new) all rest) starts x))

  pub on_written : (answer : Played) (before after : Option (List ℕ)) → IsSettled (world_of old).scene → HasWritten answer (world_of mid) (entries_since mid new) before after
      → HasWritten answer (world_of old) (entries_since old new) before after
  on_written answer before after steady h =
      let w : World = world_of old in
      let none : HasWritten played.Done w (leaves w) before before = record { text = []; written = sym (append_known-nil before); part = sym (leaves_send_nothing w steady) } in
      subst (λ (es : List Entry). HasWritten answer w es before after) (sym since_leaves)
      (written_behind answer w (leaves w) (entries_since mid new) before before after none (subst (λ (v : World). HasWritten answer v (entries_since mid new) before after) starts h))

  pub on_full : (end : ℕ) (script left : Option (List ℕ)) → WhereTold script left (λ all rest. HasNoRoom end (entries_since mid new) (script_of (world_of mid) all).entries)
      → WhereTold script left (λ all rest. HasNoRoom end (entries_since old new) (resumed (world_of old) all).entries)
  on_full end script left h =
      let xs : List Entry = leaves (world_of old) in
      let ys : List Entry = entries_since mid new in
      told_weaker (λ all rest. HasNoRoom end ys (script_of (world_of mid) all).entries) (λ all rest. HasNoRoom end (entries_since old new) (resumed (world_of old) all).entries) script left h
      (λ all rest x. subst (λ (es : List Entry). HasNoRoom end es (resumed (world_of old) all).entries) (sym since_leaves)
      (room_behind end xs ys (script_of (start_of (world_of old)) all).entries (subst (λ (v : World). HasNoRoom end ys (script_of v all).entries) starts x)))

  -- nothing waits there
  pub on_quiet : IsOpening old.origin → NothingWaits (world_of mid)
  on_quiet opens = subst NothingWaits (sym starts) (nobody_waits (world_of old) (opening_settled old opens) (all_sound old opens))

  module _ {D : Type 0} (seen : D → List ℕ) (may_leave : D → List ℕ → Type 0) (moment : D → ℕ) (left_since : D → ℕ → List ℕ → Type 0) where
    pub on_log : (answer : Logged) (script left : Option (List ℕ)) (first middle last : D) (first_end middle_end last_end : ℕ) (text : List ℕ) (before : List Entry)
        → KeepsLog seen may_leave moment left_since Done (entries_since old mid) due first middle first_end middle_end
        → HoldsLog seen may_leave first first_end text before
        → ((front : List Entry) → HoldsLog seen may_leave middle middle_end text front → WhereTold script left (λ all rest. LeavesOnly moment left_since middle last (HasFront text front [] (script_of (world_of mid) all).entries)))
        → ((front : List Entry) → HoldsLog seen may_leave middle middle_end text front → WhereTold script left (λ all rest. (file : List ℕ) → may_leave last file → HasFront text front (entries_since mid new) (script_of (world_of mid) all).entries file))
        → ((front : List Entry) → HoldsLog seen may_leave middle middle_end text front → UnlessDiskFault answer (HoldsLog seen may_leave last last_end text (front ++ entries_since mid new)))
        → WhereTold script left (λ all rest. Keeps seen may_leave moment left_since answer text before (entries_since old new) (resumed (world_of old) all).entries first last last_end)
    on_log answer script left first middle last first_end middle_end last_end text before log holds any kept still =
        let w : World = world_of old in
        let xs : List Entry = leaves w in
        let ys : List Entry = entries_since mid new in
        let one : Keeps seen may_leave moment left_since Done text before xs xs first middle middle_end =
        keeps_same seen may_leave moment left_since Done (entries_since old mid) xs due xs first middle first_end middle_end (all_left ∙ due_is) due_is log text before holds in
        told_both (λ all rest. LeavesOnly moment left_since middle last (HasFront text (before ++ xs) [] (script_of (world_of mid) all).entries))
        (λ all rest. (file : List ℕ) → may_leave last file → HasFront text (before ++ xs) ys (script_of (world_of mid) all).entries file)
        (λ all rest. Keeps seen may_leave moment left_since answer text before (entries_since old new) (resumed w all).entries first last last_end)
        script left (any (before ++ xs) one.holds) (kept (before ++ xs) one.holds)
        (λ all rest x y.
        let two : Keeps seen may_leave moment left_since answer text (before ++ xs) ys (script_of (world_of mid) all).entries middle last last_end =
        record { any_moment = x; kept = y; holds = still (before ++ xs) one.holds } in
        subst (λ (es : List Entry). Keeps seen may_leave moment left_since answer text before es (resumed w all).entries first last last_end) (sym since_leaves)
        (keeps_behind seen may_leave moment left_since answer text before xs ys (script_of (start_of w) all).entries first middle last middle_end last_end one
        (subst (λ (v : World). Keeps seen may_leave moment left_since answer text (before ++ xs) ys (script_of v all).entries middle last last_end) starts two)))

-- ---- a stop within the Leaves, as a log keeps it

pub stop_full : (w : World) (put due : List Entry) (end : ℕ) (all : List ℕ) → due ≡ leaves w → HasNoRoom end put due → HasNoRoom end put (resumed w all).entries
stop_full w put due end all due_is h =
    room_wider end put (leaves w) (resumed w all).entries (prefix_part (leaves w) (script_of (start_of w) all).entries) (subst (HasNoRoom end put) due_is h)

module _ {D : Type 0} (seen : D → List ℕ) (may_leave : D → List ℕ → Type 0) (moment : D → ℕ) (left_since : D → ℕ → List ℕ → Type 0) where
  pub stop_log : (stop : Logged) (w : World) (put due : List Entry) (old new : D) (old_end new_end : ℕ) (text : List ℕ) (before : List Entry) (all : List ℕ) → due ≡ leaves w
      → KeepsLog seen may_leave moment left_since stop put due old new old_end new_end → HoldsLog seen may_leave old old_end text before
      → Keeps seen may_leave moment left_since stop text before put (resumed w all).entries old new new_end
  stop_log stop w put due old new old_end new_end text before all due_is log holds =
      keeps_wider seen may_leave moment left_since stop text before put (leaves w) (resumed w all).entries old new new_end (prefix_part (leaves w) (script_of (start_of w) all).entries)
      (keeps_same seen may_leave moment left_since stop put put due (leaves w) old new old_end new_end refl due_is log text before holds)
