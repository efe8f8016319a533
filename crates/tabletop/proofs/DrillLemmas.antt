-- What a drill that was played comes to.
use Rattle.std.proofs.Common.{◌≡◌, ℕ, ◌+◌, ◌≤◌, List, [], Some, refl, sym, ◌∙◌, ap, subst, arith}
use Rattle.std.specs.Prelude.{Option, unwrap_or, Result, Ok, Err, IfOk, length}
use Rattle.names.specs.declared.memory.Memory.{Memory as WantOfMemory}
use Rattle.campaign_json.specs.declared.faults.BadCampaign.{BadCampaign as Breach}
use Rattle.world.specs.World.{World as Opened}
use Rattle.campaign_file.specs.Campaign.{campaign_of}
use Rattle.campaign_writing.specs.Canonical.{reopened}
use Rattle.campaign_law.specs.declared.entry.Entry.{Entry}
use Rattle.campaign_law.specs.World.{World, replay}
use Rattle.campaign_law.specs.Worlds.{opening_world}
use Rattle.campaign_law.specs.Law.{Course, IsOpening, bytes_of, world_of}
use Rattle.campaign_core.specs.Opening.{world_of_text, world_of as read_world}
use Rattle.campaign_core.specs.Totals.{seen_total}
use Rattle.command_looks.specs.Touched.{looks_of_opening}
use Rattle.script_play.specs.declared.run.Played.{Played}
use Rattle.script_play.specs.declared.run.Played.TheVariants as played
use Rattle.script_play.specs.declared.tally.Tally.{Tally}
use Rattle.script_play.specs.Script.{Script, NothingWaits, bad_line, done, too_large, script_of}
use Rattle.script_play.specs.Played.{GoesOn, HasEntered, entries_since}
use Rattle.script_play.specs.Counting.{Adds, lines_sent, looks_in, no_tally, refused_in}
use Rattle.script_play.proofs.LineRuns.{world_on}
use Rattle.drill.specs.Campaign.{drill_world}
use Rattle.drill.specs.Script.{drill_script}
use Rattle.tabletop.specs.declared.drilling.Summary.{Summary}
use Rattle.tabletop.specs.Drilled.{Counts, Drills, Opens, drill_origin}
use Rattle.tabletop.proofs.EndsLemmas.{opening_world_of, nothing_waits}

-- ---- its campaign

-- a text that reads as this world
module _ (text : List ℕ) (w : Opened) (read : campaign_of text ≡ Ok w) where
  known_origin : (origin : World) → world_of_text text ≡ Some origin → origin ≡ opening_world w
  known_origin origin opens = sym (ap (λ (o : Option World). unwrap_or o (opening_world w)) (sym (ap read_world read) ∙ opens))

  pub reads : (breach : Breach) → campaign_of text ≡ Err breach → ⊥
  reads breach bad = cc

  pub known_opens : (c : Course) (looks : ℕ) → looks ≡ 0 → world_of_text text ≡ Some c.origin → IsOpening c.origin → c.history ≡ [] → c.looks ≤ looks + looks_of_opening c.origin.scene → Opens (opening_world w) c
  known_opens c looks new opens opening none at_most = record {
    origin = known_origin c.origin opens;
    opening = opening;
    history = none;
    looks = omega (arith, new, at_most);
  }

-- a campaign of the drill's world
pub drill_opens : (n : ℕ) (text : List ℕ) (c : Course) (looks : ℕ) → campaign_of text ≡ Ok (reopened (drill_world n)) → looks ≡ 0 → world_of_text text ≡ Some c.origin → IsOpening c.origin → c.history ≡ [] → c.looks ≤ looks + looks_of_opening c.origin.scene → Opens (drill_origin n) c
unfolding drill_origin
drill_opens n text c looks read new opens opening none at_most = known_opens text (reopened (drill_world n)) read c looks new opens opening none at_most

-- ---- its script

-- a campaign that was just opened, and what it is after a script
module _ (script : List ℕ) (c new : Course) (opens : Opens c.origin c) where
  abbrev es : List Entry
  es = entries_since c new

  world : world_of c ≡ c.origin
  world = opening_world_of c opens.history

  pub ready : NothingWaits (world_of c)
  ready = nothing_waits c opens.opening opens.history

  as_played : script_of (world_of c) script ≡ script_of c.origin script
  as_played = ap (λ w. script_of w script) world

  has_counted : (tally : Tally) (s : Summary) → GoesOn c new → HasEntered played.Done (script_of (world_of c) script) es → Adds no_tally tally c new → s.tally ≡ tally → s.seen ≡ seen_total (world_of new).scene → s.looks ≡ new.looks → Counts c.origin script s
  has_counted tally s goes entered adds counted seen looks = record {
    entries = es;
    played = sym as_played ∙ entered;
    lines =
        let own : s.tally.lines ≡ tally.lines = ap (λ (t : Tally). t.lines) counted in
        omega (arith, own, adds.lines);
    refused =
        let own : s.tally.refused ≡ tally.refused = ap (λ (t : Tally). t.refused) counted in
        let from : refused_in (world_of c) es ≡ refused_in c.origin es = ap (λ w. refused_in w es) world in
        omega (arith, own, from, adds.refused);
    sent =
        let own : s.tally.sent ≡ tally.sent = ap (λ (t : Tally). t.sent) counted in
        let from : length (lines_sent (world_of c) es) ≡ length (lines_sent c.origin es) = ap (λ w. length (lines_sent w es)) world in
        omega (arith, own, from, adds.sent);
    bytes =
        let own : s.tally.bytes ≡ tally.bytes = ap (λ (t : Tally). t.bytes) counted in
        let from : length (bytes_of (lines_sent (world_of c) es)) ≡ length (bytes_of (lines_sent c.origin es)) = ap (λ w. length (bytes_of (lines_sent w es))) world in
        omega (arith, own, from, adds.bytes);
    seen = seen ∙ ap (λ (w : World). seen_total w.scene) (world_on c new goes ∙ ap (λ w. replay w es) world);
    looks =
        let e : looks_in (world_of c) es ≡ looks_in c.origin es = ap (λ w. looks_in w es) world in
        let first : c.looks ≤ looks_of_opening c.origin.scene = opens.looks in
        omega (arith, e, looks, first, adds.looks);
  }

  -- its counts, unless memory ran out
  pub counts_script : (answer : Played) (tally : Tally) (r : Result Summary WantOfMemory) → answer ≡ played.Done → GoesOn c new → HasEntered answer (script_of (world_of c) script) es → (answer ≡ played.Done → Adds no_tally tally c new)
      → IfOk r (λ s. s.tally ≡ tally) → IfOk r (λ s. s.seen ≡ seen_total (world_of new).scene) → IfOk r (λ s. s.looks ≡ new.looks) → IfOk r (λ s. Counts c.origin script s)
  counts_script answer tally (Ok s) is goes entered adds counted seen looks = has_counted tally s goes (subst (λ a. HasEntered a (script_of (world_of c) script) es) is entered) (adds is) counted seen looks
  counts_script answer tally (Err want) is goes entered adds counted seen looks = tt

  pub done_there : (script_of c.origin script).ending ≡ done → (script_of (world_of c) script).ending ≡ done
  done_there end = ap (λ (s : Script). s.ending) as_played ∙ end

-- ---- a script that ends as done

-- of a text that is this script
module _ (script : List ℕ) (c new : Course) (text : List ℕ) (same : text ≡ script) (end : (script_of (world_of c) script).ending ≡ done) where
  ends_so : (script_of (world_of c) text).ending ≡ done
  ends_so = ap (λ t. let s : Script = script_of (world_of c) t in s.ending) same ∙ end

  pub no_bad_line : (answer : Played) (number : ℕ) → HasEntered answer (script_of (world_of c) text) (entries_since c new) → answer ≡ played.BadLine number → ⊥
  no_bad_line answer number entered is =
      let stopped : HasEntered (played.BadLine number) (script_of (world_of c) text) (entries_since c new) = subst (λ a. HasEntered a (script_of (world_of c) text) (entries_since c new)) is entered in
      let e : done ≡ bad_line number = sym ends_so ∙ ap (λ (s : Script). s.ending) stopped in
      cc

  pub no_too_large : (answer : Played) → HasEntered answer (script_of (world_of c) text) (entries_since c new) → answer ≡ played.TooLarge → ⊥
  no_too_large answer entered is =
      let stopped : HasEntered played.TooLarge (script_of (world_of c) text) (entries_since c new) = subst (λ a. HasEntered a (script_of (world_of c) text) (entries_since c new)) is entered in
      let e : done ≡ too_large = sym ends_so ∙ ap (λ (s : Script). s.ending) stopped in
      cc

-- ---- the drill

-- a script on a campaign that was just opened, which are those of a drill
module _ (n lines : ℕ) (c : Course) (script : List ℕ) (opens : Opens (drill_origin n) c) (is : script ≡ drill_script n lines) where
  pub ready_drill : Opens c.origin c
  ready_drill = record { origin = refl; opening = opens.opening; history = opens.history; looks = opens.looks }

  pub drills : (r : Result Summary WantOfMemory) → IfOk r (λ s. s.number ≡ n) → IfOk r (λ s. Counts c.origin script s) → IfOk r (λ s. Drills n lines s)
  drills (Ok s) number counts = record { number = number; counts = subst (λ t. Counts (drill_origin n) t s) is (subst (λ w. Counts w script s) opens.origin counts) }
  drills (Err want) number counts = tt

  pub drill_is_done : (script_of (drill_origin n) script).ending ≡ done → (script_of c.origin script).ending ≡ done
  drill_is_done end = ap (λ w. (script_of w script).ending) opens.origin ∙ end
