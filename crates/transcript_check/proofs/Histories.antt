-- The trace of a history that goes on.
use Rattle.std.proofs.Common.{◌≡◌, ℕ, List, [], ◌∷◌, ◌++◌, length, sym, ◌∙◌, ap, append_assoc}
use Rattle.std.proofs.lemmas.List.{append-nil}
use Rattle.campaign_law.specs.declared.entry.Entry.{Entry}
use Rattle.campaign_law.specs.World.{World, step, replay}
use Rattle.campaign_law.specs.Law.{Course, world_of}
use Rattle.campaign_law.specs.Player.{Item, items_of, trace}
use Rattle.campaign_law.proofs.Sessions.{replay_more}
use Rattle.campaign_law.proofs.States.{length-replay}
use Rattle.script_play.specs.Script.{takens, with_takens}

trace_more : (w : World) (h : List Entry) (e : Entry) (p : ℕ) → trace w (h ++ e ∷ []) p ≡ trace w h p ++ items_of (replay w h) e p
trace_more w [] e p = append-nil (items_of w e p)
trace_more w (d ∷ h) e p = ap (λ items. items_of w d p ++ items) (trace_more (step w d) h e p) ∙ sym (append_assoc (items_of w d p) (trace (step w d) h p) (items_of (replay (step w d) h) e p))

-- a further entry
pub record Enters (old new : Course) (e : Entry) : Type 0 where
  pub origin : new.origin ≡ old.origin
  pub history : new.history ≡ old.history ++ e ∷ []

pub world_enters : (old new : Course) (e : Entry) → Enters old new e → world_of new ≡ step (world_of old) e
world_enters old new e g = (λ i. replay (g.origin i) (g.history i)) ∙ replay_more old.origin old.history e

pub trace_enters : (old new : Course) (e : Entry) (p : ℕ) (before now more : List Item) → Enters old new e → before ≡ trace old.origin old.history p → more ≡ items_of (world_of old) e p → now ≡ before ++ more → now ≡ trace new.origin new.history p
trace_enters old new e p before now more g was is all =
    all
    ∙ (λ i. was i ++ is i)
    ∙ sym (trace_more old.origin old.history e p)
    ∙ (λ i. trace (sym g.origin i) (sym g.history i) p)

-- a campaign's seats stay as many
pub seats_of_world : (c : Course) → length (world_of c).seats ≡ length c.origin.seats
seats_of_world c = length-replay c.origin c.history

-- an entry, and then the Takens that are due
pub takens_enter : (old middle new : Course) (e : Entry) (due : List Entry) → Enters old middle e → due ≡ takens (world_of middle) → new.history ≡ middle.history ++ due → new.history ≡ old.history ++ with_takens (world_of old) e
takens_enter old middle new e due g is all =
    all
    ∙ (λ i. g.history i ++ (is ∙ ap takens (world_enters old middle e g)) i)
    ∙ append_assoc old.history (e ∷ []) (takens (step (world_of old) e))
