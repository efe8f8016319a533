-- The seat may use the tag of what its command makes, where the command breaks no rule.
use Rattle.std.proofs.Common.{◌≡◌, ℕ, Bool, true, false, cond, not, List, Some, None, refl, subst, sym, ℤ}
use Rattle.std.specs.Prelude.{Option, option_map, ◌&&◌}
use Rattle.std.specs.List.{find}
use Rattle.std.specs.Option.{ForSome}
use Rattle.std.proofs.lemmas.Bool.{eqb-true}
use Rattle.cells.specs.Cells.{has}
use Rattle.maps.specs.Maps.{has_name}
use Rattle.seats.specs.Book.{tag_used, tags_spent}
use Rattle.command_json.specs.declared.command.Command.{Command}
use Rattle.command_json.specs.declared.command.Command.TheVariants.{Make, Token}
use Rattle.world.specs.Scene.{Scene}
use Rattle.player_view.specs.View.{is_gm, has_map}
use Rattle.player_view.specs.Asked.{Known, asked_of, known_of}
use Rattle.command_rules.specs.declared.refusal.Refusal.TheVariants.{OffMap, TagUsed, TagsSpent, IdUsed, TokenLimit, NotExposed, PlayersOnly}
use Rattle.command_rules.specs.Places.{coordinate, fits_at, cell_at}
use Rattle.command_rules.specs.GmRules.{tag_rule, square_rule, new_token_rule, gm_rule}
use Rattle.command_rules.specs.Rules.{cell_rule, make_on, rule_of}
use Rattle.command_effects.specs.Tags.{tag_made, MayUse}
use Rattle.command_effects.proofs.GmAllowed.{gm_kept, on_map, then_parts}

-- ---- a player's

may_on_cell : (seat : ℕ) (tags : List (List ℕ)) (tag : List ℕ) (place : ℤ × ℤ) (m : Known) → cell_rule seat tags tag place m ≡ None → MayUse seat tags tag
may_on_cell seat tags tag place m h = by (fits_at m.size 1 place) (tag_used tags tag) (tags_spent seat tags) refl refl h
  where
    by : (fits used spent : Bool) → tag_used tags tag ≡ used → tags_spent seat tags ≡ spent
        → cond (not fits) (Some OffMap) (cond used (Some TagUsed) (cond spent (Some TagsSpent) (cond (not (has m.exposed (cell_at place).x (cell_at place).y)) (Some NotExposed) None))) ≡ None → MayUse seat tags tag
    by false used spent u s h = cc
    by true true spent u s h = cc
    by true false true u s h = cc
    by true false false u s h = record { unused = u; room = s }

may_on : (seat : ℕ) (tags : List (List ℕ)) (tag : List ℕ) (place : ℤ × ℤ) (o : Option Known) → make_on seat tags tag place o ≡ None → MayUse seat tags tag
may_on seat tags tag place None h = cc
may_on seat tags tag place (Some m) h = may_on_cell seat tags tag place m h

may_make : (seat : ℕ) (tags : List (List ℕ)) (tag : List ℕ) (place : ℤ × ℤ) (o : Option Known) (gm : Bool) → cond gm (Some PlayersOnly) (make_on seat tags tag place o) ≡ None → MayUse seat tags tag
may_make seat tags tag place o true h = cc
may_make seat tags tag place o false h = may_on seat tags tag place o h

-- ---- the game master's

may_by_gm : (tags : List (List ℕ)) (tag : List ℕ) → tag_rule tags tag ≡ None → MayUse 0 tags tag
may_by_gm tags tag h = by (tag_used tags tag) (tags_spent 0 tags) refl refl h
  where
    by : (used spent : Bool) → tag_used tags tag ≡ used → tags_spent 0 tags ≡ spent → cond used (Some IdUsed) (cond spent (Some TokenLimit) None) ≡ None → MayUse 0 tags tag
    by true spent u s h = cc
    by false true u s h = cc
    by false false u s h = record { unused = u; room = s }

-- ---- all commands

pub may_use : (seats : ℕ) (s : Scene) (seat : ℕ) (tags : List (List ℕ)) (c : Command) → rule_of (asked_of seats s seat) seat tags c ≡ None → ForSome (tag_made c) (MayUse seat tags)
unfolding asked_of rule_of gm_rule
may_use seats s seat tags (Make made map place name) rule tag is =
    subst (MayUse seat tags) (let same : made ≡ tag = cc in same)
    (may_make seat tags made place (option_map (known_of s seat) (find (λ m. has_map seat m && has_name map m) s.maps)) (is_gm seat) rule)
may_use seats s seat tags (Token made map place name size layer) rule tag is =
    let kept = gm_kept s seat tags (Token made map place name size layer) rule in
    let on = on_map s map (new_token_rule tags made (coordinate size) place) kept.1 in
    let may = may_by_gm tags made (then_parts (square_rule (coordinate size) place on.grid) (tag_rule tags made) on.kept).1 in
    subst (MayUse seat tags) (let same : made ≡ tag = cc in same) (subst (λ n. MayUse n tags made) (sym (eqb-true seat 0 kept.0)) may)
may_use seats s seat tags c rule tag is = absurd cc
