-- A seat's part of a fight.
use Rattle.std.proofs.Common.{◌≡◌, ℕ, suc, ◌+◌, take, arith, Bool, true, false, cond, ◌&&◌, ◌||◌, List, [], ◌∷◌, Some, None, map, refl, sym, ◌∙◌, ap}
use Rattle.std.specs.Prelude.{ℤ, Option, not}
use Rattle.std.specs.Bool.{Decides}
use Rattle.std.proofs.lemmas.Bool.Decides.{Decides-like}
use Rattle.std.specs.List.{last_or, list_any}
use Rattle.names.specs.declared.token_id.TokenId.{TokenId}
use Rattle.names.specs.TokenId.{id_eq}
use Rattle.names.proofs.SameIds.{id_eq-Decides}
use Rattle.initiative.specs.declared.entry.Entry.{Entry}
use Rattle.initiative.specs.Fights.{Rounds, place_of}
use Rattle.views.specs.declared.view.FightView.{FightView}
use Rattle.views.specs.declared.view.TokenView.{TokenView}
use Rattle.views.specs.Same.{same_entry}
use Rattle.views.proofs.SameLemmas.{same_entry-tells}
use Rattle.world.specs.Scene.{Scene}
use Rattle.player_view.specs.Fights.{entry_text, entries_in, fight_in, list_in, part_with, stands_in, turn_in, up_to}
use Rattle.player_view.specs.Laws.{ShownFightsAlike}
use Rattle.player_view.specs.View.{view_of}

-- ---- the turn

-- the last token of the view up to that one, or the one before these entries
abbrev pub last_from : Bool → List TokenView → TokenId → Option TokenId → List Entry → Option TokenId
last_from gm ts id before es = last_or before (map (λ e. e.id) (entries_in gm ts (up_to id es)))

last_kept : (b : Bool) (before : Option TokenId) (e : Entry) (es : List Entry)
    → last_or before (map (λ f. f.id) (cond b (e ∷ es) es)) ≡ last_or (cond b (Some e.id) before) (map (λ f. f.id) es)
last_kept true before e es = refl
last_kept false before e es = refl

pub last_here : (gm : Bool) (ts : List TokenView) (id : TokenId) (before : Option TokenId) (e : Entry) (es : List Entry) → id_eq e.id id ≡ true
    → last_from gm ts id before (e ∷ es) ≡ cond (stands_in gm ts e.id) (Some e.id) before
last_here gm ts id before e es is =
    ap (λ b. last_or before (map (λ f. f.id) (entries_in gm ts (take (cond (not b) (1 + place_of id es) 0 + 1) (e ∷ es))))) is
    ∙ last_kept (stands_in gm ts e.id) before e []

pub last_on : (gm : Bool) (ts : List TokenView) (id : TokenId) (before : Option TokenId) (e : Entry) (es : List Entry) → id_eq e.id id ≡ false
    → last_from gm ts id before (e ∷ es) ≡ last_from gm ts id (cond (stands_in gm ts e.id) (Some e.id) before) es
last_on gm ts id before e es other =
    let next : 1 + place_of id es + 1 ≡ suc (place_of id es + 1) = omega arith in
    ap (λ b. last_or before (map (λ f. f.id) (entries_in gm ts (take (cond (not b) (1 + place_of id es) 0 + 1) (e ∷ es))))) other
    ∙ ap (λ n. last_or before (map (λ f. f.id) (entries_in gm ts (take n (e ∷ es))))) next
    ∙ last_kept (stands_in gm ts e.id) before e (entries_in gm ts (up_to id es))

-- ---- the part

pub part_none : (round : ℕ) (turn : Option TokenId) (es : List Entry) → map entry_text es ≡ [] → None ≡ part_with round turn es
part_none round turn [] h = refl
part_none round turn (e ∷ es) h = cc

pub part_some : (round : ℕ) (turn : Option TokenId) (es : List Entry) (list : List (TokenId × ℤ)) → list ≡ map entry_text es → (list ≡ [] → ⊥)
    → Some (record { list = list; round = round; turn = turn }) ≡ part_with round turn es
part_some round turn [] list h n = absurd (n h)
part_some round turn (e ∷ es) list h n = ap (λ (xs : List (TokenId × ℤ)). Some (record { list = xs; round = round; turn = turn })) h

pub part_list : (round : ℕ) (turn : Option TokenId) (es : List Entry) → list_in (part_with round turn es) ≡ map entry_text es
part_list round turn [] = refl
part_list round turn (e ∷ es) = refl

pub listed : (gm : Bool) (ts : List TokenView) (fight : Rounds) → list_in (fight_in gm ts fight) ≡ map entry_text (entries_in gm ts fight.list)
unfolding fight_in
listed gm ts fight = part_list fight.round (turn_in gm ts fight.list fight.turn) (entries_in gm ts fight.list)

-- ---- whose entries are in the part

abbrev pub is_entry : Entry → Entry → Bool
is_entry e f = same_entry (entry_text f) (entry_text e)

pub is_entry-tells : (e f : Entry) → Decides (is_entry e f) (f ≡ e)
is_entry-tells e f = Decides-like _ (λ p. λ i. record { value = (p i).1; id = (p i).0 }) (λ p. ap entry_text p) (same_entry-tells (entry_text f) (entry_text e))

-- an entry is in the part where it is in the list and its token stands in the view
pub entry_in : (gm : Bool) (ts : List TokenView) (e : Entry) (es : List Entry)
    → list_any (λ x. same_entry x (entry_text e)) (map entry_text (entries_in gm ts es)) ≡ (list_any (is_entry e) es && stands_in gm ts e.id)
entry_in gm ts e [] = refl
entry_in gm ts e (f ∷ fs) =
    any_kept_more (stands_in gm ts f.id)
    ∙ here (stands_in gm ts f.id) (is_entry e f) (list_any (λ x. same_entry x (entry_text e)) (map entry_text (entries_in gm ts fs))) (list_any (is_entry e) fs) (stands_in gm ts e.id)
    (λ is. ap (λ (g : Entry). stands_in gm ts g.id) ((is_entry-tells e f).0 is)) (entry_in gm ts e fs)
  where
    any_kept_more : (b : Bool) → list_any (λ x. same_entry x (entry_text e)) (map entry_text (cond b (f ∷ entries_in gm ts fs) (entries_in gm ts fs)))
        ≡ cond b (is_entry e f || list_any (λ x. same_entry x (entry_text e)) (map entry_text (entries_in gm ts fs))) (list_any (λ x. same_entry x (entry_text e)) (map entry_text (entries_in gm ts fs)))
    any_kept_more true = refl
    any_kept_more false = refl

    here : (b c more any stands : Bool) → (c ≡ true → b ≡ stands) → more ≡ (any && stands) → cond b (c || more) more ≡ ((c || any) && stands)
    here true true more any stands is rest = is refl
    here true false more any stands is rest = rest
    here false true more true stands is rest = rest
    here false true more false stands is rest = rest ∙ is refl
    here false false more any stands is rest = rest

-- ---- the laws

pub shown_fights_alike : ShownFightsAlike
unfolding fight_in view_of
shown_fights_alike = record {
  parts = λ tokens others r s entries round turn. λ i. part_with (round i) (turn i) (entries i);
  views = λ s t q entries round turn. λ i. part_with (round i) (turn i) (entries i);
}
