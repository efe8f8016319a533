-- The properties that a run sets, one after another.
use Rattle.std.proofs.Common.{◌≡◌, ◌<◌, ◌≤◌, ℕ, ◌+◌, Bool, true, false, cond, ◌&&◌, List, [], ◌∷◌, length, drop, get_or, Some, None, refl, sym, ◌∙◌, ap}
use Rattle.std.specs.Prelude.{Option, option_map}
use Rattle.std.specs.List.{find}
use Rattle.std.proofs.lemmas.Bool.{and_parts}
use Rattle.std.proofs.lemmas.List.{drop_all, drop_more}
use Rattle.names.specs.declared.kinds.PropClass.{PropClass}
use Rattle.names.specs.declared.kinds.PropClass.TheVariants.{Public, Own, Secret}
use Rattle.names.specs.declared.token_id.TokenId.{TokenId}
use Rattle.names.specs.TokenId.{id_eq}
use Rattle.names.proofs.SameIds.{id_eq-Decides}
use Rattle.tokens.specs.declared.token.Token.{Token}
use Rattle.tokens.specs.Tokens.{has_id, changed, with_prop, in_order}
use Rattle.macro_eval.specs.declared.intent.Intent.{Intent}
use Rattle.macro_eval.specs.Intents.{IsSettable}
use Rattle.world.specs.Scene.{Scene}
use Rattle.player_view.specs.View.{acts_on}
use Rattle.player_view.specs.Asked.{Mine, mine_of}
use Rattle.command_rules.specs.declared.refusal.Refusal.{Refusal}
use Rattle.command_rules.specs.GmRules.{then_rule}
use Rattle.command_rules.specs.MacroRules.{mine_with, once_set, intents_rule}
use Rattle.command_effects.specs.Allowed.{MaySet}
use Rattle.command_effects.specs.Effects.{own_token}
use Rattle.command_effects.specs.MacroEffects.{with_intent, with_intents}
use Rattle.command_effects.specs.Setting.{mine_for, intent_rule, MaySetAll}
use Rattle.command_effects.proofs.Allowed.{may_set_by}

-- ---- one property

-- the property may be set
pub may_try : (s : Scene) (seat : ℕ) (i : Intent) → in_order s.tokens ≡ true → IsSettable i → intent_rule s seat i ≡ None → MaySet s i.id i.class i.name
may_try s seat i ordered settable none = may_set_by s seat i.id i.class i.name ordered settable.class (own_token s seat i.id) refl none

-- a property set changes what is asked of its own token alone
mine_of-with_prop : (class : PropClass) (name value : List ℕ) (t : Token) → mine_of (with_prop class name value t) ≡ mine_with class name value (mine_of t)
mine_of-with_prop Public name value t = refl
mine_of-with_prop Own name value t = refl
mine_of-with_prop Secret name value t = refl

same_test : (s : Scene) (seat : ℕ) (id : TokenId) (class : PropClass) (name value : List ℕ) (t : Token) → (has_id id (with_prop class name value t) && acts_on s seat (with_prop class name value t)) ≡ (has_id id t && acts_on s seat t)
same_test s seat id Public name value t = refl
same_test s seat id Own name value t = refl
same_test s seat id Secret name value t = refl

-- the ids are the same, where both are this token's
both_this : (t : Token) (a b : TokenId) → has_id a t ≡ true → has_id b t ≡ true → id_eq a b ≡ true
both_this t a b x y = (id_eq-Decides a b).1 (sym ((id_eq-Decides t.id a).0 x) ∙ (id_eq-Decides t.id b).0 y)

other_than : (t : Token) (a b : TokenId) → has_id a t ≡ false → has_id b t ≡ true → id_eq a b ≡ false
other_than t a b x y = by (id_eq a b) refl
  where
    by : (e : Bool) → id_eq a b ≡ e → e ≡ false
    by false is = refl
    by true is =
        let same : t.id ≡ a = (id_eq-Decides t.id b).0 y ∙ sym ((id_eq-Decides a b).0 is) in
        let there : has_id a t ≡ true = (id_eq-Decides t.id a).1 same in
        absurd cc

-- whether it is the token that is asked for, once the property of the one of that id is set
module _ (s : Scene) (seat : ℕ) (i : Intent) (id : TokenId) where
  abbrev wanted : Token → Bool
  wanted t = has_id id t && acts_on s seat t

  abbrev set : Token → Token
  set t = with_prop i.class i.name i.value t

  abbrev answer : Option Token → Option Mine
  answer found = option_map mine_of found

  abbrev answer_set : Option Token → Option Mine
  answer_set found = cond (id_eq i.id id) (option_map (mine_with i.class i.name i.value) (answer found)) (answer found)

  at_the_token : (t : Token) (rest rest_set : Option Token) → has_id i.id t ≡ true → answer rest_set ≡ answer_set rest → (b : Bool) → wanted t ≡ b → answer (cond b (Some (set t)) rest_set) ≡ answer_set (cond b (Some t) rest)
  at_the_token t rest rest_set this ih true w =
      let same = both_this t i.id id this (and_parts (has_id id t) (acts_on s seat t) w).0 in
      ap Some (mine_of-with_prop i.class i.name i.value t) ∙ sym (ap (λ e. cond e (Some (mine_with i.class i.name i.value (mine_of t))) (Some (mine_of t))) same)
  at_the_token t rest rest_set this ih false w = ih

  at_another : (t : Token) (rest rest_set : Option Token) → has_id i.id t ≡ false → answer rest_set ≡ answer_set rest → (b : Bool) → wanted t ≡ b → answer (cond b (Some t) rest_set) ≡ answer_set (cond b (Some t) rest)
  at_another t rest rest_set this ih true w =
      let other = other_than t i.id id this (and_parts (has_id id t) (acts_on s seat t) w).0 in
      sym (ap (λ e. cond e (Some (mine_with i.class i.name i.value (mine_of t))) (Some (mine_of t))) other)
  at_another t rest rest_set this ih false w = ih

  at_head : (t : Token) (rest rest_set : Option Token) → answer rest_set ≡ answer_set rest → (this : Bool) → has_id i.id t ≡ this
      → answer (cond (wanted (cond this (set t) t)) (Some (cond this (set t) t)) rest_set) ≡ answer_set (cond (wanted t) (Some t) rest)
  at_head t rest rest_set ih true this =
      ap (λ b. answer (cond b (Some (set t)) rest_set)) (same_test s seat id i.class i.name i.value t) ∙ at_the_token t rest rest_set this ih (wanted t) refl
  at_head t rest rest_set ih false this = at_another t rest rest_set this ih (wanted t) refl

  nothing_set : (b : Bool) → None ≡ cond b (option_map (mine_with i.class i.name i.value) None) None
  nothing_set true = refl
  nothing_set false = refl

  pub found_set : (ts : List Token) → answer (find wanted (changed i.id set ts)) ≡ answer_set (find wanted ts)
  found_set [] = nothing_set (id_eq i.id id)
  found_set (t ∷ ts) = at_head t (find wanted ts) (find wanted (changed i.id set ts)) (found_set ts) (has_id i.id t) refl

-- what the rules ask for once a property is set
pub mine_set : (s : Scene) (seat : ℕ) (i : Intent) → mine_for (with_intent i s) seat ≡ once_set i (mine_for s seat)
mine_set s seat i = λ k id. found_set s seat i id s.tokens k

-- ---- all of them

-- what a loop over what is to be set keeps at a place
pub record IsSetTo (seat : ℕ) (s : Scene) (all : List Intent) (place : ℕ) (now : Scene) : Type 0 where
  pub rule : intents_rule seat (mine_for now seat) (drop place all) ≡ intents_rule seat (mine_for s seat) all
  pub scene : with_intents (drop place all) now ≡ with_intents all s

-- what is left begins with this one
begins : (all : List Intent) (place : ℕ) (i : Intent) → place < length all → i ≡ get_or all place i → drop place all ≡ i ∷ drop (place + 1) all
begins all place i lt is = drop_more all place i lt ∙ ap (λ (x : Intent). x ∷ drop (place + 1) all) (sym is)

pub set_more : (seat : ℕ) (s : Scene) (all : List Intent) (place : ℕ) (now next : Scene) (i : Intent) → IsSetTo seat s all place now → place < length all → i ≡ get_or all place i
    → intent_rule now seat i ≡ None → next ≡ with_intent i now → IsSetTo seat s all (place + 1) next
set_more seat s all place now next i before lt is none same =
    let left = begins all place i lt is in
    let rest = drop (place + 1) all in
    record {
      rule = ap (λ (n : Scene). intents_rule seat (mine_for n seat) rest) same
          ∙ ap (λ mine. intents_rule seat mine rest) (mine_set now seat i)
          ∙ sym (ap (λ r. then_rule r (intents_rule seat (once_set i (mine_for now seat)) rest)) none)
          ∙ sym (ap (intents_rule seat (mine_for now seat)) left)
          ∙ before.rule;
      scene = ap (with_intents rest) same ∙ sym (ap (λ l. with_intents l now) left) ∙ before.scene;
    }

-- the one whose turn comes breaks no rule
pub next_may : (seat : ℕ) (s : Scene) (all : List Intent) (place : ℕ) (now : Scene) (i : Intent) → MaySetAll s seat all → IsSetTo seat s all place now → place < length all → i ≡ get_or all place i
    → intent_rule now seat i ≡ None
next_may seat s all place now i may before lt is =
    first_none (intent_rule now seat i) (intents_rule seat (once_set i (mine_for now seat)) (drop (place + 1) all))
    (sym (ap (intents_rule seat (mine_for now seat)) (begins all place i lt is)) ∙ before.rule ∙ may)
  where
    first_none : (r rest : Option Refusal) → then_rule r rest ≡ None → r ≡ None
    first_none None rest h = refl
    first_none (Some refusal) rest h = h

pub set_ends : (seat : ℕ) (s : Scene) (all : List Intent) (place : ℕ) (now : Scene) → IsSetTo seat s all place now → length all ≤ place → now ≡ with_intents all s
set_ends seat s all place now before end = sym (ap (λ l. with_intents l now) (drop_all place all end)) ∙ before.scene
