-- The texts of macros stay as a campaign text takes them.
use Rattle.std.proofs.Common.{◌≡◌, ℕ, ◌≤◌, Bool, true, false, cond, eqb, nat_le, length, List, [], ◌∷◌, Some, None, refl, ◌∙◌, ap, arith}
use Rattle.std.specs.Prelude.{Option, Result, Ok, Err, IfSome, is_ok}
use Rattle.std.specs.declared.cmp.Ordering.{Ordering}
use Rattle.std.specs.declared.cmp.Ordering.TheVariants.{Less, Equal, Greater}
use Rattle.std.specs.FinMap.Entries.{by_order, put}
use Rattle.std.specs.Map.{remove_entry}
use Rattle.std.specs.BTreeMap.{is_at}
use Rattle.std.proofs.lemmas.Bool.{and_from}
use Rattle.std.proofs.lemmas.Bool.Decides.{nat_tests}
use Rattle.maps.proofs.NameLemmas.{and_first, and_second}
use Rattle.names.specs.Tag.{tag_cmp}
use Rattle.type_table.specs.Types.{with_type}
use Rattle.seats.specs.Book.{Book, counted, left, freed, join_refusal}
use Rattle.seats.specs.SeatState.{is_joined}
use Rattle.seats.specs.declared.seat_state.JoinRefusal.{JoinRefusal}
use Rattle.macro_grammar.specs.Tree.{Piece}
use Rattle.macro_parse.specs.declared.texts.MacroParseFault.{MacroParseFault}
use Rattle.macro_parse.specs.Answers.{macro_of}
use Rattle.command_json.specs.Commands.{command_of}
use Rattle.command_json.specs.Limits.{IsCommand, IsText}
use Rattle.command_json.proofs.Limits.{keeps_limits}
use Rattle.command_json.specs.declared.command.Command.{Command}
use Rattle.command_json.specs.declared.command.Command.TheVariants.{Setmacro}
use Rattle.command_json.specs.declared.command.LineFault.{LineFault}
use Rattle.command_rules.specs.declared.calls.Called.{Called}
use Rattle.command_rules.specs.declared.calls.Called.TheVariants as calls
use Rattle.command_rules.specs.declared.refusal.Refusal.{Refusal}
use Rattle.command_rules.specs.declared.refusal.Refusal.TheVariants.{NoHello}
use Rattle.command_rules.specs.GmRules.{then_rule}
use Rattle.command_rules.specs.Rules.{rule_of}
use Rattle.command_rules.specs.MacroRules.{Macros, name_rule, spelling_rule, new_text_rule, NewText, new_text_in, setting_rule, run_rule}
use Rattle.command_effects.specs.MacroEffects.{with_text, setting_text, drawing}
use Rattle.player_view.specs.Asked.{Asked}
use Rattle.campaign_law.specs.declared.entry.Entry.{Entry}
use Rattle.campaign_law.specs.declared.entry.Entry.TheVariants.{Join, Line, Leave, Taken, Cut}
use Rattle.campaign_law.specs.Outcome.{Report, Outcome, nothing, join_outcome, present_outcome, read_outcome, roll_rule, dice_in, macro_rule, broken_rule, called_by, accepted_with, decided, refused_direct, book_done}
use Rattle.campaign_writing.specs.Written.{is_written_text, are_written_texts}

-- ---- texts under names

all_put : (name text : List ℕ) (macros : Macros) → is_written_text text ≡ true → are_written_texts macros ≡ true → are_written_texts (with_type name text macros) ≡ true
all_put name text [] this all = and_from (is_written_text text) true this refl
all_put name text (m ∷ macros) this all = by (tag_cmp name m.0) (all_put name text macros this (and_second (is_written_text m.1) (are_written_texts macros) all))
  where
    first : is_written_text m.1 ≡ true
    first = and_first (is_written_text m.1) (are_written_texts macros) all

    rest : are_written_texts macros ≡ true
    rest = and_second (is_written_text m.1) (are_written_texts macros) all

    by : (o : Ordering) → are_written_texts (put tag_cmp name text macros) ≡ true → are_written_texts (by_order o ((name, text) ∷ m ∷ macros) ((m.0, text) ∷ macros) (m ∷ put tag_cmp name text macros)) ≡ true
    by Less later = and_from (is_written_text text) (are_written_texts (m ∷ macros)) this all
    by Equal later = and_from (is_written_text text) (are_written_texts macros) this rest
    by Greater later = and_from (is_written_text m.1) (are_written_texts (put tag_cmp name text macros)) first later

all_without : (test : List ℕ → Bool) (macros : Macros) → are_written_texts macros ≡ true → are_written_texts (remove_entry test macros) ≡ true
all_without test [] all = refl
all_without test (m ∷ macros) all = by (test m.0) (all_without test macros (and_second (is_written_text m.1) (are_written_texts macros) all))
  where
    first : is_written_text m.1 ≡ true
    first = and_first (is_written_text m.1) (are_written_texts macros) all

    rest : are_written_texts macros ≡ true
    rest = and_second (is_written_text m.1) (are_written_texts macros) all

    by : (b : Bool) → are_written_texts (remove_entry test macros) ≡ true → are_written_texts (cond b macros (m ∷ remove_entry test macros)) ≡ true
    by true later = rest
    by false later = and_from (is_written_text m.1) (are_written_texts (remove_entry test macros)) first later

-- ---- a new text

short : (n : ℕ) → n ≤ 2000 → nat_le n 2000 ≡ true
short n h = grind (arith, nat_tests)

spells : (answer : Result (List Piece) MacroParseFault) → spelling_rule answer ≡ None → is_ok answer ≡ true
spells (Ok pieces) h = refl
spells (Err fault) h = cc

second_none : (first second : Option Refusal) → then_rule first second ≡ None → second ≡ None
second_none None second h = h
second_none (Some r) second h = cc

text_written : (name : List ℕ) (text : Option (List ℕ)) (b : Book) → new_text_rule b.macros name text ≡ None → IfSome text (IsText 0 2000) → are_written_texts b.macros ≡ true → are_written_texts (with_text name text b).macros ≡ true
text_written name None b rule form all = all_without (is_at (tag_cmp name)) b.macros all
text_written name (Some text) b rule form all =
    all_put name text b.macros
    (and_from (nat_le (length text) 2000) (is_ok (macro_of text)) (short (length text) form.at_most) (spells (macro_of text) (second_none (name_rule b.macros name) (spelling_rule (macro_of text)) rule)))
    all

setting_written : (new : Option NewText) (b : Book) → setting_rule b.macros new ≡ None → IfSome new (λ n. IfSome n.text (IsText 0 2000)) → are_written_texts b.macros ≡ true → are_written_texts (setting_text new b).macros ≡ true
setting_written None b rule form all = all
setting_written (Some new) b rule form all = text_written new.name new.text b rule form all

new_form : (c : Command) → IsCommand c → IfSome (new_text_in c) (λ n. IfSome n.text (IsText 0 2000))
new_form (Setmacro name text) h = h
new_form c h = tt

-- ---- an outcome

-- nothing else of a command changes macros
macros_done : (c : Command) (b : Book) → (book_done c b).macros ≡ (setting_text (new_text_in c) b).macros
macros_done (Setmacro name None) b = refl
macros_done (Setmacro name (Some text)) b = refl
macros_done c b = refl

macros_drawn : (run : Called) (b : Book) → (drawing run b).macros ≡ b.macros
macros_drawn calls.NoRun b = refl
macros_drawn (calls.Stopped refusal) b = refl
macros_drawn (calls.Ran run) b = refl

abbrev KeepsMacros : Book → Outcome → Type 0
KeepsMacros b o = are_written_texts b.macros ≡ true → IfSome o.book (λ next. are_written_texts next.macros ≡ true)

-- the rule of the text that a command sets
setting_none : (asked : Asked) (seat : ℕ) (b : Book) (c : Command) → broken_rule asked seat b c ≡ None → setting_rule b.macros (new_text_in c) ≡ None
setting_none asked seat b c h =
    first_none (setting_rule b.macros (new_text_in c)) (run_rule seat asked.mine (called_by asked seat b c))
    (second_none (roll_rule (dice_in c)) (macro_rule asked seat b c) (second_none (rule_of asked seat b.tags c) (then_rule (roll_rule (dice_in c)) (macro_rule asked seat b c)) h))
  where
    first_none : (first second : Option Refusal) → then_rule first second ≡ None → first ≡ None
    first_none None second h = refl
    first_none (Some r) second h = cc

accepted_written : (report : Report) (seat : ℕ) (b : Book) (c : Command) (run : Called) → IsCommand c → setting_rule b.macros (new_text_in c) ≡ None → KeepsMacros b (accepted_with report seat b c run)
accepted_written report seat b c run form rule all =
    let drawn : Book = drawing run (counted b) in
    let same : drawn.macros ≡ b.macros = macros_drawn run (counted b) in
    ap are_written_texts (macros_done c drawn)
    ∙ setting_written (new_text_in c) drawn (ap (λ macros. setting_rule macros (new_text_in c)) same ∙ rule) (new_form c form) (ap are_written_texts same ∙ all)

decided_written : (asked : Asked) (report : Report) (seat : ℕ) (b : Book) (c : Command) (r : Option Refusal) → IsCommand c → broken_rule asked seat b c ≡ r → KeepsMacros b (decided asked report seat b c r)
decided_written asked report seat b c None form is all = accepted_written report seat b c (called_by asked seat b c) form (setting_none asked seat b c is) all
decided_written asked report seat b c (Some r) form is all = all

read_written : (asked : Asked) (report : Report) (seat : ℕ) (b : Book) (r : Result Command LineFault) → ((c : Command) → r ≡ Ok c → IsCommand c) → KeepsMacros b (read_outcome asked report seat b r)
read_written asked report seat b (Err fault) form all = all
read_written asked report seat b (Ok c) form all = decided_written asked report seat b c (broken_rule asked seat b c) (form c refl) refl all

line_written : (asked : Asked) (report : Report) (seat : ℕ) (b : Book) (bytes : List ℕ) (j : Bool) → KeepsMacros b (cond j (read_outcome asked report seat b (command_of bytes (eqb seat 0))) (refused_direct 0 NoHello))
line_written asked report seat b bytes true all = read_written asked report seat b (command_of bytes (eqb seat 0)) (keeps_limits bytes (eqb seat 0)) all
line_written asked report seat b bytes false all = tt

join_written : (asked : Asked) (b : Book) (reader writer : ℕ) (r : Option JoinRefusal) → KeepsMacros b (join_outcome asked b reader writer r)
join_written asked b reader writer (Some r) all = tt
join_written asked b reader writer None all = all

leave_written : (drop : Bool) (b : Book) → are_written_texts b.macros ≡ true → are_written_texts (cond drop (freed b) (left b)).macros ≡ true
leave_written true b all = all
leave_written false b all = all

cut_written : (b : Book) (j : Bool) → KeepsMacros b (cond j (record nothing { book = Some (freed b) }) nothing)
cut_written b true all = all
cut_written b false all = tt

pub present_written : (asked : Asked) (report : Report) (b : Book) (e : Entry) → KeepsMacros b (present_outcome asked report b e)
present_written asked report b (Join seat key reader writer) all = join_written asked b reader writer (join_refusal b key) all
present_written asked report b (Line seat bytes) all = line_written asked report seat b bytes (is_joined b.state) all
present_written asked report b (Leave seat drop) all = leave_written drop b all
present_written asked report b (Taken seat count) all = tt
present_written asked report b (Cut seat) all = cut_written b (is_joined b.state) all
