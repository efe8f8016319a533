-- What an entry does to its own seat's book: whose it is and its key stay, and no tag is lost.
use Rattle.std.proofs.Common.{◌≡◌, ℕ, Bool, true, false, cond, eqb, ◌||◌, List, [], ◌∷◌, ◌++◌, Some, None, refl, ap, ◌∙◌, subst}
use Rattle.std.specs.Prelude.{Option, Result, Ok, Err, IfSome}
use Rattle.std.specs.Str.{bytes_eq}
use Rattle.seats.specs.Book.{Book, counted, left, freed, tag_used, join_refusal}
use Rattle.seats.specs.SeatState.{is_joined}
use Rattle.seats.specs.declared.seat_state.JoinRefusal.{JoinRefusal}
use Rattle.maps.proofs.NameLemmas.{same_name}
use Rattle.world.proofs.Makers.{used_still}
use Rattle.command_json.specs.Commands.{command_of}
use Rattle.command_json.specs.declared.command.Command.{Command}
use Rattle.command_json.specs.declared.command.Command.TheVariants.{Make, Token}
use Rattle.command_json.specs.declared.command.LineFault.{LineFault}
use Rattle.command_rules.specs.declared.refusal.Refusal.{Refusal}
use Rattle.command_rules.specs.declared.refusal.Refusal.TheVariants.{NoHello}
use Rattle.command_rules.specs.declared.calls.Called.{Called}
use Rattle.command_rules.specs.declared.calls.Called.TheVariants as calls
use Rattle.command_rules.specs.MacroRules.{NewText, new_text_in}
use Rattle.command_effects.specs.MacroEffects.{with_text, setting_text, drawing}
use Rattle.command_effects.specs.Tags.{tag_made, using_tag}
use Rattle.player_view.specs.Asked.{Asked}
use Rattle.campaign_law.specs.declared.entry.Entry.{Entry}
use Rattle.campaign_law.specs.declared.entry.Entry.TheVariants.{Join, Line, Leave, Taken, Cut}
use Rattle.campaign_law.specs.Outcome.{Report, Outcome, nothing, join_outcome, present_outcome, read_outcome, broken_rule, called_by, accepted_with, decided, refused_direct, book_done, rolling, dice_in, is_bye}

-- the second is the same seat's, with the same key, and has the tags of the first
pub record Follows (b c : Book) : Type 0 where
  pub seat : c.seat ≡ b.seat
  pub key : c.key ≡ b.key
  pub tags : (tag : List ℕ) → tag_used b.tags tag ≡ true → tag_used c.tags tag ≡ true

pub follows_itself : (b : Book) → Follows b b
follows_itself b = record { seat = refl; key = refl; tags = λ tag h. h }

-- what an outcome says of the book and of the command that it accepts
pub record KeepsBook (b : Book) (o : Outcome) : Type 0 where
  pub book : IfSome o.book (Follows b)
  pub made : (c : Command) (tag : List ℕ) → o.done ≡ Some c → tag_made c ≡ Some tag → IfSome o.book (λ next. tag_used next.tags tag ≡ true)
  pub done : (c : Command) → o.done ≡ Some c → (next : Book) × (o.book ≡ Some next)

counted_follows : (b : Book) → Follows b (counted b)
counted_follows b = record { seat = refl; key = refl; tags = λ tag h. h }

rolling_follows : (dice : Option (List ℕ)) (b : Book) → Follows b (rolling dice b)
rolling_follows None b = follows_itself b
rolling_follows (Some dice) b = record { seat = refl; key = refl; tags = λ tag h. h }

text_follows : (name : List ℕ) (text : Option (List ℕ)) (b : Book) → Follows b (with_text name text b)
text_follows name None b = record { seat = refl; key = refl; tags = λ tag h. h }
text_follows name (Some text) b = record { seat = refl; key = refl; tags = λ tag h. h }

setting_follows : (new : Option NewText) (b : Book) → Follows b (setting_text new b)
setting_follows None b = follows_itself b
setting_follows (Some new) b = text_follows new.name new.text b

drawing_follows : (run : Called) (b : Book) → Follows b (drawing run b)
drawing_follows calls.NoRun b = follows_itself b
drawing_follows (calls.Stopped refusal) b = follows_itself b
drawing_follows (calls.Ran run) b = record { seat = refl; key = refl; tags = λ tag h. h }

using_follows : (made : Option (List ℕ)) (b : Book) → Follows b (using_tag made b)
using_follows None b = follows_itself b
using_follows (Some tag) b = record { seat = refl; key = refl; tags = λ other h. used_still b.tags tag other h }

then_follows : (b c d : Book) → Follows b c → Follows c d → Follows b d
then_follows b c d f g = record { seat = g.seat ∙ f.seat; key = g.key ∙ f.key; tags = λ tag h. g.tags tag (f.tags tag h) }

done_follows : (c : Command) (b : Book) → Follows b (book_done c b)
done_follows c b = by (is_bye c)
  where
    by : (t : Bool) → Follows b (cond t (left b) (using_tag (tag_made c) (setting_text (new_text_in c) (rolling (dice_in c) b))))
    by true = record { seat = refl; key = refl; tags = λ tag h. h }
    by false =
        let rolled : Book = rolling (dice_in c) b in
        let set : Book = setting_text (new_text_in c) rolled in
        then_follows b rolled _ (rolling_follows (dice_in c) b) (then_follows rolled set _ (setting_follows (new_text_in c) rolled) (using_follows (tag_made c) set))

last_used : (tags : List (List ℕ)) (tag : List ℕ) → tag_used (tags ++ tag ∷ []) tag ≡ true
last_used [] tag = rw (same_name tag) refl
last_used (first ∷ tags) tag = by (bytes_eq first tag) (last_used tags tag)
  where
    by : (b : Bool) → tag_used (tags ++ tag ∷ []) tag ≡ true → (b || tag_used (tags ++ tag ∷ []) tag) ≡ true
    by true rest = refl
    by false rest = rest

-- the tag of what a command makes is used
made_used : (c : Command) (tag : List ℕ) (b : Book) → tag_made c ≡ Some tag → tag_used (book_done c b).tags tag ≡ true
made_used (Make made map place name) tag b h = let e : made ≡ tag = cc in subst (λ t. tag_used (b.tags ++ made ∷ []) t ≡ true) e (last_used b.tags made)
made_used (Token made map place name size layer) tag b h = let e : made ≡ tag = cc in subst (λ t. tag_used (b.tags ++ made ∷ []) t ≡ true) e (last_used b.tags made)
made_used c tag b h = cc

accepted_keeps : (report : Report) (seat : ℕ) (b : Book) (c : Command) (run : Called) → KeepsBook b (accepted_with report seat b c run)
accepted_keeps report seat b c run =
    let drawn : Book = drawing run (counted b) in record {
      book = then_follows b (counted b) _ (counted_follows b) (then_follows (counted b) drawn _ (drawing_follows run (counted b)) (done_follows c drawn));
      made = λ d tag is made. let e : c ≡ d = cc in made_used c tag drawn (ap tag_made e ∙ made);
      done = λ d is. (book_done c drawn, refl);
    }

decided_keeps : (asked : Asked) (report : Report) (seat : ℕ) (b : Book) (c : Command) (r : Option Refusal) → KeepsBook b (decided asked report seat b c r)
decided_keeps asked report seat b c None = accepted_keeps report seat b c (called_by asked seat b c)
decided_keeps asked report seat b c (Some r) = record { book = counted_follows b; made = λ d tag is made. absurd cc; done = λ d is. absurd cc }

read_keeps : (asked : Asked) (report : Report) (seat : ℕ) (b : Book) (r : Result Command LineFault) → KeepsBook b (read_outcome asked report seat b r)
read_keeps asked report seat b (Err fault) = record { book = counted_follows b; made = λ d tag is made. absurd cc; done = λ d is. absurd cc }
read_keeps asked report seat b (Ok c) = decided_keeps asked report seat b c (broken_rule asked seat b c)

join_keeps : (asked : Asked) (b : Book) (reader writer : ℕ) (r : Option JoinRefusal) → KeepsBook b (join_outcome asked b reader writer r)
join_keeps asked b reader writer (Some r) = record { book = tt; made = λ d tag is made. tt; done = λ d is. absurd cc }
join_keeps asked b reader writer None = record { book = record { seat = refl; key = refl; tags = λ tag h. h }; made = λ d tag is made. absurd cc; done = λ d is. absurd cc }

line_keeps : (asked : Asked) (report : Report) (seat : ℕ) (b : Book) (bytes : List ℕ) (j : Bool) → KeepsBook b (cond j (read_outcome asked report seat b (command_of bytes (eqb seat 0))) (refused_direct 0 NoHello))
line_keeps asked report seat b bytes true = read_keeps asked report seat b (command_of bytes (eqb seat 0))
line_keeps asked report seat b bytes false = record { book = tt; made = λ d tag is made. tt; done = λ d is. absurd cc }

leave_follows : (drop : Bool) (b : Book) → Follows b (cond drop (freed b) (left b))
leave_follows true b = record { seat = refl; key = refl; tags = λ tag h. h }
leave_follows false b = record { seat = refl; key = refl; tags = λ tag h. h }

cut_keeps : (b : Book) (j : Bool) → KeepsBook b (cond j (record nothing { book = Some (freed b) }) nothing)
cut_keeps b true = record { book = record { seat = refl; key = refl; tags = λ tag h. h }; made = λ d tag is made. absurd cc; done = λ d is. absurd cc }
cut_keeps b false = record { book = tt; made = λ d tag is made. tt; done = λ d is. absurd cc }

pub present_keeps : (asked : Asked) (report : Report) (b : Book) (e : Entry) → KeepsBook b (present_outcome asked report b e)
present_keeps asked report b (Join seat key reader writer) = join_keeps asked b reader writer (join_refusal b key)
present_keeps asked report b (Line seat bytes) = line_keeps asked report seat b bytes (is_joined b.state)
present_keeps asked report b (Leave seat drop) = record { book = leave_follows drop b; made = λ d tag is made. absurd cc; done = λ d is. absurd cc }
present_keeps asked report b (Taken seat count) = record { book = tt; made = λ d tag is made. tt; done = λ d is. absurd cc }
present_keeps asked report b (Cut seat) = cut_keeps b (is_joined b.state)
