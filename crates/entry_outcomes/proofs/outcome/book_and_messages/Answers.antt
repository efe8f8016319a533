use Rattle.std.proofs.Common.{◌∙◌, ◌++◌, ap, cond, subst, sym}
use Rattle.seats.specs.Book.{Book, counted, left}
use Rattle.command_effects.specs.Tags.{MayUseTag, tag_made, using_tag}
use Rattle.command_effects.specs.MacroEffects.{drawing, setting_text}
use Rattle.command_rules.specs.MacroRules.{call_in, new_text_in, setting_rule}
use Rattle.campaign_law.specs.Messages.{message_by, run_messages, texts_in}
use Rattle.campaign_law.specs.Outcome.{dice_in, is_bye, rolling, said}
use Rattle.entry_outcomes.proofs.Allowing.{done_once_drawn, macros_drawn, may_drawn}
use Rattle.entry_outcomes.proofs.Saying.{said_counted}
use Rattle.entry_outcomes.proofs.outcome.book_and_messages.Goals as goal

pub change_book-requires-clause-tag : goal.change_book-requires-clause-tag
change_book-requires-clause-tag c =
    let command = c.args.command.now in
    let run = c.args.run.now in
    subst (λ (b : Book). MayUseTag b command)
    (sym (c.in_ok-messages.ensures.book ∙ ap (λ b. rolling (dice_in command) (drawing run b)) c.in_ok-after.ensures))
    (may_drawn run command c.args.book.now c.requires.tag)

pub change_book-requires-clause-text : goal.change_book-requires-clause-text
change_book-requires-clause-text c =
    let command = c.args.command.now in
    let run = c.args.run.now in
    ap (λ (b : Book). setting_rule b.macros (new_text_in command))
    (c.in_ok-messages.ensures.book ∙ ap (λ b. rolling (dice_in command) (drawing run b)) c.in_ok-after.ensures)
    ∙ ap (λ macros. setting_rule macros (new_text_in command)) (macros_drawn run command c.args.book.now)
    ∙ c.requires.text

pub returns-clause-book : goal.returns-clause-book
returns-clause-book c =
    let command = c.args.command.now in
    let run = c.args.run.now in
    let drawn = c.in_ok-messages.ensures.book ∙ ap (λ b. rolling (dice_in command) (drawing run b)) c.in_ok-after.ensures in
    c.in_ok-change_book.ensures ∙ ap (λ (b : Book). cond (is_bye command) (left b) (using_tag (tag_made command) (setting_text (new_text_in command) b))) drawn
    ∙ done_once_drawn command (drawing run (counted c.args.book.now))

pub returns-clause-messages : goal.returns-clause-messages
returns-clause-messages c =
    let command = c.args.command.now in
    let run = c.args.run.now in
    c.in_ok-messages.ensures.messages
    ∙ ap (λ words. message_by c.args.seat words ++ run_messages c.args.seat (call_in command) (texts_in run)) (ap (λ b. said b command) c.in_ok-after.ensures ∙ said_counted c.args.book.now command)
