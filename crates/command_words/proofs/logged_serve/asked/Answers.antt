use Rattle.std.proofs.Common.{rules, string_bytes}
use Rattle.command_words.proofs.Lists.{logged_serve_few}
use Rattle.command_words.proofs.logged_serve.asked.Goals as goal

pub returns-in_default : goal.returns-in_default
returns-in_default c = logged_serve_few string_bytes c.args.words.now (search rules)
