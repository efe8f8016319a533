use Rattle.std.proofs.lemmas.Result.{IfOk-weaker, on_ok_weaker}
use Rattle.script_play.proofs.SendingLemmas.{count_waits, text_waits}
use Rattle.script_play.proofs.sending.add_lines.Goals as goal

pub returns-clause-count : goal.returns-clause-count
returns-clause-count g c = IfOk-weaker c.add_lines_for.result _ _ (λ n h. count_waits c.args.campaign.now c.args.seat n h) c.add_lines_for.ensures.count

pub returns-clause-text : goal.returns-clause-text
returns-clause-text g c = on_ok_weaker c.add_lines_for.result (text_waits c.args.campaign.now c.args.seat c.args.tag.now c.args.text.now.items c.add_lines_for.new.text.items) c.add_lines_for.ensures.text
