use Rattle.campaign_file.specs.Macros.{unfilled, with_read}
use Rattle.campaign_json.proofs.Each.{IsReadOn}
use Rattle.campaign_file.proofs.macros.each_macro.Given as goal

abbrev pub invariant-loop-key : goal.invariant-loop-key
invariant-loop-key l = IsReadOn with_read unfilled l.members.entries l.fn.book l.key-iterator l.book
