-- What stays the same in a run, as the code holds it.
use Rattle.macro_eval.specs.declared.setting.Setting.{Setting as HeldSetting}
use Rattle.macro_eval.specs.Functions.{Setting, setting_of}

abbrev pub given : HeldSetting → Setting
given held = setting_of held.readable.now held.args.now held.from held.to
