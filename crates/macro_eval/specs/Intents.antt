-- What runs mean to set.
use Rattle.std.specs.Prelude.{◌≢◌, ◌≤◌, length}
use Rattle.names.specs.declared.kinds.PropClass.TheVariants.{Secret}
use Rattle.macro_eval.specs.declared.intent.Intent.{Intent}

-- the property is Public or Own, and its value has at most 200 bytes
pub record IsSettable (i : Intent) : Type 0 where
  pub class : i.class ≢ Secret
  pub short : length i.value ≤ 200
