-- Values that several properties share.
use Rattle.std.specs.Prelude.{List, [], Option, Some, None}
use Rattle.std.specs.Arc.{arc_value}
use Rattle.std.specs.declared.sync.Arc.{Arc}
use Rattle.tokens.specs.Properties.{Property}

-- the values that are shared; none, where there is nothing to share
abbrev pub values_in : {Z : Type 0} → Option (Arc (List Property) Z) → List Property
values_in None = []
values_in (Some shared) = arc_value shared
