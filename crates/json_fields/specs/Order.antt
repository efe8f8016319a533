-- The order of the keys of objects.
use Rattle.std.specs.Prelude.{◌≡◌, ℕ, List}
use Rattle.std.specs.Cmp.Lexicographic.{slice_cmp}
use Rattle.std.specs.Ordering.{nat_cmp}
use Rattle.std.specs.declared.cmp.Ordering.TheVariants.{Less}
use Rattle.serde_json.specs.Data.{Data, null, boolean, number, string, array, object, Items, no_items, item, Members, no_members, member}

-- the key is less, in the order of bytes, than those of the members
abbrev pub IsBelow : List ℕ → Members → Type 0
IsBelow key no_members = Unit {0}
IsBelow key (member other value rest) = (slice_cmp nat_cmp key other ≡ Less) × IsBelow key rest

-- each key is less than all that follow it
abbrev pub KeysRise : Members → Type 0
KeysRise no_members = Unit {0}
KeysRise (member key value rest) = IsBelow key rest × KeysRise rest

-- in each object of the value the keys rise in the order of bytes, so none stands there twice
abbrev mutual
  pub HasRisingKeys : Data → Type 0
  HasRisingKeys null = Unit {0}
  HasRisingKeys (boolean b) = Unit {0}
  HasRisingKeys (number n) = Unit {0}
  HasRisingKeys (string s) = Unit {0}
  HasRisingKeys (array items) = HaveRisingKeys items
  HasRisingKeys (object members) = KeysRise members × ValuesHaveRisingKeys members

  pub HaveRisingKeys : Items → Type 0
  HaveRisingKeys no_items = Unit {0}
  HaveRisingKeys (item value rest) = HasRisingKeys value × HaveRisingKeys rest

  pub ValuesHaveRisingKeys : Members → Type 0
  ValuesHaveRisingKeys no_members = Unit {0}
  ValuesHaveRisingKeys (member key value rest) = HasRisingKeys value × ValuesHaveRisingKeys rest
