-- An object whose members are texts and whole numbers.
use Rattle.std.specs.Prelude.{ℕ, List, [], ◌∷◌}
use Rattle.serde_json.specs.Data.{Data, unsigned, number, string, object, Members, member, no_members}
use Rattle.json_lines.specs.declared.objects.Plain.{Plain}
use Rattle.json_lines.specs.declared.objects.Plain.TheVariants.{Text, Whole}

abbrev pub plain_data : Plain → Data
plain_data (Text text) = string text.now
plain_data (Whole n) = number (unsigned n)

abbrev pub members_of : List (List ℕ × Plain) → Members
members_of [] = no_members
members_of (m ∷ ms) = member m.0 (plain_data m.1) (members_of ms)

-- with these members, in this order
abbrev pub object_data : List (List ℕ × Plain) → Data
object_data ms = object (members_of ms)
