-- Reading with the first breach, and where it lies.
use Rattle.std.specs.Prelude.{◌≡◌, ℕ, ◌+◌, ◌==◌, Bool, true, false, List, [], ◌++◌, codes, chars, encode_utf8, flat_map, if◌then◌else◌, Option, Some, None, Result, Ok, Err}
use Rattle.std.specs.Fmt.{decimal}
use Rattle.serde_json.specs.Data.{Data, Items, no_items, item, Members, no_members, member}
use Rattle.serde_json.specs.Find.{get, at}
use Rattle.json_fields.specs.Objects.{◌>>=◌}
use Rattle.campaign_json.specs.declared.faults.Rule.{Rule}
use Rattle.campaign_json.specs.declared.faults.Rule.TheVariants.{Missing}
use Rattle.campaign_json.specs.declared.faults.BadCampaign.{BadCampaign}
use Rattle.campaign_json.specs.declared.faults.FileFault.{FileFault}
use Rattle.campaign_json.specs.declared.faults.FileFault.TheVariants.{Bad, Memory}

-- a breach by the value itself
abbrev pub broken : {A : Type 0} → Rule → Result A BadCampaign
broken rule = Err (record { path = []; rule = rule })

abbrev pub needed : {A : Type 0} → Rule → Option A → Result A BadCampaign
needed rule None = broken rule
needed rule (Some a) = Ok a

-- the rule asks for the test
abbrev pub asked : Rule → Bool → Result (Unit {0}) BadCampaign
asked rule true = Ok tt
asked rule false = broken rule

-- ---- where a breach lies

-- the JSON pointer (RFC 6901) of what lies at the path within the part at the token
abbrev pub pointer : List ℕ → List ℕ → List ℕ
pointer token path = codes "/" ++ token ++ path

-- ~ (126) and / (47) stand for themselves in no token
abbrev pub escaped_letter : ℕ → List ℕ
escaped_letter letter = if letter == 126 then codes "~0" else if letter == 47 then codes "~1" else encode_utf8 letter

-- a key as a token of a pointer
unfoldable pub escaped : List ℕ → List ℕ
escaped key = flat_map escaped_letter (chars key)

-- a breach of a part lies under the token of the part: its key, or its place in decimal
abbrev pub under : {A : Type 0} → List ℕ → Result A BadCampaign → Result A BadCampaign
under token (Ok a) = Ok a
under token (Err breach) = Err (record { path = pointer token breach.path; rule = breach.rule })

-- ---- parts

-- the field of an object at the key, of a kind: no key of the format has a byte that would be escaped
abbrev pub field : {A : Type 0} → List ℕ → (Data → Result A BadCampaign) → Data → Result A BadCampaign
field key kind d = under key (needed Missing (get key d) >>= kind)

-- the item of a list at the place, of a kind
abbrev pub item_at : {A : Type 0} → ℕ → (Data → Result A BadCampaign) → Data → Result A BadCampaign
item_at place kind d = under (decimal place) (needed Missing (at place d) >>= kind)

-- the items of a list in order: each, with its place, changes what was read so far
abbrev pub each : {S : Type 0} → (ℕ → S → Data → Result S BadCampaign) → ℕ → S → Items → Result S BadCampaign
each read place so_far no_items = Ok so_far
each read place so_far (item d ds) = do
  next ← under (decimal place) (read place so_far d)
  each read (place + 1) next ds

-- the same of the members of an object, in the order of their keys' bytes
abbrev pub each_member : {S : Type 0} → (List ℕ → S → Data → Result S BadCampaign) → S → Members → Result S BadCampaign
each_member read so_far no_members = Ok so_far
each_member read so_far (member key d ds) = do
  next ← under (escaped key) (read key so_far d)
  each_member read next ds

-- ---- what functions return

-- the fault is this breach, unless memory ran out
abbrev pub IsBreach : BadCampaign → FileFault → Type 0
IsBreach breach (Bad bad) = bad ≡ breach
IsBreach breach Memory = Unit {0}

-- the second fault is the first, seen from the value that has the part at the token
abbrev pub LiesUnder : List ℕ → FileFault → FileFault → Type 0
LiesUnder token (Bad bad) fault = IsBreach (record { path = pointer token bad.path; rule = bad.rule }) fault
LiesUnder token Memory fault = fault ≡ Memory

-- the same of a part of the part at the key
abbrev pub LiesIn : List ℕ → List ℕ → FileFault → FileFault → Type 0
LiesIn key token (Bad bad) fault = IsBreach (record { path = pointer key (pointer token bad.path); rule = bad.rule }) fault
LiesIn key token Memory fault = fault ≡ Memory

-- reading gives the fault, unless memory ran out
abbrev pub Fails : {Y : Type 0} → FileFault → Result Y BadCampaign → Type 0
Fails (Bad bad) read = read ≡ Err bad
Fails Memory read = Unit {0}

-- what a function that takes no memory returned, seen by view, as a breach by the value itself
abbrev pub here : {X Y : Type 0} → (X → Y) → Result X Rule → Result Y BadCampaign
here view (Ok x) = Ok (view x)
here view (Err rule) = broken rule
