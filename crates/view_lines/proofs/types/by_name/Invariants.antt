use Rattle.std.proofs.Common.{◌≡◌, take}
use Rattle.std.specs.List.{fold}
use Rattle.serde_json.specs.Data.{no_members}
use Rattle.view_lines.specs.Entries.{members_in}
use Rattle.view_lines.specs.Lines.{put_named}
use Rattle.view_lines.proofs.types.by_name.Given as goal

abbrev pub invariant-loop-name : goal.invariant-loop-name
invariant-loop-name g l = members_in g.V.Part.data_of l.map.entries ≡ fold (put_named g.V.Part.data_of) no_members (take l.name-index l.types)
