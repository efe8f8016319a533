use Rattle.std.proofs.Common.{rules, ◌≡◌, ◌∙◌, ap}
use Rattle.view_lines.specs.Entries.{members_in}
use Rattle.view_lines.specs.Lines.{put_named}
use Rattle.std.proofs.lemmas.List.Sums.{fold_more}
use Rattle.serde_json.specs.Data.{no_members}
use Rattle.view_lines.proofs.InOrder.{inserted}
use Rattle.view_lines.proofs.types.by_name.Goals as goal

pub loop-name-preserved : goal.loop-name-preserved
loop-name-preserved g c =
    let data_of = g.V.Part.data_of in
    let old = c.loop-name.map.entries in
    let named = c.loop-name-item.result in
    let put : members_in data_of c.insert.new.self.entries ≡ put_named data_of (members_in data_of old) named =
    ap (members_in data_of) c.in_ok-insert.ensures.entries ∙ inserted data_of old named.0 named.1 in
    search (rules, put, fold_more (put_named data_of) no_members c.args.types.now c.loop-name.name-index)
