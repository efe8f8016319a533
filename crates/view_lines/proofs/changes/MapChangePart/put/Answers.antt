use Rattle.std.proofs.Common.{rules, [], ◌∷◌}
use Rattle.std.specs.Prelude.{codes}
use Rattle.json.specs.Token.{key, string}
use Rattle.json_lines.specs.Added.{Adds}
use Rattle.json_lines.proofs.Steps.{all_left, then_part, then_token, and_token}
use Rattle.view_lines.proofs.Ordered.{map_change_tokens}
use Rattle.view_lines.proofs.changes.MapChangePart.put.Goals as goal

pub returns : goal.returns
returns c =
    let name : Adds c.put_mode.new.writer c.put_text.new.writer (key (codes "name") ∷ string c.args.self.now.name ∷ []) = search rules in
    and_token c.end_object.result c.end_object.ensures
    (then_part c.in_ok-put_flag.ensures
    (then_part name
    (then_part c.in_ok-put_mode.ensures
    (then_part c.in_ok-put_run_list-3.ensures
    (then_part c.in_ok-put_run_list-2.ensures
    (then_part c.in_ok-put_ground.ensures
    (then_part c.in_ok-put_run_list.ensures
    (then_token c.in_ok-begin_object.ensures
    (all_left (map_change_tokens c.args.self.now))))))))))
