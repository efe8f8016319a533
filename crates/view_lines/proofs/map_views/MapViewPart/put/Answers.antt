use Rattle.std.proofs.Common.{rules, [], ◌∷◌, decimal}
use Rattle.std.specs.Prelude.{codes}
use Rattle.json.specs.Token.{key, string, number}
use Rattle.names.specs.Words.{mode_word}
use Rattle.json_lines.specs.Added.{Adds}
use Rattle.json_lines.specs.Tokens.{value_tokens}
use Rattle.json_lines.proofs.Steps.{all_left, then_part, then_token, and_token}
use Rattle.view_lines.specs.Lines.{list_data, terrain_data}
use Rattle.view_lines.proofs.Ordered.{map_tokens}
use Rattle.view_lines.proofs.map_views.MapViewPart.put.Goals as goal

pub returns : goal.returns
returns c =
    let m = c.args.self.now in
    let ground : Adds c.key.new.self c.put_terrain.new.writer (value_tokens (list_data (terrain_data m.exposed m.letters))) = search rules in
    let height : Adds c.put_terrain.new.writer c.put_whole.new.writer (key (codes "h") ∷ number (decimal m.size.h) ∷ []) = search rules in
    let mode : Adds c.put_whole.new.writer c.put_text.new.writer (key (codes "mode") ∷ string (mode_word m.mode) ∷ []) = search rules in
    let name : Adds c.put_text.new.writer c.put_text-2.new.writer (key (codes "name") ∷ string m.name ∷ []) = search rules in
    let width : Adds c.put_flag.new.writer c.put_whole-2.new.writer (key (codes "w") ∷ number (decimal m.size.w) ∷ []) = search rules in
    and_token c.end_object.result c.end_object.ensures
    (then_part width
    (then_part c.in_ok-put_flag.ensures
    (then_part c.in_ok-put_runs.ensures
    (then_token c.in_ok-key-2.ensures
    (then_part name
    (then_part mode
    (then_part height
    (then_part ground
    (then_token c.in_ok-key.ensures
    (then_token c.in_ok-begin_object.ensures
    (all_left (map_tokens m))))))))))))
