use Rattle.std.proofs.Common.{rules}
use Rattle.json_lines.specs.Added.{Adds}
use Rattle.json_lines.specs.Tokens.{value_tokens}
use Rattle.json_lines.proofs.Steps.{all_left, then_part, then_token, and_token}
use Rattle.view_lines.specs.Lines.{list_data, lights_data, sights_data, maps_data, tokens_data}
use Rattle.view_lines.proofs.Ordered.{view_tokens}
use Rattle.view_lines.proofs.views_whole.ViewPart.put.Goals as goal

pub returns : goal.returns
returns c =
    let seen = c.args.self.now in
    let lights : Adds c.key.new.self c.put_types.new.writer (value_tokens (lights_data seen.lights)) = search rules in
    let maps : Adds c.key-2.new.self c.put_list.new.writer (value_tokens (list_data (maps_data seen.maps))) = search rules in
    let sights : Adds c.key-3.new.self c.put_types-2.new.writer (value_tokens (sights_data seen.sights)) = search rules in
    let tokens : Adds c.key-4.new.self c.put_list-2.new.writer (value_tokens (list_data (tokens_data seen.tokens))) = search rules in
    and_token c.end_object.result c.end_object.ensures
    (then_part tokens
    (then_token c.in_ok-key-4.ensures
    (then_part sights
    (then_token c.in_ok-key-3.ensures
    (then_part maps
    (then_token c.in_ok-key-2.ensures
    (then_part lights
    (then_token c.in_ok-key.ensures
    (then_part c.in_ok-put_fight.ensures
    (then_token c.in_ok-begin_object.ensures
    (all_left (view_tokens seen))))))))))))
