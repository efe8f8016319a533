use Rattle.std.proofs.Common.{rules}
use Rattle.std.specs.Prelude.{codes, map}
use Rattle.serde_json.specs.Data.{string}
use Rattle.names.specs.TokenId.{id_text}
use Rattle.json_lines.specs.Added.{Adds}
use Rattle.json_lines.proofs.Steps.{all_left, then_part, then_token, and_token}
use Rattle.view_lines.specs.Lines.{radius_data, wholes_data, maps_data, tokens_data, map_change_data}
use Rattle.view_lines.specs.Tokens.{list_tokens, types_tokens}
use Rattle.view_lines.proofs.Ordered.{change_tokens}
use Rattle.view_lines.proofs.changes.ChangePart.put.Goals as goal

pub returns : goal.returns
returns c =
    let change = c.args.self.now in
    let changed : Adds c.begin_object.new.self c.put_list_member.new.writer (list_tokens (codes "changed") (map map_change_data change.changed)) = search rules in
    let gone : Adds c.put_new_fight.new.writer c.put_list_member-2.new.writer (list_tokens (codes "gone") (map (λ id. string (id_text id)) change.gone)) = search rules in
    let lights : Adds c.put_list_member-2.new.writer c.put_types_member.new.writer (types_tokens (codes "lights") radius_data change.lights) = search rules in
    let maps : Adds c.put_types_member.new.writer c.put_list_member-3.new.writer (list_tokens (codes "maps") (maps_data change.maps)) = search rules in
    let sights : Adds c.put_list_member-3.new.writer c.put_types_member-2.new.writer (types_tokens (codes "sights") wholes_data change.sights) = search rules in
    let tokens : Adds c.put_types_member-2.new.writer c.put_list_member-4.new.writer (list_tokens (codes "tokens") (tokens_data change.tokens)) = search rules in
    let unmapped : Adds c.put_list_member-4.new.writer c.put_list_member-5.new.writer (list_tokens (codes "unmapped") (map string change.unmapped)) = search rules in
    and_token c.end_object.result c.end_object.ensures
    (then_part unmapped
    (then_part tokens
    (then_part sights
    (then_part maps
    (then_part lights
    (then_part gone
    (then_part c.in_ok-put_new_fight.ensures
    (then_part changed
    (then_token c.in_ok-begin_object.ensures
    (all_left (change_tokens change)))))))))))
