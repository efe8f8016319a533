use Rattle.std.proofs.Common.{rules, [], ◌∷◌, decimal}
use Rattle.std.specs.Prelude.{map}
use Rattle.json.specs.Token.{number}
use Rattle.json_lines.specs.Added.{Adds}
use Rattle.json_lines.specs.Tokens.{value_tokens}
use Rattle.json_lines.proofs.Steps.{all_left, then_part, then_token, and_token}
use Rattle.view_lines.specs.Lines.{list_data, entry_data}
use Rattle.view_lines.proofs.Ordered.{fight_tokens}
use Rattle.view_lines.proofs.fights.FightViewPart.put.Goals as goal

pub returns : goal.returns
returns c =
    let fight = c.args.self.now in
    let list : Adds c.key.new.self c.put_list.new.writer (value_tokens (list_data (map entry_data fight.list))) = search rules in
    let round : Adds c.key-2.new.self c.u64.new.self (number (decimal fight.round) ∷ []) = search rules in
    and_token c.end_object.result c.end_object.ensures
    (then_part c.in_ok-put_turn.ensures
    (then_token c.in_ok-key-3.ensures
    (then_part round
    (then_token c.in_ok-key-2.ensures
    (then_part list
    (then_token c.in_ok-key.ensures
    (then_token c.in_ok-begin_object.ensures
    (all_left (fight_tokens fight)))))))))
