use Rattle.std.proofs.Common.{rules, subst, [], ◌∷◌}
use Rattle.std.specs.Prelude.{codes}
use Rattle.json.specs.Token.{key, string}
use Rattle.names.specs.Words.{layer_word}
use Rattle.json_lines.specs.Added.{Adds}
use Rattle.json_lines.specs.Tokens.{value_tokens}
use Rattle.json_lines.proofs.Steps.{all_left, then_part, then_token, and_token}
use Rattle.view_lines.specs.Lines.{props_data}
use Rattle.view_lines.proofs.Ordered.{token_tokens}
use Rattle.view_lines.proofs.token_views.TokenViewPart.put.Goals as goal

pub returns : goal.returns
returns c =
    let t = c.args.self.now in
    let layer : Adds c.put-2.new.writer c.put_text.new.writer (key (codes "layer") ∷ string (layer_word t.layer) ∷ []) = search rules in
    let map : Adds c.put_light.new.writer c.put_text-2.new.writer (key (codes "map") ∷ string t.map ∷ []) = search rules in
    let name : Adds c.put_text-2.new.writer c.put_text-3.new.writer (key (codes "name") ∷ string t.name ∷ []) = search rules in
    let props : Adds c.key-3.new.self c.put_list.new.writer (value_tokens (props_data t.props)) =
    subst (λ ps. Adds c.key-3.new.self c.put_list.new.writer (value_tokens (props_data ps))) c.items.ensures c.in_ok-put_list.ensures in
    and_token c.end_object.result c.end_object.ensures
    (then_part c.in_ok-put_visible.ensures
    (then_part c.in_ok-put_whole.ensures
    (then_part c.in_ok-put_sight.ensures
    (then_part c.in_ok-put_secret.ensures
    (then_part props
    (then_token c.in_ok-key-3.ensures
    (then_part c.in_ok-put_owners.ensures
    (then_part c.in_ok-put_own.ensures
    (then_part name
    (then_part map
    (then_part c.in_ok-put_light.ensures
    (then_part layer
    (then_part c.in_ok-put-2.ensures
    (then_token c.in_ok-key-2.ensures
    (then_part c.in_ok-put.ensures
    (then_token c.in_ok-key.ensures
    (then_token c.in_ok-begin_object.ensures
    (all_left (token_tokens t)))))))))))))))))))
