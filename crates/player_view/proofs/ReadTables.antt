-- Tables of what macros can read, put value by value and token by token.
use Rattle.std.proofs.Common.{◌≡◌, ℕ, ◌+◌, ◌<◌, List, [], ◌∷◌, ◌++◌, length, take, get_or, sym, ◌∙◌, ap, append-nil}
use Rattle.std.specs.Prelude.{flat_map}
use Rattle.std.proofs.lemmas.List.{take_more, map-append}
use Rattle.std.proofs.lemmas.List.Sums.{fold-append}
use Rattle.std.proofs.lemmas.Grind.{flat_map-append}
use Rattle.indexmap.specs.IndexMap.{insert_entry, insert_all}
use Rattle.names.specs.declared.token_id.TokenId.{TokenId}
use Rattle.names.specs.declared.kinds.PropClass.{PropClass}
use Rattle.names.specs.declared.kinds.PropClass.TheVariants.{Public, Own, Secret}
use Rattle.tokens.specs.Properties.{Property}
use Rattle.readable.specs.declared.prop_key.PropKey.{PropKey}
use Rattle.readable.specs.Table.{Table, key_eq, with_value}
use Rattle.views.specs.declared.view.TokenView.{TokenView}
use Rattle.player_view.specs.Readables.{keyed, props_in, secret_in, read_in, yours_in, table_of, with_values, with_token}

put_both : (es xs ys : List (PropKey × List ℕ)) → insert_all key_eq es (xs ++ ys) ≡ insert_all key_eq (insert_all key_eq es xs) ys
put_both es xs ys = fold-append (λ done p. insert_entry key_eq done p.0 p.1) es xs ys

-- one more property
pub props_next : (id : TokenId) (class : PropClass) (props : List Property) (i : ℕ) (d : Property) (table : Table) → i < length props
    → with_values (keyed id class (take (i + 1) props)) table ≡ with_value (record { id = id; class = class; name = (get_or props i d).0 }) (get_or props i d).1 (with_values (keyed id class (take i props)) table)
props_next id class props i d table lt =
    let more : keyed id class (take (i + 1) props) ≡ keyed id class (take i props) ++ keyed id class (get_or props i d ∷ []) = ap (keyed id class) (take_more props i d lt) ∙ map-append _ (take i props) (get_or props i d ∷ []) in
    ap (λ vs. with_values vs table) more ∙ ap (λ vs. record table { values = vs }) (put_both table.values (keyed id class (take i props)) (keyed id class (get_or props i d ∷ [])))

-- the three classes of a token, one behind another
pub token_put : (t : TokenView) (table : Table)
    → record (with_values (keyed t.id Secret (secret_in t.whole)) (with_values (keyed t.id Own (props_in t.owned)) (with_values (keyed t.id Public t.props) table))) { yours = table.yours ++ yours_in t } ≡ with_token t table
token_put t table =
    let a = put_both table.values (keyed t.id Public t.props) (keyed t.id Own (props_in t.owned) ++ keyed t.id Secret (secret_in t.whole)) in
    let b = put_both (insert_all key_eq table.values (keyed t.id Public t.props)) (keyed t.id Own (props_in t.owned)) (keyed t.id Secret (secret_in t.whole)) in
    ap (λ vs. record { values = vs; yours = table.yours ++ yours_in t; seats = table.seats }) (sym (a ∙ b))

-- one more token
pub token_next : (seats : ℕ) (tokens : List TokenView) (i : ℕ) (d : TokenView) → i < length tokens
    → table_of seats (flat_map read_in (take (i + 1) tokens)) (flat_map yours_in (take (i + 1) tokens)) ≡ with_token (get_or tokens i d) (table_of seats (flat_map read_in (take i tokens)) (flat_map yours_in (take i tokens)))
token_next seats tokens i d lt =
    let t = get_or tokens i d in
    let more = take_more tokens i d lt in
    let values : flat_map read_in (take (i + 1) tokens) ≡ flat_map read_in (take i tokens) ++ read_in t = ap (flat_map read_in) more ∙ flat_map-append read_in (take i tokens) (t ∷ []) ∙ ap (λ r. flat_map read_in (take i tokens) ++ r) (append-nil (read_in t)) in
    let yours : flat_map yours_in (take (i + 1) tokens) ≡ flat_map yours_in (take i tokens) ++ yours_in t = ap (flat_map yours_in) more ∙ flat_map-append yours_in (take i tokens) (t ∷ []) ∙ ap (λ r. flat_map yours_in (take i tokens) ++ r) (append-nil (yours_in t)) in
    (λ j. table_of seats (values j) (yours j)) ∙ ap (λ vs. record { values = vs; yours = flat_map yours_in (take i tokens) ++ yours_in t; seats = seats }) (put_both [] (flat_map read_in (take i tokens)) (read_in t))
