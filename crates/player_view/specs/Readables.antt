-- What a seat's macros can read, and the tokens that they may change: of a scene and of a view.
use Rattle.std.specs.Prelude.{ℕ, if◌then◌else◌, List, [], ◌∷◌, ◌++◌, map, flat_map, Option, Some, None, is_some}
use Rattle.indexmap.specs.IndexMap.{insert_all}
use Rattle.names.specs.declared.token_id.TokenId.{TokenId}
use Rattle.names.specs.declared.kinds.PropClass.{PropClass}
use Rattle.names.specs.declared.kinds.PropClass.TheVariants.{Public, Own, Secret}
use Rattle.tokens.specs.declared.token.Token.{Token}
use Rattle.tokens.specs.Properties.{Property}
use Rattle.views.specs.declared.view.View.{View}
use Rattle.views.specs.declared.view.TokenView.{TokenView}
use Rattle.views.specs.declared.view.OwnedPart.{OwnedPart}
use Rattle.views.specs.declared.view.GmPart.{GmPart}
use Rattle.readable.specs.Table.{Table, key_eq}
use Rattle.readable.specs.declared.prop_key.PropKey.{PropKey}
use Rattle.world.specs.Scene.{Scene}
use Rattle.player_view.specs.View.{is_gm, acts_on, has_token}

-- properties of a class under their keys
abbrev pub keyed : TokenId → PropClass → List Property → List (PropKey × List ℕ)
keyed id class props = map (λ p. (record { id = id; class = class; name = p.0 }, p.1)) props

-- the table of these values, put one after another, in a campaign of so many seats
abbrev pub table_of : ℕ → List (PropKey × List ℕ) → List TokenId → Table
table_of seats values yours = record { values = insert_all key_eq [] values; yours = yours; seats = seats }

-- ---- a scene

-- what macros can read of a token: the Public properties of one that the seat is shown, the Own properties of one that it may act
-- on, and for the game master the Secret ones
abbrev pub read_of : Scene → ℕ → Token → List (PropKey × List ℕ)
read_of s q t = (if has_token s q t then keyed t.id Public t.public else [])
    ++ ((if acts_on s q t then keyed t.id Own t.own else []) ++ (if is_gm q then keyed t.id Secret t.secret else []))

-- macros may change a token that the seat may act on
abbrev pub yours_of : Scene → ℕ → Token → List TokenId
yours_of s q t = if acts_on s q t then t.id ∷ [] else []

abbrev pub readable_of : ℕ → Scene → ℕ → Table
readable_of seats s q = table_of seats (flat_map (read_of s q) s.tokens) (flat_map (yours_of s q) s.tokens)

-- ---- a view

abbrev pub props_in : Option OwnedPart → List Property
props_in None = []
props_in (Some part) = part.own

abbrev pub secret_in : Option GmPart → List Property
secret_in None = []
secret_in (Some part) = part.secret

abbrev pub read_in : TokenView → List (PropKey × List ℕ)
read_in t = keyed t.id Public t.props ++ (keyed t.id Own (props_in t.owned) ++ keyed t.id Secret (secret_in t.whole))

abbrev pub yours_in : TokenView → List TokenId
yours_in t = if is_some t.owned then t.id ∷ [] else []

abbrev pub readable_by_view : ℕ → View → Table
readable_by_view seats v = table_of seats (flat_map read_in v.tokens) (flat_map yours_in v.tokens)

-- ---- tables as they are made

-- these values are put, one after another
abbrev pub with_values : List (PropKey × List ℕ) → Table → Table
with_values values table = record table { values = insert_all key_eq table.values values }

-- what can be read of a token is put
abbrev pub with_token : TokenView → Table → Table
with_token t table = record {
  values = insert_all key_eq table.values (read_in t);
  yours = table.yours ++ yours_in t;
  seats = table.seats;
}
