-- The tags that accepted commands use.
use Rattle.std.specs.Prelude.{◌≡◌, ℕ, false, List, Option, Some, None}
use Rattle.std.specs.Option.{ForSome}
use Rattle.seats.specs.Book.{Book, with_tag, tag_used, tags_spent}
use Rattle.tokens.specs.Tokens.{has_token}
use Rattle.world.specs.Scene.{Scene}
use Rattle.command_json.specs.declared.command.Command.{Command}
use Rattle.command_json.specs.declared.command.Command.TheVariants.{Make, Token}

-- the tag of the token that a command makes
abbrev pub tag_made : Command → Option (List ℕ)
tag_made (Make tag map cell name) = Some tag
tag_made (Token tag map cell name size layer) = Some tag
tag_made c = None

-- the book once the tag is used
abbrev pub using_tag : Option (List ℕ) → Book → Book
using_tag None b = b
using_tag (Some tag) b = with_tag b tag

-- a seat that used these tags may use this one
pub record MayUse (seat : ℕ) (tags : List (List ℕ)) (tag : List ℕ) : Type 0 where
  pub unused : tag_used tags tag ≡ false
  pub room : tags_spent seat tags ≡ false

-- so it may with the tag of the token that its command makes, if it makes one
abbrev pub MayUseTag : Book → Command → Type 0
MayUseTag b c = ForSome (tag_made c) (MayUse b.seat b.tags)

-- no token has the id of the one that the seat's command makes, if it makes one
abbrev pub MakesNew : Scene → ℕ → Command → Type 0
MakesNew s seat c = ForSome (tag_made c) (λ tag. has_token (record { maker = seat; tag = tag }) s.tokens ≡ false)
