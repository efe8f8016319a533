-- Objects whose members were put in one after the other.
use Rattle.std.proofs.Common.{◌≡◌, refl}
use Rattle.maps.specs.Maps.{Grid}
use Rattle.seats.specs.Book.{Book}
use Rattle.serde_json.specs.Data.{object}
use Rattle.tokens.specs.declared.token.Token.{Token}
use Rattle.world.specs.Scene.{Scene}
use Rattle.world.specs.World.{World}
use Rattle.campaign_json.specs.declared.formats.Format.{Format}
use Rattle.campaign_json.specs.declared.formats.Format.TheVariants.{First, Second}
use Rattle.campaign_writing.specs.Canonical.{campaign_members, campaign_tree_in, seat_members, seat_tree}
use Rattle.campaign_writing.specs.Scenes.{map_members, map_tree, token_members, token_tree}
use Rattle.campaign_writing.specs.Trees.{with_member}

pub token_of_members : (t : Token) → object (token_members t) ≡ token_tree t
unfolding token_members token_tree with_member
token_of_members t = refl

pub map_of_members : (format : Format) (m : Grid) → object (map_members format m) ≡ map_tree format m
unfolding map_members map_tree with_member
map_of_members First m = refl
map_of_members Second m = refl

pub seat_of_members : (s : Scene) (book : Book) → object (seat_members s book) ≡ seat_tree s book
unfolding seat_members seat_tree with_member
seat_of_members s book = refl

pub campaign_of_members : (format : Format) (w : World) → object (campaign_members format w) ≡ campaign_tree_in format w
unfolding campaign_members campaign_tree_in with_member
campaign_of_members format w = refl
