-- The canonical campaign text of a world.
use Rattle.std.specs.Prelude.{ℕ, List, map, codes}
use Rattle.hex.specs.Hex.{encode_lower}
use Rattle.initiative.specs.Fights.{no_fight}
use Rattle.seats.specs.Book.{Book}
use Rattle.seats.specs.declared.seat_state.SeatState.TheVariants.{Free}
use Rattle.serde_json.specs.Data.{Data, Members, string, object, no_members, member}
use Rattle.serde_json.specs.Written.{compact_text}
use Rattle.world.specs.Scene.{Scene}
use Rattle.world.specs.World.{World}
use Rattle.campaign_json.specs.declared.formats.Format.{Format}
use Rattle.campaign_json.specs.declared.formats.Format.TheVariants.{First, Second}
use Rattle.campaign_json.specs.Kinds.{format_number}
use Rattle.campaign_writing.specs.Trees.{whole, list, named, with_member}
use Rattle.campaign_writing.specs.Scenes.{lights_tree, sights_tree, maps_tree, tokens_tree, fog_tree}

abbrev pub tags_tree : List (List ℕ) → Data
tags_tree tags = list (map string tags)

abbrev pub macros_tree : List (List ℕ × List ℕ) → Data
macros_tree macros = object (named string macros)

unfoldable pub seat_tree : Scene → Book → Data
seat_tree s book = object
    (member (codes "drawn") (whole book.drawn)
    (member (codes "fog") (fog_tree s book.seat)
    (member (codes "key") (string book.key)
    (member (codes "macros") (macros_tree book.macros)
    (member (codes "seed") (string (encode_lower book.seed))
    (member (codes "tags") (tags_tree book.tags) no_members))))))

-- its members as they are put in, one after the other
unfoldable pub seat_members : Scene → Book → Members
seat_members s book =
    with_member (codes "tags") (tags_tree book.tags)
    (with_member (codes "seed") (string (encode_lower book.seed))
    (with_member (codes "macros") (macros_tree book.macros)
    (with_member (codes "key") (string book.key)
    (with_member (codes "fog") (fog_tree s book.seat)
    (with_member (codes "drawn") (whole book.drawn) no_members)))))

abbrev pub seats_tree : Scene → List Book → Data
seats_tree s books = list (map (seat_tree s) books)

-- the campaign text of a format
unfoldable pub campaign_tree_in : Format → World → Data
campaign_tree_in format w = object
    (member (codes "format") (whole (format_number format))
    (member (codes "lights") (lights_tree w.scene.lights)
    (member (codes "maps") (maps_tree format w.scene.maps)
    (member (codes "seats") (seats_tree w.scene w.books)
    (member (codes "sights") (sights_tree w.scene.sights)
    (member (codes "tokens") (tokens_tree w.scene.tokens) no_members))))))

-- its members as they are put in, one after the other
unfoldable pub campaign_members : Format → World → Members
campaign_members format w =
    with_member (codes "tokens") (tokens_tree w.scene.tokens)
    (with_member (codes "sights") (sights_tree w.scene.sights)
    (with_member (codes "seats") (seats_tree w.scene w.books)
    (with_member (codes "maps") (maps_tree format w.scene.maps)
    (with_member (codes "lights") (lights_tree w.scene.lights)
    (with_member (codes "format") (whole (format_number format)) no_members)))))

-- the campaign text is of the second format
unfoldable pub campaign_tree : World → Data
campaign_tree w = campaign_tree_in Second w

abbrev pub canonical_in : Format → World → List ℕ
canonical_in format w = compact_text (campaign_tree_in format w)

-- the campaign text of the world. Lines, the states of seats and the fight don't stand in it
unfoldable pub canonical : World → List ℕ
canonical w = canonical_in Second w

-- the same in the first format, in which trails and darknesses don't stand either
unfoldable pub first_canonical : World → List ℕ
first_canonical w = canonical_in First w

-- the book as a campaign opens with it
abbrev pub reopened_book : Book → Book
reopened_book book = record book { lines = 0; state = Free }

-- the world that the text opens with: no line was counted, all seats are Free, and there is no fight
abbrev pub reopened : World → World
reopened w = record { scene = record w.scene { fight = no_fight }; books = map reopened_book w.books }
