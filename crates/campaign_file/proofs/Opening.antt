-- What is read fits together as a world.
use Rattle.std.proofs.Common.{◌≡◌, ℕ, ◌+◌, true, List, [], ◌∷◌, length}
use Rattle.seats.specs.Book.{Book}
use Rattle.world.specs.Scene.{Scene}
use Rattle.world.specs.World.{AreNumberedFrom, IsWorld, are_used}
use Rattle.campaign_file.specs.Seats.{AreFreshFrom, IsOpening}

numbered : (place : ℕ) (books : List Book) → AreFreshFrom place books → AreNumberedFrom place books
numbered place [] fresh = tt
numbered place (book ∷ books) fresh = (fresh.0.seat, numbered (place + 1) books fresh.1)

pub is_world : (scene : Scene) (books : List Book) → IsOpening books → scene.fog.players + 1 ≡ length books → are_used books scene.tokens ≡ true → IsWorld (record { scene = scene; books = books })
is_world scene books opening players used = record { least = opening.least; most = opening.most; numbered = numbered 0 books opening.fresh; players = players; tags = used }
