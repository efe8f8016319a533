-- What `check` prints of a campaign.
use Rattle.std.specs.Prelude.{ℕ, List, [], ◌∷◌, ◌++◌, length, codes, decimal}
use Rattle.world.specs.World.{World}

-- how many seats, maps and tokens the world has
abbrev pub count_line : World → List ℕ
count_line world =
    codes "ok: " ++ (decimal (length world.books) ++ (codes " seats, " ++ (decimal (length world.scene.maps) ++ (codes " maps, " ++ (decimal (length world.scene.tokens) ++ (codes " tokens" ++ 10 ∷ []))))))
