-- Laws of the limit of objects, of any blocks.
use Rattle.std.specs.Prelude.{◌≡◌, ℕ, ◌+◌, List, length, sum_by}
use Rattle.object_reader.specs.declared.block.Block.{Block}
use Rattle.object_reader.specs.declared.block.BlockKind.TheVariants.{Host, Service}
use Rattle.object_services.specs.claims.Limits.{AreHostLists, AreWithinLimit, GiveObjects, objects_below, PassesLimit}
use Rattle.object_services.specs.Limits.{PassesNowhere}

-- The blocks pass the limit at one place at most.
abbrev pub OnePlacePasses : Type 0
OnePlacePasses = (blocks : List Block) (one other : ℕ)
    → PassesLimit blocks one → PassesLimit blocks other → one ≡ other

-- Blocks that keep within the limit pass it nowhere.
abbrev pub WithinPassesNowhere : Type 0
WithinPassesNowhere = (blocks : List Block) → AreWithinLimit blocks → PassesNowhere blocks

-- What the blocks below a place give is the number of the hosts and of the services: the same, however
-- often it is counted.
abbrev pub CountIsTheSum : Type 0
CountIsTheSum = (blocks : List Block) (place count : ℕ) (lists : List (List ℕ))
    → GiveObjects blocks place count
    → AreHostLists blocks (objects_below blocks Service place) lists
    → count ≡ length (objects_below blocks Host place) + sum_by length lists
