-- How many objects blocks give, and the limit of that (chapter "Object Definitions").
use Rattle.std.specs.Prelude.{◌≡◌, ℕ, ◌+◌, ◌<◌, ◌≤◌, List, length, filter, sum_by}
use Rattle.std.specs.List.{AllZip, range_with_len}
use Rattle.due_model.specs.claims.Limits.{max_objects}
use Rattle.object_groups.specs.claims.Objects.{is_object_at}
use Rattle.object_reader.specs.declared.block.Block.{Block}
use Rattle.object_reader.specs.declared.block.BlockKind.{BlockKind}
use Rattle.object_reader.specs.declared.block.BlockKind.TheVariants.{Host, Service}
use Rattle.object_services.specs.claims.Hosts.{AreHosts}

-- the lists are the hosts of the blocks at these places, one after the other
abbrev pub AreHostLists : List Block → (places : List ℕ) → (lists : List (List ℕ)) → Type 0
AreHostLists blocks places lists = AllZip (AreHosts blocks) places lists

-- the places below a bound at which objects of the type stand
abbrev pub objects_below : List Block → BlockKind → ℕ → List ℕ
objects_below blocks kind bound = filter (is_object_at blocks kind) (range_with_len 0 bound)

-- The blocks below a place give so many objects: each host one, and each service block one for each of its
-- hosts.
abbrev pub GiveObjects : List Block → (place count : ℕ) → Type 0
GiveObjects blocks place count = (lists : List (List ℕ))
    × AreHostLists blocks (objects_below blocks Service place) lists
    × (count ≡ length (objects_below blocks Host place) + sum_by length lists)

-- The blocks keep within the limit of objects.
abbrev pub AreWithinLimit : List Block → Type 0
AreWithinLimit blocks =
    (count : ℕ) × GiveObjects blocks (length blocks) count × (count ≤ max_objects)

-- The blocks pass the limit at the place: with the block there they give more objects than fit, and without it
-- they don't.
pub record PassesLimit (blocks : List Block) (place : ℕ) : Type 0 where
  pub within : place < length blocks
  pub before : (count : ℕ) × GiveObjects blocks place count × (count ≤ max_objects)
  pub over : (count : ℕ) × GiveObjects blocks (place + 1) count × (max_objects < count)
