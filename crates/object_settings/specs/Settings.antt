-- The hosts and services of a configuration, and their notification settings (chapters "Object Definitions",
-- "Object Inheritance" and "Notifications").
use Rattle.std.specs.Prelude.{ℕ, ◌<◌, Bool, All, List, [], length, slice_index_or}
use Rattle.object_groups.specs.claims.Objects.{objects_in}
use Rattle.object_listing.specs.Contacts.{IsAsked}
use Rattle.object_reader.specs.declared.block.Block.{Block}
use Rattle.object_reader.specs.declared.block.BlockKind.TheVariants.{Host, Service}

-- ---- what has to be known for them

-- the contacts of each host's block are asked for
abbrev pub AskForHosts : List Block → (asked : List Bool) → Type 0
AskForHosts blocks asked = All (IsAsked asked) (objects_in blocks Host)

-- those of each service block that has hosts are asked for, where these are the hosts of each
abbrev pub AskForServices : List Block → (hosts : List (List ℕ)) → (asked : List Bool) → Type 0
AskForServices blocks hosts asked = (number : ℕ) → 0 < length (slice_index_or hosts number [])
    → IsAsked asked (slice_index_or (objects_in blocks Service) number 0)
