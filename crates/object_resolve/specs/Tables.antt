-- What is made of blocks once, for the passes after the first two.
use Rattle.std.specs.Prelude.{◌≡◌, ℕ, ◌+◌, ◌<◌, ◌^◌, List, length}
use Rattle.object_groups.specs.declared.groups.GroupKind.TheVariants.{HostGroups}
use Rattle.object_groups.specs.claims.Objects.{names_in}
use Rattle.object_reader.specs.declared.block.Block.{Block}
use Rattle.object_reader.specs.declared.block.BlockKind.TheVariants.{Host, Service}
use Rattle.object_resolve.specs.declared.tables.Tables.{Tables}
use Rattle.object_services.specs.claims.Numbers.{Pair, pairs_of}

pub record AreTables (blocks : List Block) (tables : Tables) : Type 0 where
  pub objects_are : tables.objects.now ≡ blocks
  pub services_are : tables.services.now ≡ blocks
  pub hosts_are : tables.hosts ≡ record { blocks = blocks; kind = HostGroups }

-- these are the services, where these are the hosts of each service block, and their numbers fit in 32 bits
pub record AreServices (blocks : List Block) (hosts : List (List ℕ)) (services : List Pair)
    : Type 0 where
  pub services_are : services ≡ pairs_of (names_in blocks Service) hosts
  pub few : length (names_in blocks Host) + length services < 2 ^ 32
