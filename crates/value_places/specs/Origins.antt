-- Which blocks objects come from (chapter "Object Definitions").
use Rattle.std.specs.Prelude.{◌≡◌, ℕ, true, false, List, [], ◌++◌, flat_map, length, map, slice_index_or}
use Rattle.std.specs.List.{range_with_len}
use Rattle.object_groups.specs.claims.Objects.{objects_in}
use Rattle.object_reader.specs.declared.block.Block.{Block}
use Rattle.object_reader.specs.declared.block.BlockKind.TheVariants.{Host, Service}
use Rattle.object_services.specs.claims.Limits.{AreHostLists}
use Rattle.value_places.specs.declared.origins.Origin.{Origin}

-- the host whose block stands at the place: it is its own host
abbrev pub host_origin : (place : ℕ) → Origin
host_origin place = record { place = place; host = place; is_service = false }

-- the service that the block at the place gives on the host of that number, where the hosts' blocks stand at these
abbrev pub service_origin : (hosts : List ℕ) → (place number : ℕ) → Origin
service_origin hosts place number = record {
  place = place;
  host = slice_index_or hosts number 0;
  is_service = true;
}

-- the services of the service block of that number, where these are the hosts of each: host by host
abbrev pub services_at : (hosts services : List ℕ) → (lists : List (List ℕ)) → (number : ℕ) → List Origin
services_at hosts services lists number =
    map (service_origin hosts (slice_index_or services number 0)) (slice_index_or lists number [])

-- the hosts in file order, and then the services, block by block
abbrev pub origins_of : (hosts services : List ℕ) → (lists : List (List ℕ)) → List Origin
origins_of hosts services lists = map host_origin hosts
    ++ flat_map (services_at hosts services lists) (range_with_len 0 (length services))

-- The objects of the blocks, in the order of their numbers.
pub record AreOrigins (blocks : List Block) (origins : List Origin) : Type 0 where
  -- the hosts of each service block
  pub lists : List (List ℕ)
  pub lists_are : AreHostLists blocks (objects_in blocks Service) lists
  pub are : origins ≡ origins_of (objects_in blocks Host) (objects_in blocks Service) lists
