-- The service groups that blocks define (chapter "Object Definitions").
use Rattle.std.specs.Prelude.{ℕ, List, [], codes, length, map, replicate, slice_index_or}
use Rattle.std.specs.List.{flat_map, range_with_len}
use Rattle.object_groups.specs.claims.Names.{numbers_of}
use Rattle.object_groups.specs.claims.Objects.{list_at, names_in, objects_in}
use Rattle.object_pairs.specs.claims.Members.{places_of}
use Rattle.object_reader.specs.declared.block.Block.{Block}
use Rattle.object_reader.specs.declared.block.BlockKind.{BlockKind}
use Rattle.object_reader.specs.declared.block.BlockKind.TheVariants.{Host, Service, ServiceGroup}
use Rattle.object_services.specs.claims.Numbers.{Pair, pairs_of}
use Rattle.object_service_groups.specs.claims.Members.{Grouping}

-- the services that the `members` of each group name, where these are the services
unfoldable pub named_in : List Block → (services : List Pair) → List (List ℕ)
named_in blocks services = map
    (λ place. places_of (names_in blocks Host) services (list_at blocks (codes "members") place))
    (objects_in blocks ServiceGroup)

-- the service groups that each object of the type lists by a directive, in which * is a name
unfoldable pub groups_in : List Block → BlockKind → List ℕ → List (List ℕ)
groups_in blocks kind directive = map
    (λ place. numbers_of (names_in blocks ServiceGroup) (list_at blocks directive place))
    (objects_in blocks kind)

-- The block of each service, where these are the hosts of each block: block by block, and within a block one
-- service for each host.
unfoldable pub owners_of : (lists : List (List ℕ)) → List ℕ
owners_of lists = flat_map (λ number. replicate (length (slice_index_or lists number [])) number)
    (range_with_len 0 (length lists))

-- The service groups, service blocks and services of blocks, where these are the hosts of each service block.
abbrev pub grouping : List Block → (lists : List (List ℕ)) → Grouping
grouping blocks lists = record {
  named = named_in blocks (pairs_of (names_in blocks Service) lists);
  subgroups = groups_in blocks ServiceGroup (codes "servicegroup_members");
  own_groups = groups_in blocks Service (codes "servicegroups");
  owners = owners_of lists;
}
