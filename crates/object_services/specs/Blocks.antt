-- How the service blocks are kept.
use Rattle.std.specs.Prelude.{◌≡◌, List}
use Rattle.object_reader.specs.declared.block.Block.{Block}
use Rattle.object_reader.specs.declared.block.BlockKind.TheVariants.{Service}
use Rattle.object_groups.specs.Objects.{ObjectsOf}
use Rattle.object_listing.specs.claims.Listing.{host_directives}
use Rattle.object_listing.specs.Listing.{ListingOf}

-- the service blocks, and the hosts that all blocks list
pub record AreServiceBlocks (blocks : List Block) (objects : ObjectsOf)
    (hosts : ListingOf) : Type 0 where
  pub objects_are : objects ≡ record { blocks = blocks; kind = Service }
  pub hosts_are : hosts ≡ record { blocks = blocks; directives = host_directives }
