-- Laws of the objects of which blocks speak, of any blocks.
use Rattle.std.specs.Prelude.{ℕ, ◌+◌, ◌<◌, List, length}
use Rattle.object_groups.specs.claims.Objects.{names_in}
use Rattle.object_reader.specs.declared.block.Block.{Block}
use Rattle.object_reader.specs.declared.block.BlockKind.TheVariants.{Host, Service}
use Rattle.object_services.specs.claims.Numbers.{pairs_of}
use Rattle.object_reached.specs.declared.roles.Role.{Role}
use Rattle.object_reached.specs.claims.Reached.{SpeaksOf}

-- What blocks speak of are hosts, or services where these are the hosts of each service block.
abbrev pub SpokenAreObjects : Type 0
SpokenAreObjects = (blocks : List Block) (lists : List (List ℕ)) (role : Role) (place object : ℕ)
    → SpeaksOf blocks lists role place object
    → object < length (names_in blocks Host) + length (pairs_of (names_in blocks Service) lists)
