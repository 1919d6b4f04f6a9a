-- Services that two blocks give (chapter "Object Definitions").
use Rattle.std.specs.Prelude.{◌≡◌, ℕ, ◌<◌, List, [], length, slice_index_or}
use Rattle.object_groups.specs.claims.Objects.{names_in, objects_in}
use Rattle.object_reader.specs.declared.block.Block.{Block}
use Rattle.object_reader.specs.declared.block.BlockKind.TheVariants.{Service}
use Rattle.object_services.specs.claims.Hosts.{HasHost}

-- the description of the services that the block of that number gives, and the place where the block stands
abbrev pub description_of : List Block → ℕ → List ℕ
description_of blocks number = slice_index_or (names_in blocks Service) number []

abbrev pub place_of : List Block → ℕ → ℕ
place_of blocks number = slice_index_or (objects_in blocks Service) number 0

-- two service blocks have a host in common
abbrev pub ShareHost : List Block → (one other : ℕ) → Type 0
ShareHost blocks one other = (host : ℕ)
    × HasHost blocks (place_of blocks one) host × HasHost blocks (place_of blocks other) host

-- The service block of that number gives a service that one before it gives: it has the same description, and
-- a host in common with it.
pub record IsDoubled (blocks : List Block) (number : ℕ) : Type 0 where
  pub within : number < length (names_in blocks Service)
  pub earlier : ℕ
  pub before : earlier < number
  pub same : description_of blocks earlier ≡ description_of blocks number
  pub shared : ShareHost blocks earlier number
