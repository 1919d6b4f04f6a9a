-- Names that are given twice, and names that nothing has (chapter "Object Definitions").
use Rattle.std.specs.Prelude.{◌≡◌, ℕ, ◌⊎◌, List}
use Rattle.object_names.specs.claims.Doubled as names
use Rattle.object_names.specs.claims.Unknown.{HasUnknown}
use Rattle.object_pairs.specs.claims.Members.{HasUnknownMember}
use Rattle.object_reader.specs.declared.block.Block.{Block}
use Rattle.object_resolve.specs.claims.First.{IsFirstAt}
use Rattle.object_faults.specs.declared.load_fault.BlockFault.{BlockFault}
use Rattle.object_faults.specs.declared.load_fault.BlockFault.TheVariants.{Doubled, UnknownName}
use Rattle.object_services.specs.claims.Doubled as services
use Rattle.object_unknown_services.specs.claims.Unknown.{HasUnknownService}

-- the service block at the place gives a service that one before it gives
abbrev pub GivesDoubledService : List Block → ℕ → Type 0
GivesDoubledService blocks place = (number : ℕ)
    × services.IsDoubled blocks number × (services.place_of blocks number ≡ place)

-- The block at the place gives an object that one before it gives: one of its type and name, or a service of the
-- same description on the same host.
abbrev pub IsDoubledAt : List Block → ℕ → Type 0
IsDoubledAt blocks place = names.IsDoubled blocks place ⊎ GivesDoubledService blocks place

-- The block at the place names a host and a service that isn't there: by the members of a service group, or by the
-- hosts and descriptions of an escalation or a dependency.
abbrev pub HasUnknownPair : List Block → ℕ → Type 0
HasUnknownPair blocks place = HasUnknownMember blocks place ⊎ HasUnknownService blocks place

-- The block at the place names something that isn't there: by a list, as a period or a command, or as a host with a
-- service.
abbrev pub IsUnknownAt : List Block → ℕ → Type 0
IsUnknownAt blocks place = HasUnknown blocks place ⊎ HasUnknownPair blocks place

abbrev pub IsMisnamed : List Block → ℕ → Type 0
IsMisnamed blocks place = IsDoubledAt blocks place ⊎ IsUnknownAt blocks place

-- what is wrong with the names of the block at the place; of the two the first counts
abbrev pub IsNameFault : List Block → ℕ → BlockFault → Type 0
IsNameFault blocks place UnknownName = IsUnknownAt blocks place
IsNameFault blocks place Doubled = IsDoubledAt blocks place × (IsUnknownAt blocks place → ⊥)
IsNameFault blocks place _ = ⊥

-- The line is that of the first block with a fault of names, and the fault is that block's.
pub record IsFirstMisnamed (blocks : List Block) (line : ℕ) (fault : BlockFault) : Type 0 where
  pub first : IsFirstAt (IsMisnamed blocks) blocks line
  pub is : IsNameFault blocks first.place fault
