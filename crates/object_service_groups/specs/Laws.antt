-- Laws of service groups, of any groups.
use Rattle.std.specs.Prelude.{◌≡◌, ℕ, ◌<◌, List, [], length, Some, slice_get, slice_index_or, Contains, ◌⊎◌, ◌↔◌}
use Rattle.graph.specs.claims.Chains.{Reaches}
use Rattle.object_groups.specs.claims.Objects.{names_in}
use Rattle.object_reader.specs.declared.block.Block.{Block}
use Rattle.object_reader.specs.declared.block.BlockKind.TheVariants.{Service}
use Rattle.object_services.specs.claims.Numbers.{pairs_of}
use Rattle.object_service_groups.specs.claims.Groups.{grouping}
use Rattle.object_service_groups.specs.claims.Members.{Grouping, Holds, Includes, IsMember}

-- the groups hold the same services, and list the same groups but that `from` now lists `to` too
pub record AddsInclusion (g more : Grouping) (from to : ℕ) : Type 0 where
  pub holds : (group service : ℕ) → Holds more group service ↔ Holds g group service
  pub includes : (group other : ℕ) →
      Includes more group other ↔ (Includes g group other ⊎ ((group ≡ from) × (other ≡ to)))

-- A group's members don't change when a loop is added to it: when one of the groups that a chain leads to
-- from it lists it in turn.
abbrev pub LoopAddsNothing : Type 0
LoopAddsNothing = (g more : Grouping) (group last : ℕ)
    → Reaches (Includes g) group last → AddsInclusion g more last group
    → (service : ℕ) → IsMember more group service ↔ IsMember g group service

-- A service that a group lists is a member.
abbrev pub ListedAreMembers : Type 0
ListedAreMembers = (g : Grouping) (group service : ℕ)
    → Contains (slice_index_or g.named group []) service → IsMember g group service

-- A service of a block that names the group is one.
abbrev pub BlocksServicesAreMembers : Type 0
BlocksServicesAreMembers = (g : Grouping) (group block service : ℕ)
    → slice_get g.owners service ≡ Some block
    → Contains (slice_index_or g.own_groups block []) group → IsMember g group service

-- And so is a member of a group that the group lists.
abbrev pub IncludedAreMembers : Type 0
IncludedAreMembers = (g : Grouping) (group other service : ℕ)
    → Includes g group other → IsMember g other service → IsMember g group service

-- The members of the groups of blocks are services, where these are the hosts of each service block.
abbrev pub MembersAreServices : Type 0
MembersAreServices = (blocks : List Block) (lists : List (List ℕ)) (group service : ℕ)
    → IsMember (grouping blocks lists) group service
    → service < length (pairs_of (names_in blocks Service) lists)
