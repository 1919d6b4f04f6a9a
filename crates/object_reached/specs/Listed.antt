-- Services that blocks list by their hosts and descriptions and by service groups (chapter "Object Definitions").
use Rattle.std.specs.Prelude.{◌≡◌, ℕ, Bool, true, List, [], Some, Contains, slice_get, slice_index_or}
use Rattle.object_groups.specs.claims.Objects.{names_in, objects_in}
use Rattle.object_inheritance.specs.Columns.{Column}
use Rattle.object_listing.specs.claims.Listing.{AreThose}
use Rattle.object_listing.specs.Listing.{Adds, ListingOf}
use Rattle.object_reader.specs.declared.block.Block.{Block}
use Rattle.object_reader.specs.declared.block.BlockKind.TheVariants.{Service}
use Rattle.object_service_groups.specs.claims.Groups.{grouping}
use Rattle.object_service_groups.specs.claims.Members.{IsMember}
use Rattle.object_services.specs.claims.Limits.{AreHostLists}
use Rattle.object_services.specs.claims.Numbers.{Pair, pairs_of}
use Rattle.object_reached.specs.claims.Services.{IsServiceOf}
use Rattle.object_reached.specs.Services.{services_on}
use Rattle.object_reached.specs.claims.Listed.{ServiceDirectives, of_hosts, is_named, IsServiceListed}

-- whether it names the description of the service at the place
abbrev pub is_named_at : (services : List Pair) → (entries : List (List ℕ)) → (service : ℕ) → Bool
is_named_at services entries service = is_named entries ((slice_index_or services service (0, [])).1)

-- Exactly the services that the block lists, by their places among the services, each once and in order: these are
-- numbered by the hosts of the service blocks.
abbrev pub AreServicesListed : List Block → (services : List Pair) → ServiceDirectives → (place : ℕ)
    → (found : List ℕ) → Type 0
AreServicesListed blocks services directives place found = (lists : List (List ℕ))
    → AreHostLists blocks (objects_in blocks Service) lists
    → services ≡ pairs_of (names_in blocks Service) lists
    → AreThose (IsServiceListed blocks lists directives place) found

-- ---- how it is kept and found

-- blocks, and four directives
pub record ServiceListingOf : Type 0 where
  pub blocks : List Block
  pub directives : ServiceDirectives

-- what all blocks have for these
pub record AreServiceLists (blocks : List Block) (hosts : ListingOf) (descriptions groups : Column)
    (directives : ServiceDirectives) : Type 0 where
  pub hosts_are : hosts ≡ record { blocks = blocks; directives = of_hosts directives }
  pub descriptions_are :
      descriptions ≡ record { blocks = blocks; directive = directives.descriptions }
  pub groups_are : groups ≡ record { blocks = blocks; directive = directives.groups }

-- a service on the host, of a description that the list names
abbrev pub IsOn : (services : List Pair) → (entries : List (List ℕ)) → (host service : ℕ) → Type 0
IsOn services entries host service = (description : List ℕ)
    × IsServiceOf services service host description × (is_named entries description ≡ true)

-- the service is at that place among those of the host, and of a description that the list names
abbrev pub IsNthOn : (services : List Pair) → (entries : List (List ℕ)) → (turn host service : ℕ)
    → Type 0
IsNthOn services entries turn host service = (slice_get (services_on services host) turn ≡ Some service)
    × (is_named_at services entries service ≡ true)

-- what is so of one of these, as a member of one of these groups
abbrev pub OfSome : {X : Type 0} → (member : X → ℕ → Type 0) → List X → ℕ → Type 0
OfSome {X} member xs service = (x : X) × Contains xs x × member x service

-- To these numbers came exactly the members of the groups of which `Q` says so, whichever lists are the hosts of the
-- service blocks.
abbrev pub AddsMembers : List Block → (Q : ℕ → Type 0) → (old new : List ℕ) → Type 0
AddsMembers blocks Q old new = (lists : List (List ℕ))
    → AreHostLists blocks (objects_in blocks Service) lists
    → Adds (λ service. (group : ℕ) × Q group
    × IsMember (grouping blocks lists) group service) old new
