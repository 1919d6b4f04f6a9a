-- The objects of which blocks speak (chapters "Notification Escalations" and "Host and Service Dependencies").
use Rattle.std.specs.Prelude.{◌≡◌, ℕ, ◌+◌, ◌<◌, ◌^◌, List, length, map, All}
use Rattle.object_groups.specs.claims.Objects.{names_in, objects_in}
use Rattle.object_listing.specs.claims.Listing.{AreThose}
use Rattle.object_reader.specs.declared.block.Block.{Block}
use Rattle.object_reader.specs.declared.block.BlockKind.TheVariants.{Host, Service}
use Rattle.object_services.specs.claims.Limits.{AreHostLists}
use Rattle.object_services.specs.claims.Numbers.{Pair, pairs_of}
use Rattle.object_reached.specs.declared.roles.Role.{Role}
use Rattle.object_reached.specs.claims.Listed.{IsServiceListed, ServiceDirectives}
use Rattle.object_reached.specs.Listed.{ServiceListingOf}
use Rattle.object_reached.specs.claims.Roles.{directives_of}
use Rattle.object_reached.specs.claims.Reached.{SpeaksOf}

-- the objects of which the block at the place speaks, each once and in number order, whichever lists are the hosts of
-- the service blocks
abbrev pub AreSpokenOf : List Block → (services : List Pair) → Role → (place : ℕ)
    → (found : List ℕ) → Type 0
AreSpokenOf blocks services role place found = (lists : List (List ℕ))
    → AreHostLists blocks (objects_in blocks Service) lists
    → services ≡ pairs_of (names_in blocks Service) lists
    → AreThose (SpeaksOf blocks lists role place) found

-- ---- how they are kept and found

-- blocks, and a role
pub record ReachedOf : Type 0 where
  pub blocks : List Block
  pub role : Role

-- what all blocks have for the directives of the role
abbrev pub IsReached : List Block → Role → ServiceListingOf → Type 0
IsReached blocks role listing =
    listing ≡ record { blocks = blocks; directives = directives_of role }

-- the services that the block at the place lists, by their numbers
abbrev pub AreServicesOf : List Block → (services : List Pair) → ServiceDirectives → (place : ℕ)
    → (found : List ℕ) → Type 0
AreServicesOf blocks services directives place found = (lists : List (List ℕ))
    → AreHostLists blocks (objects_in blocks Service) lists
    → services ≡ pairs_of (names_in blocks Service) lists
    → AreThose (λ object. (service : ℕ) × (object ≡ length (names_in blocks Host) + service)
    × IsServiceListed blocks lists directives place service) found

-- the numbers are those of the services after so many hosts, where there are few enough
abbrev pub AreAfter : (hosts : ℕ) → (services numbers : List ℕ) → Type 0
AreAfter hosts services numbers = All (λ service. hosts + service < 2 ^ 32) services
    → numbers ≡ map (λ service. hosts + service) services
