-- Services that escalations and dependencies name and that no block gives (chapters "Notification Escalations" and
-- "Host and Service Dependencies").
use Rattle.std.specs.Prelude.{◌≡◌, ℕ, ◌<◌, Bool, true, false, nat_lt, List, [], Option, Some, None, Contains, slice_index_or}
use Rattle.object_groups.specs.claims.Objects.{names_in}
use Rattle.object_listing.specs.claims.Listing.{IsListed}
use Rattle.object_pairs.specs.claims.Members.{HasService}
use Rattle.object_reached.specs.declared.roles.Role.{Role}
use Rattle.object_reached.specs.claims.Listed.{of_hosts}
use Rattle.object_reached.specs.claims.Roles.{directives_of}
use Rattle.object_reader.specs.declared.block.Block.{Block}
use Rattle.object_reader.specs.declared.block.BlockKind.TheVariants.{Service}
use Rattle.object_unknown_services.specs.Keys.{key_of}
use Rattle.object_unknown_services.specs.claims.Named.{NamesService}
use Rattle.object_unknown_services.specs.Stamps.{is_stamped}

-- ---- how it is found: role by role, and in each description by description

-- the same of one role
abbrev pub HasUnknownIn : List Block → Role → (place : ℕ) → Type 0
HasUnknownIn blocks role place = (host : ℕ) × (description : List ℕ)
    × NamesService blocks role place host description × (HasService blocks host description → ⊥)

-- and of the descriptions whose keys are below a bound
abbrev pub HasUnknownBelow : List Block → Role → (bound place : ℕ) → Type 0
HasUnknownBelow blocks role bound place = (host : ℕ) × (description : List ℕ)
    × NamesService blocks role place host description × (HasService blocks host description → ⊥)
    × (key_of (names_in blocks Service) description < bound)

-- and of one key
abbrev pub HasUnknownOf : List Block → Role → (key place : ℕ) → Type 0
HasUnknownOf blocks role key place = (host : ℕ) × (description : List ℕ)
    × NamesService blocks role place host description × (HasService blocks host description → ⊥)
    × (key_of (names_in blocks Service) description ≡ key)

-- the block at the place lists a host without the stamp
abbrev pub ListsUnstamped : List Block → Role → (stamps : List ℕ) → (stamp place : ℕ) → Type 0
ListsUnstamped blocks role stamps stamp place = (host : ℕ)
    × IsListed blocks (of_hosts (directives_of role)) place host
    × (is_stamped stamps stamp host ≡ false)

-- whether a place stands before the first that was found, if any was
abbrev pub is_before : (first : Option ℕ) → (place : ℕ) → Bool
is_before None place = true
is_before (Some found) place = nat_lt place found

-- the block there does
abbrev pub LacksAt : List Block → Role → (stamps : List ℕ) → (stamp here place : ℕ) → Type 0
LacksAt blocks role stamps stamp here place =
    (place ≡ here) × ListsUnstamped blocks role stamps stamp place

-- the block at one of the places does
abbrev pub LacksAmong : List Block → Role → (stamps : List ℕ) → (stamp : ℕ) → (places : List ℕ)
    → (place : ℕ) → Type 0
LacksAmong blocks role stamps stamp places place =
    Contains places place × ListsUnstamped blocks role stamps stamp place

-- and at a place of one of the lists of these numbers
abbrev pub LacksIn : List Block → Role → (stamps : List ℕ) → (stamp : ℕ) → (lists : List (List ℕ))
    → (numbers : List ℕ) → (place : ℕ) → Type 0
LacksIn blocks role stamps stamp lists numbers place = (number : ℕ) × Contains numbers number
    × LacksAmong blocks role stamps stamp (slice_index_or lists number []) place
