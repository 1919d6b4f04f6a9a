-- The objects of which blocks speak (chapters "Notification Escalations" and "Host and Service Dependencies").
use Rattle.std.specs.Prelude.{◌≡◌, ℕ, ◌+◌, true, List, length, ◌⊎◌}
use Rattle.object_groups.specs.claims.Objects.{is_object_at, names_in}
use Rattle.object_listing.specs.claims.Listing.{IsListed}
use Rattle.object_reader.specs.declared.block.Block.{Block}
use Rattle.object_reader.specs.declared.block.BlockKind.TheVariants.{Host}
use Rattle.object_reached.specs.declared.roles.Role.{Role}
use Rattle.object_reached.specs.claims.Listed.{IsServiceListed, of_hosts}
use Rattle.object_reached.specs.claims.Roles.{directives_of, host_kind, service_kind}

-- The block at the place is of the type that speaks of hosts in that role, registered, and lists the host of that number.
abbrev pub OfHost : List Block → Role → (place object : ℕ) → Type 0
OfHost blocks role place object = (is_object_at blocks (host_kind role) place ≡ true)
    × IsListed blocks (of_hosts (directives_of role)) place object

-- The block at the place is of the type that speaks of services in that role, registered, and lists the service of that
-- number: services are numbered after the hosts, in their order; where these are the hosts of each service block.
abbrev pub OfService : List Block → (lists : List (List ℕ)) → Role → (place object : ℕ) → Type 0
OfService blocks lists role place object = (is_object_at blocks (service_kind role) place ≡ true)
    × ((service : ℕ) × (object ≡ length (names_in blocks Host) + service)
    × IsServiceListed blocks lists (directives_of role) place service)

-- The block at the place speaks of the object in that role.
abbrev pub SpeaksOf : List Block → (lists : List (List ℕ)) → Role → (place object : ℕ) → Type 0
SpeaksOf blocks lists role place object =
    OfHost blocks role place object ⊎ OfService blocks lists role place object
