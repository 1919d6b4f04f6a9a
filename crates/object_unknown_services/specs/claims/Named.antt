-- Services that escalations and dependencies name by hosts and descriptions (chapters "Notification Escalations" and
-- "Host and Service Dependencies").
use Rattle.std.specs.Prelude.{◌≡◌, ℕ, true, List, [], Contains, if◌then◌else◌}
use Rattle.object_groups.specs.claims.Names.{is_all}
use Rattle.object_groups.specs.claims.Objects.{is_object_at, list_at}
use Rattle.object_listing.specs.claims.Listing.{IsListed}
use Rattle.object_reached.specs.declared.roles.Role.{Role}
use Rattle.object_reached.specs.claims.Listed.{of_hosts}
use Rattle.object_reached.specs.claims.Roles.{directives_of, service_kind}
use Rattle.object_reader.specs.declared.block.Block.{Block}

-- The descriptions that a list names: its entries; none where it is * alone, which is all services of the hosts.
abbrev pub descriptions_in : (entries : List (List ℕ)) → List (List ℕ)
descriptions_in entries = if is_all entries then [] else entries

-- The block at the place is registered, of the type that speaks of services in that role, and names a host with a
-- description: it lists the host, by itself or by a host group, and the description, by the directives of the role.
abbrev pub NamesService : List Block → Role → (place host : ℕ) → (description : List ℕ) → Type 0
NamesService blocks role place host description =
    (is_object_at blocks (service_kind role) place ≡ true)
    × IsListed blocks (of_hosts (directives_of role)) place host
    × Contains
    (descriptions_in (list_at blocks (directives_of role).descriptions place)) description
