-- Services that blocks list by their hosts and descriptions and by service groups (chapter "Object Definitions").
use Rattle.std.specs.Prelude.{◌≡◌, ℕ, Bool, true, ◌||◌, List, is_some, Contains, ◌⊎◌}
use Rattle.object_groups.specs.declared.groups.GroupKind.TheVariants.{HostGroups}
use Rattle.object_groups.specs.claims.Names.{is_all, number_of, numbers_of}
use Rattle.object_groups.specs.claims.Objects.{list_at, names_in}
use Rattle.object_listing.specs.claims.Listing.{Directives, IsListed}
use Rattle.object_reader.specs.declared.block.Block.{Block}
use Rattle.object_reader.specs.declared.block.BlockKind.TheVariants.{Service, ServiceGroup}
use Rattle.object_service_groups.specs.claims.Groups.{grouping}
use Rattle.object_service_groups.specs.claims.Members.{IsMember}
use Rattle.object_services.specs.claims.Numbers.{Pair, pairs_of}
use Rattle.object_reached.specs.claims.Services.{IsServiceOf}

-- Four directives: by the first two a block lists hosts and host groups, by the third the descriptions of services
-- on these hosts, and by the fourth service groups.
pub record ServiceDirectives : Type 0 where
  pub hosts : List ℕ
  pub host_groups : List ℕ
  pub descriptions : List ℕ
  pub groups : List ℕ

-- the first two
abbrev pub of_hosts : ServiceDirectives → Directives
of_hosts directives = record {
  kind = HostGroups;
  objects = directives.hosts;
  groups = directives.host_groups;
}

-- whether a list of descriptions names a description: it is among them, or the list is * alone
abbrev pub is_named : (entries : List (List ℕ)) → (description : List ℕ) → Bool
is_named entries description = is_all entries || is_some (number_of entries description)

-- The block at the place lists the service: its host, by the lists of hosts and host groups, and its description, by
-- the list of descriptions; where these are the services.
abbrev pub IsDescribed : List Block → (services : List Pair) → ServiceDirectives
    → (place service : ℕ) → Type 0
IsDescribed blocks services directives place service = (host : ℕ) × (description : List ℕ)
    × IsServiceOf services service host description
    × IsListed blocks (of_hosts directives) place host
    × (is_named (list_at blocks directives.descriptions place) description ≡ true)

-- The block at the place lists a group of which the service is a member, in a list in which * is a name; where these
-- are the hosts of each service block.
abbrev pub IsGrouped : List Block → (lists : List (List ℕ)) → ServiceDirectives
    → (place service : ℕ) → Type 0
IsGrouped blocks lists directives place service = (group : ℕ)
    × Contains
    (numbers_of (names_in blocks ServiceGroup) (list_at blocks directives.groups place)) group
    × IsMember (grouping blocks lists) group service

-- The block at the place lists the service, by either.
abbrev pub IsServiceListed : List Block → (lists : List (List ℕ)) → ServiceDirectives
    → (place service : ℕ) → Type 0
IsServiceListed blocks lists directives place service =
    IsDescribed blocks (pairs_of (names_in blocks Service) lists) directives place service
    ⊎ IsGrouped blocks lists directives place service
