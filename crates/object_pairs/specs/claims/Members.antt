-- The members of service groups (chapter "Object Definitions").
use Rattle.std.specs.Prelude.{◌≡◌, ℕ, ◌<◌, true, List, [], length, codes, All, filter_map, unwrap_or, Option, Some}
use Rattle.std.specs.Option.{option_and_then, option_map}
use Rattle.object_groups.specs.claims.Names.{number_of}
use Rattle.object_groups.specs.claims.Objects.{is_object_at, list_at, names_in}
use Rattle.object_reader.specs.declared.block.Block.{Block}
use Rattle.object_reader.specs.declared.block.BlockKind.TheVariants.{Host, Service, ServiceGroup}
use Rattle.object_services.specs.claims.Doubled.{description_of, place_of}
use Rattle.object_services.specs.claims.Hosts.{HasHost}
use Rattle.object_services.specs.claims.Numbers.{Pair, service_number}
use Rattle.object_pairs.specs.claims.Pairs.{by_two, NamedPair}

-- The host has a service of that description: a service block with the description has the host.
abbrev pub HasService : List Block → (host : ℕ) → (description : List ℕ) → Type 0
HasService blocks host description = (number : ℕ) × (number < length (names_in blocks Service))
    × (description_of blocks number ≡ description) × HasHost blocks (place_of blocks number) host

-- A pair names a service: its first is the name of a host, which has a service of the second.
abbrev pub IsServicePair : List Block → NamedPair → Type 0
IsServicePair blocks pair = (host : ℕ)
    × (number_of (names_in blocks Host) pair.0 ≡ Some host) × HasService blocks host pair.1

-- A list of members is hosts and services by turns.
abbrev pub AreServicePairs : List Block → (members : List (List ℕ)) → Type 0
AreServicePairs blocks members = (pairs : List NamedPair)
    × (by_two members ≡ Some pairs) × All (IsServicePair blocks) pairs

-- The block at the place is a service group, and its members aren't.
abbrev pub HasUnknownMember : List Block → ℕ → Type 0
HasUnknownMember blocks place = (is_object_at blocks ServiceGroup place ≡ true)
    × (AreServicePairs blocks (list_at blocks (codes "members") place) → ⊥)

-- ---- the services that members name, where these are the services

-- the place of the service that a pair names
abbrev pub place_of_pair : (hosts : List (List ℕ)) → (services : List Pair) → NamedPair → Option ℕ
place_of_pair hosts services pair =
    option_and_then (λ host. service_number services host pair.1) (number_of hosts pair.0)

-- the places of those that the members name
abbrev pub places_of : (hosts : List (List ℕ)) → (services : List Pair) → (members : List (List ℕ))
    → List ℕ
places_of hosts services members = unwrap_or
    (option_map (filter_map (place_of_pair hosts services)) (by_two members)) []
