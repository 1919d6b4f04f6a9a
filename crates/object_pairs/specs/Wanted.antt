-- How it is found which pairs are services: first all pairs that members name, and then those of them that service
-- blocks give.
use Rattle.std.specs.Prelude.{◌≡◌, ℕ, ◌<◌, Bool, true, false, not, ◌&&◌, ◌||◌, ◌==◌, ◌↔◌, List, All, length, Some, slice_index_or}
use Rattle.std.specs.List.{list_all, list_any}
use Rattle.std.specs.Option.{option_map_or}
use Rattle.std.specs.Str.{bytes_eq}
use Rattle.object_groups.specs.claims.Names.{number_of}
use Rattle.object_groups.specs.claims.Objects.{is_object_at, list_at, names_in}
use Rattle.object_inheritance.specs.Columns.{Column}
use Rattle.object_reader.specs.declared.block.Block.{Block}
use Rattle.object_reader.specs.declared.block.BlockKind.TheVariants.{Service, ServiceGroup}
use Rattle.object_services.specs.claims.Doubled.{description_of, place_of}
use Rattle.object_services.specs.claims.Hosts.{HasHost}
use Rattle.object_services.specs.claims.Numbers.{Pair}
use Rattle.object_services.specs.Numbers.{Key}
use Rattle.object_pairs.specs.claims.Pairs.{by_two, NamedPair}

-- whether a set has a host with a description
abbrev pub has : List Key → Pair → Bool
has keys pair = list_any (λ key. pair.0 == key.0 && bytes_eq pair.1 key.1.now) keys

-- all that were there still are
abbrev pub Keeps : (old new : List Key) → Type 0
Keeps old new = (pair : Pair) → has old pair ≡ true → has new pair ≡ true

-- ---- what is wanted

-- the pair is there, if its first is the name of a host
abbrev pub IsWanted : (hosts : List (List ℕ)) → List Key → NamedPair → Type 0
IsWanted hosts keys pair =
    (host : ℕ) → number_of hosts pair.0 ≡ Some host → has keys (host, pair.1) ≡ true

-- the pairs of a list are
abbrev pub AreWanted : (hosts : List (List ℕ)) → List Key → (entries : List (List ℕ)) → Type 0
AreWanted hosts keys entries = (pairs : List NamedPair)
    → by_two entries ≡ Some pairs → All (IsWanted hosts keys) pairs

-- those of the list that the block at the place has are
abbrev pub AreWantedAt : (hosts : List (List ℕ)) → List Key → Column → (place : ℕ) → Type 0
AreWantedAt hosts keys values place =
    AreWanted hosts keys (list_at values.blocks values.directive place)

-- those of the lists that the blocks at these places have are
abbrev pub AreAllWanted : (hosts : List (List ℕ)) → List Key → Column → (places : List ℕ) → Type 0
AreAllWanted hosts keys values places = All (AreWantedAt hosts keys values) places

-- ---- what is found

-- what came to a set: those of the hosts, with the description, that are wanted
abbrev pub adds : (wanted : List Key) → (description : List ℕ) → (hosts : List ℕ) → Pair → Bool
adds wanted description hosts pair = has wanted pair
    && (bytes_eq pair.1 description && list_any (λ host. pair.0 == host) hosts)

abbrev pub AddsFound : (wanted : List Key) → (description : List ℕ) → (hosts : List ℕ)
    → (old new : List Key) → Type 0
AddsFound wanted description hosts old new = (pair : Pair)
    → has new pair ≡ (has old pair || adds wanted description hosts pair)

-- one of the first so many service blocks has that description and that host
abbrev pub HasServiceBelow : List Block → (bound host : ℕ) → (description : List ℕ) → Type 0
HasServiceBelow blocks bound host description = (number : ℕ) × (number < bound)
    × (description_of blocks number ≡ description) × HasHost blocks (place_of blocks number) host

-- exactly those of them among the wanted
abbrev pub AreFoundBelow : List Block → (bound : ℕ) → (wanted found : List Key) → Type 0
AreFoundBelow blocks bound wanted found = (pair : Pair)
    → (has found pair ≡ true)
    ↔ ((has wanted pair ≡ true) × HasServiceBelow blocks bound pair.0 pair.1)

-- exactly the services among the wanted
abbrev pub AreFound : List Block → (wanted found : List Key) → Type 0
AreFound blocks wanted found = AreFoundBelow blocks (length (names_in blocks Service)) wanted found

-- ---- what isn't

-- whether a pair is found
abbrev pub is_found : (hosts : List (List ℕ)) → (found : List Key) → NamedPair → Bool
is_found hosts found pair =
    option_map_or (λ host. has found (host, pair.1)) (number_of hosts pair.0) false

-- whether the entries aren't pairs, or a pair isn't found
abbrev pub lacks_pair : (hosts : List (List ℕ)) → (found : List Key) → (entries : List (List ℕ))
    → Bool
lacks_pair hosts found entries =
    option_map_or (λ pairs. not (list_all (is_found hosts found) pairs)) (by_two entries) true

-- whether that is so of the list that the block at the place has
abbrev pub lacks_at : (hosts : List (List ℕ)) → (found : List Key) → Column → (place : ℕ) → Bool
lacks_at hosts found values place =
    lacks_pair hosts found (list_at values.blocks values.directive place)

-- the block at the place is a service group, and that is so of what it has for the directive of the values
abbrev pub LacksPair : List Block → (hosts : List (List ℕ)) → (found : List Key) → Column → ℕ
    → Type 0
LacksPair blocks hosts found values place = (is_object_at blocks ServiceGroup place ≡ true)
    × (lacks_at hosts found values place ≡ true)

-- ---- what was read of blocks before

-- Of each block that is marked, by its place, `P` says that it is so.
pub record AreMarked (P : (place : ℕ) → Type 0) (marks : List Bool) : Type 0 where
  pub each : (place : ℕ) → slice_index_or marks place false ≡ true → P place
