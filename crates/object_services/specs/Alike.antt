-- How doubled services are found: by the blocks of one description after another.
use Rattle.std.specs.Prelude.{◌≡◌, ℕ, ◌<◌, ◌==◌, ◌↔◌, Bool, true, false, List, [], length, filter, Contains, Some, nat_eq, slice_index_or}
use Rattle.std.specs.List.{list_any, range_with_len}
use Rattle.std.specs.Option.{option_map_or}
use Rattle.object_groups.specs.claims.Names.{number_of}
use Rattle.object_groups.specs.claims.Objects.{names_in}
use Rattle.object_reader.specs.declared.block.Block.{Block}
use Rattle.object_reader.specs.declared.block.BlockKind.TheVariants.{Service}
use Rattle.object_services.specs.claims.Doubled.{description_of, IsDoubled, place_of, ShareHost}
use Rattle.object_services.specs.claims.Hosts.{HasHost}

-- whether the name of that number is the one that has its first place at `first`
abbrev pub is_alike : (names : List (List ℕ)) → (first number : ℕ) → Bool
is_alike names first number =
    option_map_or (λ found. found == first) (number_of names (slice_index_or names number [])) false

-- the numbers of the names that are the one at `first`, in order
abbrev pub alike : (names : List (List ℕ)) → (first : ℕ) → List ℕ
alike names first = filter (is_alike names first) (range_with_len 0 (length names))

-- each number has those of its name, where it is the first of it
pub record AreAlike (names : List (List ℕ)) (graph : List (List ℕ)) : Type 0 where
  pub long : length graph ≡ length names
  pub each : (first : ℕ) → first < length names → slice_index_or graph first [] ≡ alike names first

-- of the blocks of these numbers the block shares a host with one before it
abbrev pub SharesAmong : List Block → (numbers : List ℕ) → ℕ → Type 0
SharesAmong blocks numbers number = Contains numbers number
    × ((earlier : ℕ) × (earlier < number) × Contains numbers earlier
    × ShareHost blocks earlier number)

-- whether the host is one of these
abbrev pub is_among : (hosts : List ℕ) → (host : ℕ) → Bool
is_among hosts host = list_any (nat_eq host) hosts

-- exactly the hosts of the blocks of these numbers
abbrev pub HasSeen : List Block → (numbers : List ℕ) → (seen : ℕ → Bool) → Type 0
HasSeen blocks numbers seen = (host : ℕ) → (seen host ≡ true)
    ↔ ((number : ℕ) × Contains numbers number × HasHost blocks (place_of blocks number) host)

-- a block is doubled, and its description has its first place below the bound
abbrev pub IsDoubledBelow : List Block → (bound : ℕ) → ℕ → Type 0
IsDoubledBelow blocks bound number = IsDoubled blocks number × ((first : ℕ) × (first < bound)
    × (number_of (names_in blocks Service) (description_of blocks number) ≡ Some first))
