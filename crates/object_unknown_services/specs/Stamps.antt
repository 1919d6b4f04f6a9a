-- Stamps of hosts, by their numbers.
use Rattle.std.specs.Prelude.{◌≡◌, ℕ, ◌<◌, ◌==◌, ◌⊎◌, Bool, List, length, Contains, slice_index_or}
use Rattle.object_reader.specs.declared.block.Block.{Block}
use Rattle.object_services.specs.claims.Hosts.{HasHost}

-- whether a host has the stamp; 0 is none
abbrev pub is_stamped : (stamps : List ℕ) → (stamp host : ℕ) → Bool
is_stamped stamps stamp host = slice_index_or stamps host 0 == stamp

-- one of the blocks at the places has the host
abbrev pub IsHostOf : List Block → (places : List ℕ) → (host : ℕ) → Type 0
IsHostOf blocks places host = (place : ℕ) × Contains places place × HasHost blocks place host

-- the hosts of which `P` says so, as far as there are stamps, got the stamp, and no others
pub record Stamped (P : (host : ℕ) → Type 0) (stamp : ℕ) (old new : List ℕ) : Type 0 where
  pub long : length new ≡ length old
  pub got : (host : ℕ) → host < length new → P host → slice_index_or new host 0 ≡ stamp
  pub rest : (host : ℕ) → (slice_index_or new host 0 ≡ slice_index_or old host 0)
      ⊎ ((slice_index_or new host 0 ≡ stamp) × P host)

-- there are so many stamps, and all are below a bound
pub record AreBelow (count bound : ℕ) (stamps : List ℕ) : Type 0 where
  pub long : length stamps ≡ count
  pub below : (host : ℕ) → slice_index_or stamps host 0 < bound
