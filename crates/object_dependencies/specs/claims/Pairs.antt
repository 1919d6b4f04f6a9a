-- The pairs of dependents and masters that dependency blocks give (chapter "Host and Service Dependencies").
use Rattle.std.specs.Prelude.{◌≡◌, ℕ, ◌<◌, true, List, codes, is_some, AllPairs, Contains, Option, None, if◌then◌else◌, ◌⊎◌, ◌↔◌}
use Rattle.std.specs.List.{AllZip, range_with_len}
use Rattle.due_model.specs.declared.state.StateSet.{StateSet}
use Rattle.object_groups.specs.claims.Objects.{is_object_at}
use Rattle.object_reached.specs.declared.roles.Role.TheVariants.{Dependent, Master}
use Rattle.object_reached.specs.claims.Reached.{SpeaksOf}
use Rattle.object_reader.specs.declared.block.Block.{Block}
use Rattle.object_reader.specs.declared.block.BlockKind.TheVariants.{HostDependency, ServiceDependency}
use Rattle.object_listing.specs.claims.Readings.{own_states}
use Rattle.object_values.specs.declared.options.CriteriaKind.TheVariants.{OfHosts, OfServices}

-- The states of the failure criteria of the block at the place; none where it is no registered dependency, or has no
-- criteria. Criteria with `n`, or without entries, are given and name no state.
abbrev pub kept_states : List Block → (place : ℕ) → Option StateSet
kept_states blocks place = if is_object_at blocks HostDependency place
    then own_states blocks (codes "notification_failure_criteria") OfHosts place
    else if is_object_at blocks ServiceDependency place
    then own_states blocks (codes "notification_failure_criteria") OfServices place
    else None

-- The block at the place is a notification dependency: it is registered, and has criteria.
abbrev pub IsKept : List Block → (place : ℕ) → Type 0
IsKept blocks place = is_some (kept_states blocks place) ≡ true

-- By the notification dependency at the place the one object depends on the other: it speaks of the first as a
-- dependent, and of the second as a master; where these are the hosts of each service block.
abbrev pub DependsAt : List Block → (lists : List (List ℕ)) → (place dependent master : ℕ) → Type 0
DependsAt blocks lists place dependent master = IsKept blocks place
    × SpeaksOf blocks lists Dependent place dependent × SpeaksOf blocks lists Master place master

-- a dependent and a master
abbrev pub Pair : Type 0
Pair = ℕ × ℕ

-- the dependent has the lower number, or it is the same and the master has
abbrev pub IsBefore : Pair → Pair → Type 0
IsBefore one other = (one.0 < other.0) ⊎ ((one.0 ≡ other.0) × (one.1 < other.1))

-- Exactly the pairs of the block at the place, each once: dependents in number order, and for each the masters in number
-- order. Other blocks than notification dependencies have none.
pub record ArePairs (blocks : List Block) (lists : List (List ℕ)) (place : ℕ) (pairs : List Pair)
    : Type 0 where
  pub ordered : AllPairs IsBefore pairs
  pub exactly : (dependent master : ℕ)
      → Contains pairs (dependent, master) ↔ DependsAt blocks lists place dependent master

-- these are the pairs of the blocks below the place, block by block
abbrev pub ArePairsBelow : List Block → (lists : List (List ℕ)) → (place : ℕ)
    → (parts : List (List Pair)) → Type 0
ArePairsBelow blocks lists place parts =
    AllZip (ArePairs blocks lists) (range_with_len 0 place) parts
