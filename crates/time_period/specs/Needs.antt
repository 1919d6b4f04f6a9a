-- The numbers of the periods that a period needs, by the steps of all periods.
use Rattle.std.specs.Prelude.{◌≡◌, ℕ, ◌+◌, ◌<◌, ◌⊎◌, Bool, true, List, [], ◌∷◌, drop, length, map, Contains, slice_index}
use Rattle.due_model.specs.declared.config.PeriodId.{PeriodId}
use Rattle.time_period.specs.claims.Steps.{Own}
use Rattle.time_period.specs.Steps.{own_at}

-- the steps of these numbers
abbrev pub picked : List Own → List ℕ → List Own
picked table needs = map (own_at table) needs

-- in the order each period comes before those that it excludes
abbrev pub AreForward : List Own → (order : List ℕ) → Type 0
AreForward table order = (i : ℕ) (excluded : PeriodId) → i < length order
    → Contains (own_at table (slice_index order i)).excludes excluded
    → Contains (drop (i + 1) order) excluded.0

-- each period that one of these excludes is among those before it, or known
abbrev pub AreClosedBy : List Own → (known : ℕ → Type 0) → List ℕ → Type 0
AreClosedBy table known [] = Unit {0}
AreClosedBy table known (n ∷ needs) =
    ((excluded : PeriodId) → Contains (own_at table n).excludes excluded → known excluded.0)
    × AreClosedBy table (λ m. (n ≡ m) ⊎ known m) needs

-- each after those that it excludes
abbrev pub AreClosedNeeds : List Own → List ℕ → Type 0
AreClosedNeeds table needs = AreClosedBy table (λ n. ⊥) needs

-- a number whose flag is set is still to come
abbrev pub IsAwaited : (flags : ℕ → Bool) → (order : List ℕ) → ℕ → Type 0
IsAwaited flags order n = Contains order n × (flags n ≡ true)
