-- Which period excludes which, as a graph, and an order in which they are worked out.
use Rattle.std.specs.Prelude.{◌≡◌, ℕ, ◌+◌, ◌<◌, ◌≤◌, Bool, not, ◌&&◌, ◌==◌, List, [], ◌∷◌, ◌++◌, length, map, All, Contains, Some, slice_get, slice_index}
use Rattle.std.specs.List.{list_all, list_any}
use Rattle.graph.specs.declared.edges.Edge.{Edge}
use Rattle.due_model.specs.declared.config.Config.{Config}
use Rattle.due_model.specs.declared.config.Period.{Period}
use Rattle.due_model.specs.declared.config.PeriodId.{PeriodId}
use Rattle.due_model.specs.claims.Accepted.{Excludes}
use Rattle.due_model.specs.claims.Local.{Local}
use Rattle.due_model.specs.claims.Periods.{in_range, ranges_at}
use Rattle.time_period.specs.Days.{IsRight}
use Rattle.time_period.specs.claims.Steps.{Own}
use Rattle.time_period.specs.Steps.{is_plain, own_at, truth}

-- the edges from one period
abbrev pub edges_of : ℕ → List PeriodId → List Edge
edges_of number excludes = map (λ excluded. record { from = number; to = excluded.0 }) excludes

-- the edges of periods that are numbered from `first` on
abbrev pub exclusion_edges : (first : ℕ) → List Period → List Edge
exclusion_edges first [] = []
exclusion_edges first (period ∷ periods) =
    edges_of first period.excludes ++ exclusion_edges (first + 1) periods

-- each period of the configuration, and none before one that excludes it
pub record InOrder (c : Config) (order : List ℕ) : Type 0 where
  pub each : (p : ℕ) → p < length c.periods → Contains order p
  pub within : All (λ p. p < length c.periods) order
  pub few : length order ≤ length c.periods
  pub forward : (i j : ℕ) → i < length order → j < length order
      → Excludes c (slice_index order i) (slice_index order j) → i < j

-- what the definition says of a period, it says by those that the period excludes
abbrev pub IsSettled : Config → Type 0
IsSettled c = (p : ℕ) (period : Period) (time : Local) → slice_get c.periods p ≡ Some period
    → truth c p time ≡ (list_any (in_range time.second) (ranges_at period time)
    && not (list_any (λ excluded. truth c excluded.0 time) period.excludes))

-- the periods that a period excludes are right already
abbrev pub AreReady : Config → Period → List Own → Type 0
AreReady c period done = (excluded : PeriodId) → Contains period.excludes excluded
    → IsRight c excluded.0 (own_at done excluded.0)

-- all that come from that place of the order on are done
pub record AreDone (c : Config) (order : List ℕ) (left : ℕ) (done : List Own) : Type 0 where
  pub start : left ≤ length order
  pub as_many : length done ≡ length c.periods
  pub right : (i : ℕ) → left ≤ i → i < length order
      → IsRight c (slice_index order i) (own_at done (slice_index order i))

-- whether no dated line is reached from a period
abbrev pub is_weekly : Period → List Own → Bool
is_weekly period done = length period.dated == 0
    && list_all (λ excluded. is_plain (own_at done excluded.0)) period.excludes
