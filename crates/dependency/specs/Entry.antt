-- The entries of an object, one by one.
use Rattle.std.specs.Prelude.{ℕ, Bool, ◌&&◌, List, map, filter, slice_index_or}
use Rattle.due_model.specs.declared.config.Config.{Config}
use Rattle.due_model.specs.declared.config.Dependency.{Dependency}
use Rattle.due_model.specs.declared.state.State.{State}
use Rattle.due_model.specs.declared.state.State.TheVariants as state
use Rattle.due_model.specs.declared.zone.Zone.{Zone}
use Rattle.due_model.specs.claims.Dependencies.{fails_at}
use Rattle.due_model.specs.claims.Periods.{in_period}

-- the state of each object, by its number
abbrev pub state_of : List State → ℕ → State
state_of states p = slice_index_or states p state.Pending

-- an entry fails by its own master's state
abbrev pub fails_by : Config → Zone → (ℕ → State) → (t : ℕ) → Dependency → Bool
fails_by c zone states t entry =
    in_period c zone entry.period t && fails_at c.choices.dep_pending entry.states (states entry.master.0)

-- the masters to which these entries lead on
abbrev pub masters_of : Config → Zone → (t : ℕ) → List Dependency → List ℕ
masters_of c zone t entries =
    map (λ entry. entry.master.0)
    (filter (λ entry. in_period c zone entry.period t && entry.inherits) entries)
