-- How a walk through the entries that an object's chains reach goes.
use Rattle.std.specs.Prelude.{◌≡◌, ℕ, ◌<◌, true, false, List, slice_index, Contains}
use Rattle.std.specs.List.{list_any}
use Rattle.due_model.specs.declared.config.Config.{Config}
use Rattle.due_model.specs.declared.state.State.{State}
use Rattle.due_model.specs.declared.zone.Zone.{Zone}
use Rattle.due_model.specs.ByObject.{entries_of}
use Rattle.due_model.specs.claims.Dependencies.{entry_fails}
use Rattle.dependency.specs.Entry.{fails_by, masters_of}

-- a dependency of object o fails, along a chain of any length
abbrev pub Fails : Config → Zone → (ℕ → State) → (t o : ℕ) → Type 0
Fails c zone states t o = (depth : ℕ) × (entry_fails depth c zone states t o ≡ true)

-- The walk began at an object, which fails if an object that was found does. The first `turn` that were found had their turn:
-- none of their entries fails by its own master's state, and all that they lead on to was found.
pub record IsWalk (c : Config) (zone : Zone) (states : ℕ → State) (t : ℕ)
    (from turn : ℕ) (found : List ℕ) : Type 0 where
  pub start : Contains found from
  pub reached : (q : ℕ) → Contains found q → Fails c zone states t q → Fails c zone states t from
  pub passed : (k : ℕ) → k < turn
      → list_any (fails_by c zone states t) (entries_of c.dependencies (slice_index found k))
      ≡ false
  pub seen : (k q : ℕ) → k < turn
      → Contains (masters_of c zone t (entries_of c.dependencies (slice_index found k))) q
      → Contains found q
