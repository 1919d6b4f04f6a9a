-- When a dependency fails, without the recursion of the definition.
use Rattle.std.specs.Prelude.{◌≡◌, ◌↔◌, ℕ, true, List, [], ◌∷◌, ◌++◌, map, All, Contains, IsTrue}
use Rattle.due_model.specs.declared.config.Config.{Config}
use Rattle.due_model.specs.declared.config.Dependency.{Dependency}
use Rattle.due_model.specs.declared.state.State.{State}
use Rattle.due_model.specs.declared.zone.Zone.{Zone}
use Rattle.due_model.specs.claims.Dependencies.{dependency_fails, fails_at}
use Rattle.due_model.specs.claims.Periods.{in_period}

-- A chain of entries leads from object o to the master of the last: the first is of o, and each other of the master of the one before
-- it. The period of each holds at t, all but the last inherit, and the hard state of the last one's master is among its states.
pub record IsFailingChain (c : Config) (zone : Zone) (states : ℕ → State) (t o : ℕ)
    (front : List Dependency) (last : Dependency) : Type 0 where
  pub entries : All (Contains c.dependencies) (front ++ last ∷ [])
  pub linked : map (λ entry. entry.dependent.0) (front ++ last ∷ [])
      ≡ o ∷ map (λ entry. entry.master.0) front
  pub in_time : All (λ entry. in_period c zone entry.period t ≡ true) (front ++ last ∷ [])
  pub inherited : All (λ entry. entry.inherits ≡ true) front
  pub listed : fails_at c.choices.dep_pending last.states (states last.master.0) ≡ true

-- A dependency of an object fails exactly where there is such a chain (chapter "Host and Service Dependencies").
abbrev pub DependenciesFailByChains : Type 0
DependenciesFailByChains = (c : Config) (zone : Zone) (states : ℕ → State) (t o : ℕ)
    → IsTrue (dependency_fails c zone states t o)
    ↔ ((front : List Dependency) × (last : Dependency)
    × IsFailingChain c zone states t o front last)
