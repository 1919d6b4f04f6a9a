-- What an event finds of an object, told by what is kept.
use Rattle.std.specs.Prelude.{ℕ, Bool, false, ◌==◌, ◌&&◌, ◌||◌, List, Option, None, Some}
use Rattle.due_model.specs.declared.config.Config.{Config}
use Rattle.due_model.specs.declared.config.ObjectId.{ObjectId}
use Rattle.due_model.specs.declared.state.State.{State}
use Rattle.due_model.specs.declared.zone.Zone.{Zone}
use Rattle.due_model.specs.claims.Dependencies.{dependency_fails}
use Rattle.due_model.specs.claims.Readings.{hard, is_problem_state}
use Rattle.due_model.specs.declared.event.Event.{Event}

-- whether a notification dependency of the host of a service fails, where that counts
abbrev pub host_depends : Config → Zone → (states : ℕ → State) → (t : ℕ) → Option ObjectId → Bool
host_depends c zone states t host =
    c.choices.host_dep && elim host as (λ _. Bool) [
      | None ↦ false
      | Some h ↦ dependency_fails c zone states t h.0
    ]

-- whether one of the object fails, or of its host where that counts
abbrev pub depends_by : Config → Zone → (states : ℕ → State) → (t o : ℕ) → (host : Option ObjectId)
    → Bool
depends_by c zone states t o host =
    dependency_fails c zone states t o || host_depends c zone states t host

-- whether the host of a service isn't UP
abbrev pub is_host_problem : Option ObjectId → List Event → Bool
is_host_problem host past =
    elim host as (λ _. Bool) [ None ↦ false | Some h ↦ is_problem_state (hard h.0 past) ]

-- whether this is object o
abbrev pub names : Option ObjectId → (o : ℕ) → Bool
names found o = elim found as (λ _. Bool) [ None ↦ false | Some host ↦ host.0 == o ]
