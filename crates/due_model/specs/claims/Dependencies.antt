-- Notification dependencies: whether one fails.
use Rattle.std.specs.Prelude.{ℕ, zero, suc, Bool, false, ◌&&◌, ◌||◌, length, ◌==◌, if◌then◌else◌}
use Rattle.std.specs.List.{list_any}
use Rattle.due_model.specs.declared.config.Config.{Config}
use Rattle.due_model.specs.declared.state.State.{State}
use Rattle.due_model.specs.declared.state.State.TheVariants as state
use Rattle.due_model.specs.declared.state.StateSet.{StateSet}
use Rattle.due_model.specs.declared.zone.Zone.{Zone}
use Rattle.due_model.specs.claims.Periods.{in_period}

-- whether a state is in a set
abbrev pub has_state : StateSet → State → Bool
has_state set state.Pending = set.pending
has_state set state.Up = set.up
has_state set state.Down = set.down
has_state set state.Unreachable = set.unreachable
has_state set state.Fine = set.fine
has_state set state.Warning = set.warning
has_state set state.Unknown = set.unknown
has_state set state.Critical = set.critical

-- the states by which an entry with these fails; by the daemon's rule a pending master counts as one that is UP or OK
abbrev pub counted : (daemons : Bool) → StateSet → StateSet
counted daemons set = if daemons then record set { pending = set.up || set.fine } else set

-- whether an entry with these states fails by its master's hard state
abbrev pub fails_at : (daemons : Bool) → StateSet → State → Bool
fails_at daemons set s = has_state (counted daemons set) s

-- An entry of object o fails at t where its period holds and the hard state of its master is among its states,
-- or where it inherits and an entry of its master fails (chapter "Host and Service Dependencies"). A chain has
-- at most `depth` entries.
abbrev pub entry_fails : (depth : ℕ) → Config → Zone → (ℕ → State) → (t o : ℕ) → Bool
entry_fails zero c zone states t o = false
entry_fails (suc depth) c zone states t o = list_any (λ entry.
    entry.dependent.0 == o && in_period c zone entry.period t
    && (fails_at c.choices.dep_pending entry.states (states entry.master.0)
    || entry.inherits && entry_fails depth c zone states t entry.master.0)) c.dependencies

-- DepFails: whether a dependency of object o fails at t, where the hard state of each object is that
abbrev pub dependency_fails : Config → Zone → (ℕ → State) → (t o : ℕ) → Bool
dependency_fails c zone states t o = entry_fails (length c.dependencies) c zone states t o
