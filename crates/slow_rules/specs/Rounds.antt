-- What a round makes of the flags of the last one, and what the flags say after so many rounds.
use Rattle.std.specs.Prelude.{◌≡◌, ℕ, Bool, true, nat_lt, not, ◌&&◌, ◌||◌, ◌==◌, List, length, slice_index_or, Option, None, Some}
use Rattle.std.specs.List.{list_any}
use Rattle.due_model.specs.declared.config.Config.{Config}
use Rattle.due_model.specs.declared.config.Dated.{Dated}
use Rattle.due_model.specs.declared.config.DayRule.{DayRule}
use Rattle.due_model.specs.declared.config.Dependency.{Dependency}
use Rattle.due_model.specs.declared.config.Period.{Period}
use Rattle.due_model.specs.declared.config.PeriodId.{PeriodId}
use Rattle.due_model.specs.declared.state.State.{State}
use Rattle.due_model.specs.declared.state.State.TheVariants as state
use Rattle.due_model.specs.declared.zone.Zone.{Zone}
use Rattle.due_model.specs.claims.Dependencies.{entry_fails, fails_at}
use Rattle.due_model.specs.claims.Local.{Local, local}
use Rattle.due_model.specs.claims.Days.{class_of, names_day}
use Rattle.due_model.specs.claims.Periods.{holds, in_range, ranges_at}
use Rattle.slow_rules.specs.Flags.{flag_at}

-- ---- periods

-- a period's own ranges hold at a local time
abbrev pub own_ranges_hold : Local → Period → Bool
own_ranges_hold time period = list_any (in_range time.second) (ranges_at period time)

-- a rule names the local day, and none of these lines that names it is of an earlier class
abbrev pub is_first : List Dated → Local → DayRule → Bool
is_first dated time rule = names_day time rule
    && not (list_any (λ other. names_day time other.day && nat_lt (class_of other.day) (class_of rule)) dated)

-- a period's flag of a round, after these of the round before it
abbrev pub period_flag : List Bool → Local → Period → Bool
period_flag before time period =
    own_ranges_hold time period
    && not (list_any (λ excluded. flag_at before excluded.0) period.excludes)

-- the flags say which periods hold, where a chain of exclusions has at most `depth` periods
abbrev pub ArePeriodFlags : (depth : ℕ) → List Period → Local → List Bool → Type 0
ArePeriodFlags depth periods time flags =
    (p : ℕ) → flag_at flags p ≡ holds depth periods p time

-- the flags say which periods hold at a moment
abbrev pub ArePeriodsAt : Config → Zone → (t : ℕ) → List Bool → Type 0
ArePeriodsAt c zone t flags = ArePeriodFlags (length c.periods) c.periods (local zone t) flags

-- whether a period holds by these flags; no period is always
abbrev pub is_open : List Bool → Option PeriodId → Bool
is_open flags None = true
is_open flags (Some period) = flag_at flags period.0

-- ---- dependencies

-- the state of each object, by its number; pending, beyond them
abbrev pub state_of : List State → ℕ → State
state_of states o = slice_index_or states o state.Pending

-- an entry fails, where these flags say which periods hold, and those which objects fail
abbrev pub entry_flag : (daemons : Bool) → (periods : List Bool) → List State → (before : List Bool)
    → Dependency → Bool
entry_flag daemons periods states before entry =
    is_open periods entry.period
    && (fails_at daemons entry.states (state_of states entry.master.0)
    || entry.inherits && flag_at before entry.master.0)

-- an object's flag of a round, of these entries
abbrev pub object_flag : (daemons : Bool) → (periods : List Bool) → List State → (before : List Bool)
    → List Dependency → ℕ → Bool
object_flag daemons periods states before entries o =
    list_any (λ entry. entry.dependent.0 == o && entry_flag daemons periods states before entry)
    entries

-- the flags say for which objects an entry fails, where a chain has at most `depth` entries
abbrev pub AreObjectFlags : (depth : ℕ) → Config → Zone → (ℕ → State) → (t : ℕ) → List Bool → Type 0
AreObjectFlags depth c zone states t flags =
    (o : ℕ) → flag_at flags o ≡ entry_fails depth c zone states t o
