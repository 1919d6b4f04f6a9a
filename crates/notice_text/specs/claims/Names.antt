-- The names of states, kinds and filters.
use Rattle.std.specs.Prelude.{ℕ, List, codes}
use Rattle.due_model.specs.declared.notice.Filter.{Filter}
use Rattle.due_model.specs.declared.notice.Filter.TheVariants as filter
use Rattle.due_model.specs.declared.notice.Kind.{Kind}
use Rattle.due_model.specs.declared.notice.Kind.TheVariants as kind
use Rattle.due_model.specs.declared.state.State.{State}
use Rattle.due_model.specs.declared.state.State.TheVariants as state

abbrev pub state_name : State → List ℕ
state_name state.Pending = codes "PENDING"
state_name state.Up = codes "UP"
state_name state.Down = codes "DOWN"
state_name state.Unreachable = codes "UNREACHABLE"
state_name state.Fine = codes "OK"
state_name state.Warning = codes "WARNING"
state_name state.Unknown = codes "UNKNOWN"
state_name state.Critical = codes "CRITICAL"

abbrev pub kind_name : Kind → List ℕ
kind_name kind.Problem = codes "PROBLEM"
kind_name kind.Recovery = codes "RECOVERY"
kind_name kind.FlappingStart = codes "FLAPPINGSTART"
kind_name kind.FlappingStop = codes "FLAPPINGSTOP"
kind_name kind.DowntimeStart = codes "DOWNTIMESTART"
kind_name kind.DowntimeEnd = codes "DOWNTIMEEND"
kind_name kind.DowntimeCancelled = codes "DOWNTIMECANCELLED"
kind_name kind.Acknowledgement = codes "ACKNOWLEDGEMENT"

abbrev pub filter_name : Filter → List ℕ
filter_name filter.Program = codes "Program"
filter_name filter.Disabled = codes "Disabled"
filter_name filter.Downtime = codes "Downtime"
filter_name filter.Flapping = codes "Flapping"
filter_name filter.Options = codes "Options"
filter_name filter.NoProblem = codes "NoProblem"
filter_name filter.Period = codes "Period"
filter_name filter.Dependency = codes "Dependency"
filter_name filter.Acknowledged = codes "Acknowledged"
filter_name filter.FirstDelay = codes "FirstDelay"
filter_name filter.Interval = codes "Interval"
filter_name filter.HostDown = codes "HostDown"
filter_name filter.ContactDisabled = codes "ContactDisabled"
filter_name filter.ContactOptions = codes "ContactOptions"
filter_name filter.ContactPeriod = codes "ContactPeriod"
filter_name filter.ContactNotTold = codes "ContactNotTold"
