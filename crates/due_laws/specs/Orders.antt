-- The order of the filters, worked out: each filter fails at first, and one after the other is mended.
use Rattle.std.specs.Prelude.{◌≡◌, true, false, List, [], ◌∷◌, replicate, map, codes, Option, Some, None}
use Rattle.due_model.specs.declared.config.Config.{Config}
use Rattle.due_model.specs.declared.config.Rights.{Rights}
use Rattle.due_model.specs.declared.notice.Filter.{Filter}
use Rattle.due_model.specs.declared.notice.Filter.TheVariants as filter
use Rattle.due_model.specs.declared.notice.Kind.{Kind}
use Rattle.due_model.specs.declared.notice.Kind.TheVariants as kind
use Rattle.due_model.specs.declared.options.OptionLetters.{OptionLetters}
use Rattle.due_model.specs.declared.rules.Attempt.{Attempt}
use Rattle.due_model.specs.declared.rules.View.{View}
use Rattle.due_model.specs.declared.state.State.TheVariants as state
use Rattle.due_model.specs.declared.zone.Zone.TheVariants.{Utc}
use Rattle.due_model.specs.claims.Options.{every_letter}
use Rattle.due_model.specs.claims.Rules.{contact_failing, failing}
use Rattle.due_laws.specs.Rows.{base, on_mail}

-- a configuration whose period 0 never holds
abbrev pub never_open : Config
never_open = record base
    { periods = record { name = codes "never"; days = replicate 7 []; dated = []; excludes = [] } ∷ [] }

abbrev pub no_letter : OptionLetters
no_letter = record {
  down = false;
  unreachable = false;
  warning = false;
  unknown = false;
  critical = false;
  recovery = false;
  flapping = false;
  downtime = false;
}

-- an attempt at moment 1000 on an object that is down
abbrev pub attempt : Kind → Attempt
attempt k = record { kind = k; state = state.Down; moment = 1000 }

-- each filter fails, of those that speak of a problem of which nobody was told
abbrev pub all_fail : View
all_fail = record {
  program = false;
  enabled = false;
  down = true;
  flapping = true;
  options = no_letter;
  sent = 0;
  period = Some (record { 0 = 0 });
  depends = true;
  acknowledged = true;
  began = 1000;
  delay = 1;
  last = Some (record { state = state.Down; moment = 1000; gap = 60 });
  renews = false;
  told = no_letter;
  host_problem = true;
}

abbrev pub switched_on : View
switched_on = record all_fail { program = true }

abbrev pub enabled : View
enabled = record switched_on { enabled = true }

abbrev pub up_again : View
up_again = record enabled { down = false }

abbrev pub steady : View
steady = record up_again { flapping = false }

abbrev pub with_options : View
with_options = record steady { options = every_letter }

abbrev pub in_time : View
in_time = record with_options { period = None }

abbrev pub independent : View
independent = record in_time { depends = false }

abbrev pub not_taken_on : View
not_taken_on = record independent { acknowledged = false }

abbrev pub after_delay : View
after_delay = record not_taken_on { delay = 0 }

abbrev pub never_told : View
never_told = record after_delay { last = None }

abbrev pub host_up : View
host_up = record never_told { host_problem = false }

-- all of these in a row
abbrev pub mended : List View
mended = all_fail ∷ switched_on ∷ enabled ∷ up_again ∷ steady ∷ with_options ∷ in_time
    ∷ independent ∷ not_taken_on ∷ after_delay ∷ never_told ∷ host_up ∷ []

-- the same, after one notice of the problem
abbrev pub told_once : View → View
told_once v = record v { sent = 1 }

abbrev pub mended_after_one : List View
mended_after_one = map told_once mended

-- the filter that stops an attempt of this kind, at each of these
abbrev pub stopped_by : Kind → List View → List (Option Filter)
stopped_by k views = map (λ v. failing never_open Utc v (attempt k)) views

-- no downtime holds a notification of a downtime back, nor flapping, nor a dependency
abbrev pub stops_of_downtime : List (Option Filter)
stops_of_downtime = Some filter.Program ∷ Some filter.Disabled ∷ Some filter.Options
    ∷ Some filter.Options ∷ Some filter.Options ∷ Some filter.Period ∷ None ∷ None ∷ None ∷ None ∷ None ∷ None ∷ []

abbrev pub stops_of_flapping : List (Option Filter)
stops_of_flapping = Some filter.Program ∷ Some filter.Disabled ∷ Some filter.Downtime
    ∷ Some filter.Options ∷ Some filter.Options ∷ Some filter.Period ∷ None ∷ None ∷ None ∷ None ∷ None ∷ None ∷ []

-- nothing of that holds one of an acknowledgement back, nor do the options
abbrev pub stops_of_acknowledgement : List (Option Filter)
stops_of_acknowledgement = Some filter.Program ∷ Some filter.Disabled ∷ Some filter.Period
    ∷ Some filter.Period ∷ Some filter.Period ∷ Some filter.Period ∷ None ∷ None ∷ None ∷ None ∷ None ∷ None ∷ []

-- The first filter that fails is named, of those that speak of the kind (chapter "Notifications").
pub record FiltersStandInOrder : Type 0 where
  pub problem : stopped_by kind.Problem mended ≡
      Some filter.Program ∷ Some filter.Disabled ∷ Some filter.Downtime ∷ Some filter.Flapping
      ∷ Some filter.Options ∷ Some filter.Period ∷ Some filter.Dependency
      ∷ Some filter.Acknowledged ∷ Some filter.FirstDelay ∷ Some filter.Interval ∷ Some filter.HostDown ∷ None ∷ []
  pub problem_after_one : stopped_by kind.Problem mended_after_one ≡
      Some filter.Program ∷ Some filter.Disabled ∷ Some filter.Downtime ∷ Some filter.Flapping
      ∷ Some filter.Options ∷ Some filter.Period ∷ Some filter.Dependency
      ∷ Some filter.Acknowledged ∷ Some filter.Interval ∷ Some filter.Interval ∷ Some filter.HostDown ∷ None ∷ []
  pub recovery : stopped_by kind.Recovery mended ≡
      Some filter.Program ∷ Some filter.Disabled ∷ Some filter.Downtime ∷ Some filter.Flapping
      ∷ Some filter.Options ∷ Some filter.NoProblem ∷ Some filter.NoProblem
      ∷ Some filter.NoProblem ∷ Some filter.NoProblem ∷ Some filter.NoProblem
      ∷ Some filter.NoProblem ∷ Some filter.NoProblem ∷ []
  pub recovery_after_one : stopped_by kind.Recovery mended_after_one ≡
      Some filter.Program ∷ Some filter.Disabled ∷ Some filter.Downtime ∷ Some filter.Flapping
      ∷ Some filter.Options ∷ Some filter.Period ∷ Some filter.Dependency ∷ Some filter.HostDown ∷ Some filter.HostDown
      ∷ Some filter.HostDown ∷ Some filter.HostDown ∷ None ∷ []
  pub flapping_start : stopped_by kind.FlappingStart mended ≡ stops_of_flapping
  pub flapping_stop : stopped_by kind.FlappingStop mended ≡ stops_of_flapping
  pub downtime_start : stopped_by kind.DowntimeStart mended ≡ stops_of_downtime
  pub downtime_end : stopped_by kind.DowntimeEnd mended ≡ stops_of_downtime
  pub downtime_cancelled : stopped_by kind.DowntimeCancelled mended ≡ stops_of_downtime
  pub acknowledgement : stopped_by kind.Acknowledgement mended ≡ stops_of_acknowledgement

-- the rights of a contact, mended likewise
abbrev pub refuses_all : Rights
refuses_all = record on_mail
    { enabled = false; options = no_letter; period = Some (record { 0 = 0 }) }

abbrev pub mended_rights : List Rights
mended_rights = refuses_all ∷ record refuses_all { enabled = true }
    ∷ record refuses_all { enabled = true; options = every_letter } ∷ on_mail ∷ []

-- The first filter of a contact that fails is named, whatever the kind (chapter "Notifications").
abbrev pub ContactFiltersStandInOrder : Type 0
ContactFiltersStandInOrder = (k : Kind)
    → map (λ rights. contact_failing never_open Utc rights (attempt k) None) mended_rights
    ≡ Some filter.ContactDisabled ∷ Some filter.ContactOptions ∷ Some filter.ContactPeriod ∷ None ∷ []
