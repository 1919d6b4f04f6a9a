-- Worked rows of each choice: a configuration with the host web, its contact ann and the command mail, in UTC.
use Rattle.std.specs.Prelude.{◌≡◌, ℕ, true, false, List, [], ◌∷◌, reverse, replicate, map, codes, Some, None}
use Rattle.due_model.specs.declared.config.Config.{Config}
use Rattle.due_model.specs.declared.config.Contact.{Contact}
use Rattle.due_model.specs.declared.config.Escalation.{Escalation}
use Rattle.due_model.specs.declared.config.Object.{Object}
use Rattle.due_model.specs.declared.config.Period.{Period}
use Rattle.due_model.specs.declared.config.Range.{Range}
use Rattle.due_model.specs.declared.config.Rights.{Rights}
use Rattle.due_model.specs.declared.event.Event.{Event}
use Rattle.due_model.specs.declared.event.EventKind.{EventKind}
use Rattle.due_model.specs.declared.event.EventKind.TheVariants as event
use Rattle.due_model.specs.declared.event.DowntimeChange.TheVariants as change
use Rattle.due_model.specs.declared.notice.Filter.{Filter}
use Rattle.due_model.specs.declared.notice.Filter.TheVariants as filter
use Rattle.due_model.specs.declared.notice.Kind.{Kind}
use Rattle.due_model.specs.declared.notice.Kind.TheVariants as kind
use Rattle.due_model.specs.declared.notice.Notice.{Notice}
use Rattle.due_model.specs.declared.notice.Suppression.{Suppression}
use Rattle.due_model.specs.declared.options.OptionLetters.{OptionLetters}
use Rattle.due_model.specs.declared.state.State.{State}
use Rattle.due_model.specs.declared.state.State.TheVariants as state
use Rattle.due_model.specs.declared.state.StateSet.{StateSet}
use Rattle.due_model.specs.declared.zone.Zone.TheVariants.{Utc}
use Rattle.due_model.specs.claims.Due.{due, sup}
use Rattle.due_model.specs.claims.Options.{every_letter}
use Rattle.due_model.specs.Choices.{own}

abbrev pub on_mail : Rights
on_mail = record {
  enabled = true;
  options = every_letter;
  period = None;
  lanes = record { 0 = 0 }
      ∷ [];
}

-- a contact who is notified by mail, of everything
abbrev pub by_mail : List ℕ → Contact
by_mail name = record { name = name; hosts = on_mail; services = on_mail }

-- the host web: contact ann, interval 1
abbrev pub web : Object
web = record {
  name = codes "web";
  host = None;
  enabled = true;
  options = every_letter;
  period = None;
  interval = 1;
  delay = 0;
  volatile = false;
  contacts = record { 0 = 0 } ∷ [];
}

-- a service of web with web's contacts and interval
abbrev pub service : List ℕ → Object
service name = record web { name = name; host = Some (record { 0 = 0 }) }

-- the host web, the contact ann, the command mail
abbrev pub base : Config
base = record {
  choices = own;
  objects = web ∷ [];
  contacts = by_mail (codes "ann") ∷ [];
  lanes = record { name = codes "mail" } ∷ [];
  periods = [];
  escalations = [];
  dependencies = [];
}

-- an event
abbrev pub at : ℕ → EventKind → Event
at t k = record { moment = t; kind = k }

-- object o has a hard state
abbrev pub has : ℕ → State → EventKind
has o s = event.Hard (record { 0 = o }) s

abbrev pub downtime : ℕ → EventKind
downtime o = event.Downtime (record { 0 = o }) change.Start

-- the same hours on each day of the week
abbrev pub daily : List Range → Period
daily ranges = record { name = codes "work"; days = replicate 7 ranges; dated = []; excludes = [] }

-- what a report says of a notice: event, moment, kind, state, number, contact
abbrev pub NoticeRow : Type 0
NoticeRow = ℕ × ℕ × Kind × State × ℕ × ℕ

abbrev pub notice_row : Notice → NoticeRow
notice_row n = (n.event, n.moment, n.kind, n.state, n.number, n.contact.0)

-- what a report says of a suppression: event, moment, kind, state, filter
abbrev pub SuppressionRow : Type 0
SuppressionRow = ℕ × ℕ × Kind × State × Filter

abbrev pub suppression_row : Suppression → SuppressionRow
suppression_row s = (s.event, s.moment, s.kind, s.state, s.filter)

-- after these events, in feed order, object o has these notices on the lane mail and these suppressions
pub record Gives (c : Config) (o : ℕ) (feed : List Event) (notices : List NoticeRow)
    (suppressions : List SuppressionRow) : Type 0 where
  pub due : map notice_row (due c Utc o 0 (reverse feed)) ≡ notices
  pub suppressed : map suppression_row (sup c Utc o (reverse feed)) ≡ suppressions

-- bob, whom nobody names
abbrev pub two : Config
two = record base { contacts = by_mail (codes "ann") ∷ by_mail (codes "bob") ∷ [] }

-- web and its service http
abbrev pub site : Config
site = record base { objects = web ∷ service (codes "http") ∷ [] }

-- web, http, and the host gate on which web depends where that is DOWN
abbrev pub gated : Config
gated = record base {
  objects = web ∷ service (codes "http") ∷ record web { name = codes "gate" } ∷ [];
  dependencies = record {
    dependent = record { 0 = 0 };
    master = record { 0 = 2 };
    inherits = false;
    states = record { pending = false; up = false; down = true; unreachable = false; fine = false; warning = false; unknown = false; critical = false };
    period = None;
  } ∷ [];
}

-- ann takes these letters alone
abbrev pub takes : OptionLetters → Contact
takes letters = record {
  name = codes "ann";
  hosts = record on_mail { options = letters };
  services = record on_mail { options = letters };
}

-- an escalation of object o from the first notice on, to this contact, with interval 30
abbrev pub escalated : (o contact : ℕ) → Escalation
escalated o contact = record {
  object = record { 0 = o };
  first = 1;
  last = 0;
  interval = 30;
  period = None;
  options = every_letter;
  contacts = record { 0 = contact } ∷ [];
}

abbrev pub ends : ℕ → EventKind
ends o = event.Downtime (record { 0 = o }) change.End

abbrev pub host_down_feed : List Event
host_down_feed = (at 1000 (has 0 state.Down) ∷ at 1010 (has 1 state.Critical) ∷ [])

abbrev pub HostDownOwn : Type 0
HostDownOwn = Gives (record site { choices = own }) 1 host_down_feed ((1, 1010, kind.Problem, state.Critical, 1, 0) ∷ []) []

abbrev pub HostDownNagios : Type 0
HostDownNagios = Gives (record site { choices = (record own { host_down = true }) }) 1 host_down_feed [] ((1, 1010, kind.Problem, state.Critical, filter.HostDown) ∷ [])

abbrev pub host_repeats_feed : List Event
host_repeats_feed = (at 1000 (has 0 state.Down) ∷ at 1100 (has 1 state.Critical) ∷ at 1130 (has 1 state.Critical) ∷ [])

abbrev pub HostRepeatsOwn : Type 0
HostRepeatsOwn = Gives (record site { choices = own }) 0 host_repeats_feed ((0, 1000, kind.Problem, state.Down, 1, 0) ∷ []) []

abbrev pub HostRepeatsNagios : Type 0
HostRepeatsNagios = Gives (record site { choices = (record own { host_repeats = true }) }) 0 host_repeats_feed ((0, 1000, kind.Problem, state.Down, 1, 0) ∷ (2, 1130, kind.Problem, state.Down, 2, 0) ∷ []) []

abbrev pub host_dep_feed : List Event
host_dep_feed = (at 1000 (has 2 state.Down) ∷ at 1010 (has 1 state.Critical) ∷ [])

abbrev pub HostDepOwn : Type 0
HostDepOwn = Gives (record gated { choices = own }) 1 host_dep_feed ((1, 1010, kind.Problem, state.Critical, 1, 0) ∷ []) []

abbrev pub HostDepNagios : Type 0
HostDepNagios = Gives (record gated { choices = (record own { host_dep = true }) }) 1 host_dep_feed [] ((1, 1010, kind.Problem, state.Critical, filter.Dependency) ∷ [])

abbrev pub nobody_feed : List Event
nobody_feed = (at 1000 (has 0 state.Down) ∷ at 1010 (has 0 state.Unreachable) ∷ at 1020 (has 0 state.Up) ∷ [])

abbrev pub NobodyOwn : Type 0
NobodyOwn = Gives (record (record base { contacts = takes (record every_letter { down = false }) ∷ [] }) { choices = own }) 0 nobody_feed ((1, 1010, kind.Problem, state.Unreachable, 2, 0) ∷ (2, 1020, kind.Recovery, state.Up, 3, 0) ∷ []) ((0, 1000, kind.Problem, state.Down, filter.ContactOptions) ∷ [])

abbrev pub NobodyNagios : Type 0
NobodyNagios = Gives (record (record base { contacts = takes (record every_letter { down = false }) ∷ [] }) { choices = (record own { nobody = true }) }) 0 nobody_feed ((1, 1010, kind.Problem, state.Unreachable, 1, 0) ∷ (2, 1020, kind.Recovery, state.Up, 2, 0) ∷ []) ((0, 1000, kind.Problem, state.Down, filter.ContactOptions) ∷ [])

abbrev pub told_feed : List Event
told_feed = (at 1000 (has 1 state.Warning) ∷ at 1010 (has 1 state.Fine) ∷ [])

abbrev pub ToldOwn : Type 0
ToldOwn = Gives (record (record site { contacts = takes (record every_letter { warning = false }) ∷ [] }) { choices = own }) 1 told_feed ((1, 1010, kind.Recovery, state.Fine, 2, 0) ∷ []) ((0, 1000, kind.Problem, state.Warning, filter.ContactOptions) ∷ [])

abbrev pub ToldNagios : Type 0
ToldNagios = Gives (record (record site { contacts = takes (record every_letter { warning = false }) ∷ [] }) { choices = (record own { told = true }) }) 1 told_feed [] ((0, 1000, kind.Problem, state.Warning, filter.ContactOptions) ∷ (1, 1010, kind.Recovery, state.Fine, filter.ContactNotTold) ∷ [])

abbrev pub reset_wait_feed : List Event
reset_wait_feed = (at 1000 (has 0 state.Down) ∷ at 1060 (has 0 state.Unreachable) ∷ at 1120 (has 0 state.Down) ∷ [])

abbrev pub ResetWaitOwn : Type 0
ResetWaitOwn = Gives (record (record base { objects = record web { interval = 30; options = record every_letter { unreachable = false } } ∷ [] }) { choices = own }) 0 reset_wait_feed ((0, 1000, kind.Problem, state.Down, 1, 0) ∷ []) ((1, 1060, kind.Problem, state.Unreachable, filter.Options) ∷ (2, 1120, kind.Problem, state.Down, filter.Interval) ∷ [])

abbrev pub ResetWaitNagios : Type 0
ResetWaitNagios = Gives (record (record base { objects = record web { interval = 30; options = record every_letter { unreachable = false } } ∷ [] }) { choices = (record own { reset_wait = true }) }) 0 reset_wait_feed ((0, 1000, kind.Problem, state.Down, 1, 0) ∷ (2, 1120, kind.Problem, state.Down, 2, 0) ∷ []) ((1, 1060, kind.Problem, state.Unreachable, filter.Options) ∷ [])

abbrev pub delay_feed : List Event
delay_feed = (at 1000 (has 0 state.Down) ∷ at 1050 (has 0 state.Unreachable) ∷ at 1070 (has 0 state.Unreachable) ∷ [])

abbrev pub DelayOwn : Type 0
DelayOwn = Gives (record (record base { objects = record web { delay = 1 } ∷ [] }) { choices = own }) 0 delay_feed ((2, 1070, kind.Problem, state.Unreachable, 1, 0) ∷ []) ((0, 1000, kind.Problem, state.Down, filter.FirstDelay) ∷ (1, 1050, kind.Problem, state.Unreachable, filter.FirstDelay) ∷ [])

abbrev pub DelayNagios : Type 0
DelayNagios = Gives (record (record base { objects = record web { delay = 1 } ∷ [] }) { choices = (record own { delay = true }) }) 0 delay_feed [] ((0, 1000, kind.Problem, state.Down, filter.FirstDelay) ∷ (1, 1050, kind.Problem, state.Unreachable, filter.FirstDelay) ∷ (2, 1070, kind.Problem, state.Unreachable, filter.FirstDelay) ∷ [])

abbrev pub period_wait_feed : List Event
period_wait_feed = (at 10 (has 0 state.Down) ∷ at 3600 (has 0 state.Down) ∷ at 86400 (has 0 state.Down) ∷ [])

abbrev pub PeriodWaitOwn : Type 0
PeriodWaitOwn = Gives (record (record base { periods = daily (record { start = 0; end = 3600 } ∷ []) ∷ []; objects = record web { interval = 2000; period = Some (record { 0 = 0 }) } ∷ [] }) { choices = own }) 0 period_wait_feed ((0, 10, kind.Problem, state.Down, 1, 0) ∷ []) ((1, 3600, kind.Problem, state.Down, filter.Period) ∷ (2, 86400, kind.Problem, state.Down, filter.Interval) ∷ [])

abbrev pub PeriodWaitNagios : Type 0
PeriodWaitNagios = Gives (record (record base { periods = daily (record { start = 0; end = 3600 } ∷ []) ∷ []; objects = record web { interval = 2000; period = Some (record { 0 = 0 }) } ∷ [] }) { choices = (record own { period_wait = true }) }) 0 period_wait_feed ((0, 10, kind.Problem, state.Down, 1, 0) ∷ (2, 86400, kind.Problem, state.Down, 2, 0) ∷ []) ((1, 3600, kind.Problem, state.Down, filter.Period) ∷ [])

abbrev pub downtime_wait_feed : List Event
downtime_wait_feed = (at 1000 (has 1 state.Critical) ∷ at 1060 (downtime 1) ∷ at 1070 (has 1 state.Critical) ∷ at 1080 (ends 1) ∷ at 1090 (has 1 state.Critical) ∷ [])

abbrev pub DowntimeWaitOwn : Type 0
DowntimeWaitOwn = Gives (record (record site { objects = web ∷ record (service (codes "http")) { interval = 0 } ∷ []; escalations = escalated 1 0 ∷ [] }) { choices = own }) 1 downtime_wait_feed ((0, 1000, kind.Problem, state.Critical, 1, 0) ∷ (1, 1060, kind.DowntimeStart, state.Critical, 0, 0) ∷ (3, 1080, kind.DowntimeEnd, state.Critical, 0, 0) ∷ []) ((2, 1070, kind.Problem, state.Critical, filter.Downtime) ∷ (4, 1090, kind.Problem, state.Critical, filter.Interval) ∷ [])

abbrev pub DowntimeWaitNagios : Type 0
DowntimeWaitNagios = Gives (record (record site { objects = web ∷ record (service (codes "http")) { interval = 0 } ∷ []; escalations = escalated 1 0 ∷ [] }) { choices = (record own { downtime_wait = true }) }) 1 downtime_wait_feed ((0, 1000, kind.Problem, state.Critical, 1, 0) ∷ (1, 1060, kind.DowntimeStart, state.Critical, 0, 0) ∷ (3, 1080, kind.DowntimeEnd, state.Critical, 0, 0) ∷ (4, 1090, kind.Problem, state.Critical, 2, 0) ∷ []) ((2, 1070, kind.Problem, state.Critical, filter.Downtime) ∷ [])

abbrev pub esc_other_feed : List Event
esc_other_feed = (at 1000 (has 0 state.Down) ∷ at 1010 (downtime 0) ∷ [])

abbrev pub EscOtherOwn : Type 0
EscOtherOwn = Gives (record (record two { escalations = escalated 0 1 ∷ [] }) { choices = own }) 0 esc_other_feed ((0, 1000, kind.Problem, state.Down, 1, 1) ∷ (1, 1010, kind.DowntimeStart, state.Down, 0, 0) ∷ []) []

abbrev pub EscOtherNagios : Type 0
EscOtherNagios = Gives (record (record two { escalations = escalated 0 1 ∷ [] }) { choices = (record own { esc_other = true }) }) 0 esc_other_feed ((0, 1000, kind.Problem, state.Down, 1, 1) ∷ (1, 1010, kind.DowntimeStart, state.Down, 0, 1) ∷ []) []

abbrev pub at_results_feed : List Event
at_results_feed = (at 1000 (has 0 state.Down) ∷ at 1060 event.Clock ∷ at 1061 (has 0 state.Down) ∷ [])

abbrev pub AtResultsOwn : Type 0
AtResultsOwn = Gives (record base { choices = own }) 0 at_results_feed ((0, 1000, kind.Problem, state.Down, 1, 0) ∷ (1, 1060, kind.Problem, state.Down, 2, 0) ∷ []) ((2, 1061, kind.Problem, state.Down, filter.Interval) ∷ [])

abbrev pub AtResultsNagios : Type 0
AtResultsNagios = Gives (record base { choices = (record own { at_results = true }) }) 0 at_results_feed ((0, 1000, kind.Problem, state.Down, 1, 0) ∷ (2, 1061, kind.Problem, state.Down, 2, 0) ∷ []) []

-- web depends on gate, which was never checked, where that is UP
abbrev pub hangs_on : StateSet → Config
hangs_on states = record gated {
  dependencies = record {
    dependent = record { 0 = 0 };
    master = record { 0 = 2 };
    inherits = false;
    states = states;
    period = None;
  } ∷ [];
}

abbrev pub pending_alone : StateSet
pending_alone = record { pending = true; up = false; down = false; unreachable = false; fine = false; warning = false; unknown = false; critical = false }

abbrev pub up_alone : StateSet
up_alone = record { pending = false; up = true; down = false; unreachable = false; fine = false; warning = false; unknown = false; critical = false }

abbrev pub dep_pending_feed : List Event
dep_pending_feed = (at 1000 (has 0 state.Down) ∷ [])

abbrev pub DepPendingOwn : Type 0
DepPendingOwn = Gives (record (hangs_on up_alone) { choices = own }) 0 dep_pending_feed ((0, 1000, kind.Problem, state.Down, 1, 0) ∷ []) []

abbrev pub DepPendingNagios : Type 0
DepPendingNagios = Gives (record (hangs_on up_alone) { choices = (record own { dep_pending = true }) }) 0 dep_pending_feed [] ((0, 1000, kind.Problem, state.Down, filter.Dependency) ∷ [])

abbrev pub DepLetterOwn : Type 0
DepLetterOwn = Gives (record (hangs_on pending_alone) { choices = own }) 0 dep_pending_feed [] ((0, 1000, kind.Problem, state.Down, filter.Dependency) ∷ [])

abbrev pub DepLetterNagios : Type 0
DepLetterNagios = Gives (record (hangs_on pending_alone) { choices = (record own { dep_pending = true }) }) 0 dep_pending_feed ((0, 1000, kind.Problem, state.Down, 1, 0) ∷ []) []

-- web takes no DOWN, and its period never holds
abbrev pub closed : Config
closed = record base { periods = daily [] ∷ []; objects = record web { options = record every_letter { down = false }; period = Some (record { 0 = 0 }) } ∷ [] }

abbrev pub order_feed : List Event
order_feed = (at 1000 (has 0 state.Down) ∷ [])

abbrev pub OrderOwn : Type 0
OrderOwn = Gives (record closed { choices = own }) 0 order_feed [] ((0, 1000, kind.Problem, state.Down, filter.Options) ∷ [])

abbrev pub OrderNagios : Type 0
OrderNagios = Gives (record closed { choices = (record own { order = true }) }) 0 order_feed [] ((0, 1000, kind.Problem, state.Down, filter.Period) ∷ [])
