-- Worked examples: a configuration with the host web, its contact ann and the command mail, in UTC.
use Rattle.std.specs.Prelude.{◌≡◌, ℕ, Bool, true, false, List, [], ◌∷◌, reverse, replicate, map, codes, Some, None, Option, ◌++◌}
use Rattle.due_model.specs.declared.config.Config.{Config}
use Rattle.due_model.specs.declared.config.Contact.{Contact}
use Rattle.due_model.specs.declared.config.Escalation.{Escalation}
use Rattle.due_model.specs.declared.config.Object.{Object}
use Rattle.due_model.specs.declared.config.Period.{Period}
use Rattle.due_model.specs.declared.config.PeriodId.{PeriodId}
use Rattle.due_model.specs.declared.config.Range.{Range}
use Rattle.due_model.specs.declared.config.Rights.{Rights}
use Rattle.due_model.specs.declared.event.Event.{Event}
use Rattle.due_model.specs.declared.event.EventKind.{EventKind}
use Rattle.due_model.specs.declared.event.EventKind.TheVariants as event
use Rattle.due_model.specs.declared.event.DowntimeChange.TheVariants as change
use Rattle.due_model.specs.declared.notice.Filter.{Filter}
use Rattle.due_model.specs.declared.notice.Filter.TheVariants as filter
use Rattle.due_model.specs.declared.notice.Kind.{Kind}
use Rattle.due_model.specs.declared.notice.Kind.TheVariants as kind
use Rattle.due_model.specs.declared.notice.Notice.{Notice}
use Rattle.due_model.specs.declared.notice.Suppression.{Suppression}
use Rattle.due_model.specs.declared.options.OptionLetters.{OptionLetters}
use Rattle.due_model.specs.declared.state.State.{State}
use Rattle.due_model.specs.declared.state.State.TheVariants as state
use Rattle.due_model.specs.declared.state.StateSet.{StateSet}
use Rattle.due_model.specs.declared.zone.Zone.TheVariants.{Utc}
use Rattle.due_model.specs.Choices.{own}
use Rattle.due_model.specs.claims.Due.{due, sup}
use Rattle.due_model.specs.claims.Options.{every_letter}
use Rattle.due_model.specs.claims.Periods.{in_period, next_in}

abbrev pub on_mail : Rights
on_mail = record {
  enabled = true;
  options = every_letter;
  period = None;
  lanes = record { 0 = 0 }
      ∷ [];
}

-- a contact who is notified by mail, of everything
abbrev pub by_mail : List ℕ → Contact
by_mail name = record { name = name; hosts = on_mail; services = on_mail }

-- the host web: contact ann, interval 1
abbrev pub web : Object
web = record {
  name = codes "web";
  host = None;
  enabled = true;
  options = every_letter;
  period = None;
  interval = 1;
  delay = 0;
  volatile = false;
  contacts = record { 0 = 0 } ∷ [];
}

-- a service of web with web's contacts and interval
abbrev pub service : List ℕ → Object
service name = record web { name = name; host = Some (record { 0 = 0 }) }

-- the host web, the contact ann, the command mail
abbrev pub base : Config
base = record {
  choices = own;
  objects = web ∷ [];
  contacts = by_mail (codes "ann") ∷ [];
  lanes = record { name = codes "mail" } ∷ [];
  periods = [];
  escalations = [];
  dependencies = [];
}

-- an event
abbrev pub at : ℕ → EventKind → Event
at t k = record { moment = t; kind = k }

-- object o has a hard state
abbrev pub has : ℕ → State → EventKind
has o s = event.Hard (record { 0 = o }) s

abbrev pub downtime : ℕ → EventKind
downtime o = event.Downtime (record { 0 = o }) change.Start

-- the same hours on each day of the week
abbrev pub daily : List Range → Period
daily ranges = record { name = codes "work"; days = replicate 7 ranges; dated = []; excludes = [] }

-- what a report says of a notice: event, moment, kind, state, number, contact
abbrev pub NoticeRow : Type 0
NoticeRow = ℕ × ℕ × Kind × State × ℕ × ℕ

abbrev pub notice_row : Notice → NoticeRow
notice_row n = (n.event, n.moment, n.kind, n.state, n.number, n.contact.0)

-- what a report says of a suppression: event, moment, kind, state, filter
abbrev pub SuppressionRow : Type 0
SuppressionRow = ℕ × ℕ × Kind × State × Filter

abbrev pub suppression_row : Suppression → SuppressionRow
suppression_row s = (s.event, s.moment, s.kind, s.state, s.filter)

-- after these events, in feed order, object o has these notices on the lane mail and these suppressions
pub record Gives (c : Config) (o : ℕ) (feed : List Event) (notices : List NoticeRow)
    (suppressions : List SuppressionRow) : Type 0 where
  pub due : map notice_row (due c Utc o 0 (reverse feed)) ≡ notices
  pub suppressed : map suppression_row (sup c Utc o (reverse feed)) ≡ suppressions

abbrev pub OneHostDown : Type 0
OneHostDown = Gives base 0 (at 1000 (has 0 state.Down) ∷ [])
    ((0, 1000, kind.Problem, state.Down, 1, 0) ∷ []) []

abbrev pub EmptyFeed : Type 0
EmptyFeed = Gives base 0 [] [] []

abbrev pub Renotify : Type 0
Renotify = Gives base 0 (at 1000 (has 0 state.Down) ∷ at 1059 event.Clock ∷ at 1060 event.Clock
    ∷ [])
    ((0, 1000, kind.Problem, state.Down, 1, 0) ∷ (2, 1060, kind.Problem, state.Down, 2, 0) ∷ []) []

abbrev pub SameStateTooSoon : Type 0
SameStateTooSoon = Gives base 0
    (at 1000 (has 0 state.Down) ∷ at 1030 (has 0 state.Down) ∷ at 1059 event.Clock
    ∷ at 1060 event.Clock ∷ [])
    ((0, 1000, kind.Problem, state.Down, 1, 0) ∷ (3, 1060, kind.Problem, state.Down, 2, 0) ∷ [])
    ((1, 1030, kind.Problem, state.Down, filter.Interval) ∷ [])

abbrev pub ProgramSwitch : Type 0
ProgramSwitch = Gives base 0
    (at 1000 (event.Program false) ∷ at 1000 (has 0 state.Down) ∷ at 1005 (event.Program true)
    ∷ at 1010 (has 0 state.Up) ∷ [])
    []
    ((1, 1000, kind.Problem, state.Down, filter.Program)
    ∷ (3, 1010, kind.Recovery, state.Up, filter.NoProblem) ∷ [])

abbrev pub with_bob : List Escalation → Config
with_bob escalations = record base
    { contacts = by_mail (codes "ann") ∷ by_mail (codes "bob") ∷ []; escalations = escalations }

-- an escalation of object o to one contact
abbrev pub escalation : (o first last interval contact : ℕ) → Escalation
escalation o first last interval contact = record {
  object = record { 0 = o };
  first = first;
  last = last;
  interval = interval;
  period = None;
  options = every_letter;
  contacts = record { 0 = contact } ∷ [];
}

-- a recovery goes to the contacts of the last notice's number
abbrev pub EscalationAndRecovery : Type 0
EscalationAndRecovery = Gives (with_bob (escalation 0 3 3 1 1 ∷ [])) 0
    (at 1000 (has 0 state.Down) ∷ at 1060 event.Clock ∷ at 1120 event.Clock
    ∷ at 1130 (has 0 state.Up) ∷ [])
    ((0, 1000, kind.Problem, state.Down, 1, 0) ∷ (1, 1060, kind.Problem, state.Down, 2, 0)
    ∷ (2, 1120, kind.Problem, state.Down, 3, 1) ∷ (3, 1130, kind.Recovery, state.Up, 4, 1) ∷ [])
    []

abbrev pub overlap : Config
overlap = record base {
  objects = record web { interval = 10 } ∷ [];
  contacts = by_mail (codes "ann") ∷ by_mail (codes "bob") ∷ by_mail (codes "cat") ∷ [];
  escalations = escalation 0 3 5 45 1 ∷ escalation 0 4 0 60 2 ∷ [];
}

-- the manual's overlapping escalations (chapter "Notification Escalations", "Notification Intervals")
abbrev pub OverlappingEscalations : Type 0
OverlappingEscalations = Gives overlap 0
    (at 0 (has 0 state.Down) ∷ at 600 event.Clock ∷ at 1200 event.Clock ∷ at 1800 event.Clock
    ∷ at 3899 event.Clock ∷ at 3900 event.Clock
    ∷ at 6600 event.Clock ∷ at 9300 event.Clock ∷ at 12899 event.Clock ∷ at 12900 event.Clock ∷ [])
    ((0, 0, kind.Problem, state.Down, 1, 0) ∷ (1, 600, kind.Problem, state.Down, 2, 0)
    ∷ (2, 1200, kind.Problem, state.Down, 3, 1)
    ∷ (5, 3900, kind.Problem, state.Down, 4, 1) ∷ (5, 3900, kind.Problem, state.Down, 4, 2)
    ∷ (6, 6600, kind.Problem, state.Down, 5, 1) ∷ (6, 6600, kind.Problem, state.Down, 5, 2)
    ∷ (7, 9300, kind.Problem, state.Down, 6, 2) ∷ (9, 12900, kind.Problem, state.Down, 7, 2) ∷ [])
    []

-- an escalation of web to bob from the first notification on, with these options
abbrev pub always_to_bob : OptionLetters → Escalation
always_to_bob options = record (escalation 0 0 0 1 1) { options = options }

-- an escalation whose options lack the letter of a problem or of a recovery doesn't match it
abbrev pub EscalationOptions : Type 0
EscalationOptions = Gives
    (with_bob (always_to_bob (record every_letter { down = false; recovery = false }) ∷ [])) 0
    (at 1000 (has 0 state.Down) ∷ at 1010 (has 0 state.Unreachable) ∷ at 1020 (has 0 state.Up) ∷ [])
    ((0, 1000, kind.Problem, state.Down, 1, 0) ∷ (1, 1010, kind.Problem, state.Unreachable, 2, 1)
    ∷ (2, 1020, kind.Recovery, state.Up, 3, 0) ∷ [])
    []

-- an escalation outside of its period doesn't match: here from 09:00 to 17:00
abbrev pub EscalationPeriod : Type 0
EscalationPeriod = Gives (record
    (with_bob (record (always_to_bob every_letter) { period = Some (record { 0 = 0 }) } ∷ []))
    { periods = daily (record { start = 32400; end = 61200 } ∷ []) ∷ [] }) 0
    (at 32399 (has 0 state.Down) ∷ at 32400 (has 0 state.Unreachable) ∷ at 61200 (has 0 state.Up)
    ∷ [])
    ((0, 32399, kind.Problem, state.Down, 1, 0)
    ∷ (1, 32400, kind.Problem, state.Unreachable, 2, 1)
    ∷ (2, 61200, kind.Recovery, state.Up, 3, 0) ∷ [])
    []

-- flapping and downtime are told to the object's own contacts, whatever escalation there is
abbrev pub OwnContacts : Type 0
OwnContacts = Gives (with_bob (always_to_bob every_letter ∷ [])) 0
    (at 1000 (event.Flapping (record { 0 = 0 }) true)
    ∷ at 1010 (event.Flapping (record { 0 = 0 }) false)
    ∷ at 1020 (downtime 0) ∷ at 1030 (event.Downtime (record { 0 = 0 }) change.End)
    ∷ at 1040 (downtime 0) ∷ at 1050 (event.Downtime (record { 0 = 0 }) change.Cancelled)
    ∷ at 1060 (has 0 state.Down) ∷ [])
    ((0, 1000, kind.FlappingStart, state.Pending, 0, 0)
    ∷ (1, 1010, kind.FlappingStop, state.Pending, 0, 0)
    ∷ (2, 1020, kind.DowntimeStart, state.Pending, 0, 0)
    ∷ (3, 1030, kind.DowntimeEnd, state.Pending, 0, 0)
    ∷ (4, 1040, kind.DowntimeStart, state.Pending, 0, 0)
    ∷ (5, 1050, kind.DowntimeCancelled, state.Pending, 0, 0)
    ∷ (6, 1060, kind.Problem, state.Down, 1, 1) ∷ [])
    []

-- after a notice with the interval 0 none follows until the state changes
abbrev pub IntervalZero : Type 0
IntervalZero = Gives (record (with_bob (escalation 1 4 6 0 1 ∷ []))
    { objects = web ∷ service (codes "PING") ∷ [] }) 1
    (at 1000 (has 1 state.Warning) ∷ at 1060 event.Clock ∷ at 1120 event.Clock
    ∷ at 1180 event.Clock ∷ at 1240 event.Clock ∷ at 9999 event.Clock
    ∷ at 10000 (has 1 state.Critical) ∷ at 20000 event.Clock ∷ [])
    ((0, 1000, kind.Problem, state.Warning, 1, 0) ∷ (1, 1060, kind.Problem, state.Warning, 2, 0)
    ∷ (2, 1120, kind.Problem, state.Warning, 3, 0)
    ∷ (3, 1180, kind.Problem, state.Warning, 4, 1) ∷ (6, 10000, kind.Problem, state.Critical, 5, 1)
    ∷ [])
    []

abbrev pub InDowntime : Type 0
InDowntime = Gives base 0
    (at 1000 (downtime 0) ∷ at 1010 (has 0 state.Down) ∷ at 1020 (has 0 state.Up) ∷ [])
    ((0, 1000, kind.DowntimeStart, state.Pending, 0, 0) ∷ [])
    ((1, 1010, kind.Problem, state.Down, filter.Downtime)
    ∷ (2, 1020, kind.Recovery, state.Up, filter.Downtime) ∷ [])

abbrev pub nested : List Event
nested = at 1000 (downtime 0) ∷ at 1010 (has 1 state.Critical) ∷ at 1020 (downtime 0)
    ∷ at 1030 (event.Downtime (record { 0 = 0 }) change.End)
    ∷ at 1040 (event.Downtime (record { 0 = 0 }) change.Cancelled)
    ∷ at 1050 (event.Downtime (record { 0 = 0 }) change.End) ∷ []

abbrev pub with_ping : Config
with_ping = record base { objects = web ∷ service (codes "PING") ∷ [] }

-- downtimes nest, and a host's holds its services' problems back
abbrev pub NestedDowntimes : Type 0
NestedDowntimes = Gives with_ping 0 nested
    ((0, 1000, kind.DowntimeStart, state.Pending, 0, 0)
    ∷ (4, 1040, kind.DowntimeCancelled, state.Pending, 0, 0) ∷ []) []
    × Gives with_ping 1 nested [] ((1, 1010, kind.Problem, state.Critical, filter.Downtime) ∷ [])

abbrev pub WhileFlapping : Type 0
WhileFlapping = Gives base 0
    (at 1000 (event.Flapping (record { 0 = 0 }) true) ∷ at 1010 (has 0 state.Down)
    ∷ at 1020 (event.Flapping (record { 0 = 0 }) false) ∷ at 1069 event.Clock
    ∷ at 1070 event.Clock ∷ [])
    ((0, 1000, kind.FlappingStart, state.Pending, 0, 0)
    ∷ (2, 1020, kind.FlappingStop, state.Down, 0, 0)
    ∷ (4, 1070, kind.Problem, state.Down, 1, 0) ∷ [])
    ((1, 1010, kind.Problem, state.Down, filter.Flapping) ∷ [])

-- somebody takes the problem of web on, and nobody is told of that
abbrev pub acked_by_somebody : (sticky : Bool) → EventKind
acked_by_somebody sticky =
    event.Ack (record { 0 = 0 }) (record { sticky = sticky; notify = false })

-- web is down, somebody takes that on, it is still down, then unreachable, and up again
abbrev pub acknowledged_once : (sticky : Bool) → List Event
acknowledged_once sticky = at 1000 (has 0 state.Down) ∷ at 1010 (acked_by_somebody sticky)
    ∷ at 1060 event.Clock ∷ at 1120 event.Clock ∷ at 1130 (has 0 state.Down)
    ∷ at 1140 (has 0 state.Unreachable) ∷ at 1150 (has 0 state.Up) ∷ []

-- An acknowledgement holds the notices of a problem back, and the clock doesn't attempt the problem again. A change of
-- state ends it, unless it is sticky; recoveries are told.
abbrev pub Acknowledged : Type 0
Acknowledged = Gives base 0 (acknowledged_once false)
    ((0, 1000, kind.Problem, state.Down, 1, 0) ∷ (5, 1140, kind.Problem, state.Unreachable, 2, 0)
    ∷ (6, 1150, kind.Recovery, state.Up, 3, 0) ∷ [])
    ((2, 1060, kind.Problem, state.Down, filter.Acknowledged)
    ∷ (4, 1130, kind.Problem, state.Down, filter.Acknowledged) ∷ [])
    × Gives base 0 (acknowledged_once true)
    ((0, 1000, kind.Problem, state.Down, 1, 0) ∷ (6, 1150, kind.Recovery, state.Up, 2, 0) ∷ [])
    ((2, 1060, kind.Problem, state.Down, filter.Acknowledged)
    ∷ (4, 1130, kind.Problem, state.Down, filter.Acknowledged)
    ∷ (5, 1140, kind.Problem, state.Unreachable, filter.Acknowledged) ∷ [])

-- an acknowledgement of an object that is up is none, and none outlasts an OK state
abbrev pub AcknowledgedUp : Type 0
AcknowledgedUp = Gives base 0
    (at 1000 (acked_by_somebody true) ∷ at 1010 (has 0 state.Up)
    ∷ at 1020 (acked_by_somebody true) ∷ at 1030 (has 0 state.Down)
    ∷ at 1040 (acked_by_somebody true) ∷ at 1050 (has 0 state.Up)
    ∷ at 1060 (has 0 state.Down) ∷ [])
    ((3, 1030, kind.Problem, state.Down, 1, 0) ∷ (5, 1050, kind.Recovery, state.Up, 2, 0)
    ∷ (6, 1060, kind.Problem, state.Down, 1, 0) ∷ [])
    []

-- an acknowledgement that is taken back holds nothing back any more, and the clock attempts the problem again
abbrev pub TakenBack : Type 0
TakenBack = Gives base 0
    (at 1000 (has 0 state.Down) ∷ at 1010 (acked_by_somebody true)
    ∷ at 1060 event.Clock ∷ at 1070 (event.AckRemoved (record { 0 = 0 })) ∷ at 1080 event.Clock ∷ [])
    ((0, 1000, kind.Problem, state.Down, 1, 0) ∷ (4, 1080, kind.Problem, state.Down, 2, 0) ∷ [])
    ((2, 1060, kind.Problem, state.Down, filter.Acknowledged) ∷ [])

-- where that is asked for, an acknowledgement of a problem is told itself, also in a downtime; not one of an object that is up
abbrev pub ToldOfAcknowledgements : Type 0
ToldOfAcknowledgements = Gives base 0
    (at 1000 (event.Ack (record { 0 = 0 }) (record { sticky = true; notify = true }))
    ∷ at 1010 (event.Downtime (record { 0 = 0 }) change.Start) ∷ at 1020 (has 0 state.Down)
    ∷ at 1030 (event.Ack (record { 0 = 0 }) (record { sticky = true; notify = true })) ∷ [])
    ((1, 1010, kind.DowntimeStart, state.Pending, 0, 0)
    ∷ (3, 1030, kind.Acknowledgement, state.Down, 0, 0) ∷ [])
    ((2, 1020, kind.Problem, state.Down, filter.Downtime) ∷ [])

-- an object's own switch, whatever the object text says
abbrev pub SwitchedOff : Type 0
SwitchedOff = Gives base 0
    (at 1000 (event.OwnSwitch (record { 0 = 0 }) false) ∷ at 1010 (has 0 state.Down)
    ∷ at 1020 (event.OwnSwitch (record { 0 = 0 }) true) ∷ at 1070 event.Clock ∷ [])
    ((3, 1070, kind.Problem, state.Down, 1, 0) ∷ [])
    ((1, 1010, kind.Problem, state.Down, filter.Disabled) ∷ [])

-- a volatile service of interval 0 is notified of at each hard problem state, and not again by the clock
abbrev pub VolatileService : Type 0
VolatileService = Gives
    (record base { objects = web ∷ record (service (codes "http")) { interval = 0; volatile = true } ∷ [] }) 1
    (at 1000 (has 1 state.Critical) ∷ at 1001 (has 1 state.Critical) ∷ at 9000 event.Clock
    ∷ at 9001 (has 1 state.Fine) ∷ [])
    ((0, 1000, kind.Problem, state.Critical, 1, 0) ∷ (1, 1001, kind.Problem, state.Critical, 2, 0)
    ∷ (3, 9001, kind.Recovery, state.Fine, 3, 0) ∷ [])
    []

-- objects 1, 2 and 3 are the services A, C and B of web: A depends on B, and B on C
abbrev pub only_critical : StateSet
only_critical = record {
  pending = false;
  up = false;
  down = false;
  unreachable = false;
  fine = false;
  warning = false;
  unknown = false;
  critical = true;
}

abbrev pub chain : (inherits : Bool) → Config
chain inherits = record base {
  objects = web ∷ service (codes "A") ∷ service (codes "C") ∷ service (codes "B") ∷ [];
  dependencies = record {
    dependent = record { 0 = 1 };
    master = record { 0 = 3 };
    inherits = inherits;
    states = only_critical;
    period = None;
  }
      ∷ record {
        dependent = record { 0 = 3 };
        master = record { 0 = 2 };
        inherits = false;
        states = only_critical;
        period = None;
      } ∷ [];
}

abbrev pub both_critical : List Event
both_critical = at 1000 (has 2 state.Critical) ∷ at 1000 (has 1 state.Critical) ∷ []

-- a dependency that inherits fails where its master's fails; one that doesn't looks at its master alone
abbrev pub DependencyChain : Type 0
DependencyChain = Gives (chain true) 2 both_critical
    ((0, 1000, kind.Problem, state.Critical, 1, 0) ∷ []) []
    × Gives (chain true) 1 both_critical []
    ((1, 1000, kind.Problem, state.Critical, filter.Dependency) ∷ [])
    × Gives (chain false) 1 both_critical ((1, 1000, kind.Problem, state.Critical, 1, 0) ∷ []) []

abbrev pub FirstDelay : Type 0
FirstDelay = Gives (record base { objects = record web { delay = 2 } ∷ [] }) 0
    (at 1000 (has 0 state.Down) ∷ at 1119 event.Clock ∷ at 1120 event.Clock ∷ [])
    ((2, 1120, kind.Problem, state.Down, 1, 0) ∷ [])
    ((0, 1000, kind.Problem, state.Down, filter.FirstDelay) ∷ [])

abbrev pub work_hours : Config
work_hours = record base {
  objects = record web { period = Some (record { 0 = 0 }) } ∷ [];
  periods = daily (record { start = 32400; end = 61200 } ∷ []) ∷ [];
}

-- Thursday 17:00:00 is outside of 09:00-17:00, and Friday 09:00:00 is the next moment within
abbrev pub WorkHours : Type 0
WorkHours = Gives work_hours 0
    (at 61200 (has 0 state.Down) ∷ at 118799 event.Clock ∷ at 118800 event.Clock ∷ [])
    ((2, 118800, kind.Problem, state.Down, 1, 0) ∷ [])
    ((0, 61200, kind.Problem, state.Down, filter.Period) ∷ [])

-- what ann's options leave out is stopped by her filter
abbrev pub not_recoveries : Rights
not_recoveries = record on_mail { options = record every_letter { recovery = false } }

abbrev pub refusal : Suppression
refusal = record {
  event = 1;
  moment = 1010;
  object = record { 0 = 0 };
  kind = kind.Recovery;
  state = state.Up;
  number = 2;
  filter = filter.ContactOptions;
  contact = Some (record { 0 = 0 });
}

abbrev pub ContactOptions : Type 0
ContactOptions = sup (record base
    { contacts = record (by_mail (codes "ann")) { hosts = not_recoveries } ∷ [] }) Utc 0
    (reverse (at 1000 (has 0 state.Down) ∷ at 1010 (has 0 state.Up) ∷ [])) ≡ refusal ∷ []

-- a period that holds on Thursdays, but not where these others do
abbrev pub thursdays : List Range → List PeriodId → Period
thursdays ranges excludes = record
    { name = codes "day"; days = replicate 4 [] ++ ranges ∷ [] ∷ [] ∷ []; dated = []; excludes = excludes }

-- period 0 is all of Thursday without lunch, period 1 is lunch without tea, period 2 is tea
abbrev pub meals : Config
meals = record base {
  periods = thursdays (record { start = 0; end = 86400 } ∷ []) (record { 0 = 1 } ∷ [])
      ∷ thursdays (record { start = 43200; end = 46800 } ∷ []) (record { 0 = 2 } ∷ [])
      ∷ thursdays (record { start = 45000; end = 45900 } ∷ []) [] ∷ [];
}

-- whether a moment is in the first period, and the next moment that is
abbrev pub in_first : ℕ → Bool
in_first t = in_period meals Utc (Some (record { 0 = 0 })) t

abbrev pub next_in_first : ℕ → Option ℕ
next_in_first t = next_in meals Utc (Some (record { 0 = 0 })) t

-- a moment of tea is one of the first period, since tea isn't lunch (chapter "Time Periods")
pub record NestedExclusion : Type 0 where
  pub lunch : in_first 43800 ≡ false
  pub tea : in_first 45600 ≡ true
  pub until_tea : next_in_first 43800 ≡ Some 45000
  pub after_lunch : next_in_first 46200 ≡ Some 46800
