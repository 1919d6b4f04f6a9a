-- The rules of an attempt: what is attempted, its letter, and the filters in their order.
use Rattle.std.specs.Prelude.{ℕ, ◌+◌, ◌*◌, Bool, true, false, not, ◌&&◌, ◌||◌, List, [], ◌∷◌, nat_lt, nat_le, ◌==◌, Option, Some, None, if◌then◌else◌}
use Rattle.due_model.specs.declared.event.EventKind.{EventKind}
use Rattle.due_model.specs.declared.event.EventKind.TheVariants as event
use Rattle.due_model.specs.declared.event.Acknowledgement.{Acknowledgement}
use Rattle.due_model.specs.declared.event.DowntimeChange.{DowntimeChange}
use Rattle.due_model.specs.declared.event.DowntimeChange.TheVariants as change
use Rattle.due_model.specs.declared.state.State.{State}
use Rattle.due_model.specs.declared.state.State.TheVariants as state
use Rattle.due_model.specs.declared.options.OptionLetter.{OptionLetter}
use Rattle.due_model.specs.declared.options.OptionLetter.TheVariants as letter
use Rattle.due_model.specs.declared.options.OptionLetters.{OptionLetters}
use Rattle.due_model.specs.declared.notice.Kind.{Kind}
use Rattle.due_model.specs.declared.notice.Kind.TheVariants as kind
use Rattle.due_model.specs.declared.notice.Filter.{Filter}
use Rattle.due_model.specs.declared.notice.Filter.TheVariants as filter
use Rattle.due_model.specs.declared.config.Config.{Config}
use Rattle.due_model.specs.declared.config.Rights.{Rights}
use Rattle.due_model.specs.declared.rules.Attempt.{Attempt}
use Rattle.due_model.specs.declared.rules.Last.{Last}
use Rattle.due_model.specs.declared.rules.ObjectStatus.{ObjectStatus}
use Rattle.due_model.specs.declared.rules.View.{View}
use Rattle.due_model.specs.declared.zone.Zone.{Zone}
use Rattle.due_model.specs.claims.Periods.{in_period}
use Rattle.due_model.specs.claims.Readings.{is_ok_state, is_problem_state, depth_changed}

-- a ready moment that has come
abbrev pub has_come : Option ℕ → ℕ → Bool
has_come None t = false
has_come (Some ready) t = nat_le ready t

-- the kind of notification about a change
abbrev pub downtime_kind : DowntimeChange → Kind
downtime_kind change.Start = kind.DowntimeStart
downtime_kind change.End = kind.DowntimeEnd
downtime_kind change.Cancelled = kind.DowntimeCancelled

-- a hard problem state is always an attempt, and an OK state after a problem state is one
abbrev pub attempted_by_state : (old now : State) → Option Kind
attempted_by_state old now =
    if is_problem_state now then Some kind.Problem
    else (if is_ok_state now && is_problem_state old then Some kind.Recovery else None)

-- a downtime is notified of where the object comes into downtime or out of it, with so many downtimes running before
abbrev pub attempted_by_downtime : (depth : ℕ) → DowntimeChange → Option Kind
attempted_by_downtime depth change =
    if nat_lt 0 depth
    then (if nat_lt 0 (depth_changed change depth) then None else Some (downtime_kind change))
    else (if nat_lt 0 (depth_changed change depth) then Some (downtime_kind change) else None)

-- flapping is notified of where it starts or stops
abbrev pub attempted_by_flapping : (flapping starts : Bool) → Option Kind
attempted_by_flapping flapping true = if flapping then None else Some kind.FlappingStart
attempted_by_flapping flapping false = if flapping then Some kind.FlappingStop else None

-- an acknowledgement is notified of where that is asked for; only a problem is acknowledged
abbrev pub attempted_by_ack : State → Acknowledgement → Option Kind
attempted_by_ack state ack =
    if is_problem_state state && ack.notify then Some kind.Acknowledgement else None

-- What an event attempts on object o, of which this was the status before it, and that the ready moment, at moment t
-- (chapter "Notifications", "When Do Notifications Occur?"). The clock attempts a problem again once its ready
-- moment has come.
abbrev pub attempted : ℕ → EventKind → ObjectStatus → Option ℕ → ℕ → Option Kind
attempted o event.Clock old ready t =
    if is_problem_state old.state && has_come ready t then Some kind.Problem else None
attempted o (event.Program on) old ready t = None
attempted o (event.Hard p now) old ready t =
    if p.0 == o then attempted_by_state old.state now else None
attempted o (event.Downtime p change) old ready t =
    if p.0 == o then attempted_by_downtime old.depth change else None
attempted o (event.Flapping p starts) old ready t =
    if p.0 == o then attempted_by_flapping old.flapping starts else None
attempted o (event.Ack p ack) old ready t =
    if p.0 == o then attempted_by_ack old.state ack else None
attempted o (event.AckRemoved p) old ready t = None
attempted o (event.OwnSwitch p on) old ready t = None

-- the letter of a state (chapter "Object Definitions", `notification_options`)
abbrev pub state_letter : State → OptionLetter
state_letter state.Pending = letter.Recovery
state_letter state.Up = letter.Recovery
state_letter state.Down = letter.Down
state_letter state.Unreachable = letter.Unreachable
state_letter state.Fine = letter.Recovery
state_letter state.Warning = letter.Warning
state_letter state.Unknown = letter.Unknown
state_letter state.Critical = letter.Critical

-- the letter of a notification: that of the state for a problem and its acknowledgement, else that of its kind
abbrev pub letter_of : Kind → State → OptionLetter
letter_of kind.Problem s = state_letter s
letter_of kind.Recovery s = letter.Recovery
letter_of kind.FlappingStart s = letter.Flapping
letter_of kind.FlappingStop s = letter.Flapping
letter_of kind.DowntimeStart s = letter.Downtime
letter_of kind.DowntimeEnd s = letter.Downtime
letter_of kind.DowntimeCancelled s = letter.Downtime
letter_of kind.Acknowledgement s = state_letter s

-- whether a letter is in a set
abbrev pub has_letter : OptionLetters → OptionLetter → Bool
has_letter set letter.Down = set.down
has_letter set letter.Unreachable = set.unreachable
has_letter set letter.Warning = set.warning
has_letter set letter.Unknown = set.unknown
has_letter set letter.Critical = set.critical
has_letter set letter.Recovery = set.recovery
has_letter set letter.Flapping = set.flapping
has_letter set letter.Downtime = set.downtime

-- the set of no letter
abbrev pub no_letter : OptionLetters
no_letter = record {
  down = false;
  unreachable = false;
  warning = false;
  unknown = false;
  critical = false;
  recovery = false;
  flapping = false;
  downtime = false;
}

-- a set with a letter
abbrev pub with_letter : OptionLetter → OptionLetters → OptionLetters
with_letter letter.Down set = record set { down = true }
with_letter letter.Unreachable set = record set { unreachable = true }
with_letter letter.Warning set = record set { warning = true }
with_letter letter.Unknown set = record set { unknown = true }
with_letter letter.Critical set = record set { critical = true }
with_letter letter.Recovery set = record set { recovery = true }
with_letter letter.Flapping set = record set { flapping = true }
with_letter letter.Downtime set = record set { downtime = true }

-- whether two sets have a letter in common
abbrev pub meets : OptionLetters → OptionLetters → Bool
meets a b =
    a.down && b.down || a.unreachable && b.unreachable || a.warning && b.warning
    || a.unknown && b.unknown || a.critical && b.critical || a.recovery && b.recovery
    || a.flapping && b.flapping || a.downtime && b.downtime

-- whether none of these letters is told to who has those options; where there is none, everybody is told
abbrev pub is_untold : Option OptionLetters → OptionLetters → Bool
is_untold None options = false
is_untold (Some told) options = not (meets told options)

-- a number for each state
abbrev pub state_number : State → ℕ
state_number state.Pending = 0
state_number state.Up = 1
state_number state.Down = 2
state_number state.Unreachable = 3
state_number state.Fine = 4
state_number state.Warning = 5
state_number state.Unknown = 6
state_number state.Critical = 7

-- whether two states are one
abbrev pub same_state : State → State → Bool
same_state s t = state_number s == state_number t

-- the kinds of which a filter speaks
abbrev pub is_problem : Kind → Bool
is_problem kind.Problem = true
is_problem kind.Recovery = false
is_problem kind.FlappingStart = false
is_problem kind.FlappingStop = false
is_problem kind.DowntimeStart = false
is_problem kind.DowntimeEnd = false
is_problem kind.DowntimeCancelled = false
is_problem kind.Acknowledgement = false

abbrev pub is_recovery : Kind → Bool
is_recovery kind.Problem = false
is_recovery kind.Recovery = true
is_recovery kind.FlappingStart = false
is_recovery kind.FlappingStop = false
is_recovery kind.DowntimeStart = false
is_recovery kind.DowntimeEnd = false
is_recovery kind.DowntimeCancelled = false
is_recovery kind.Acknowledgement = false

-- what is told in a downtime too: downtimes themselves, and acknowledgements
abbrev pub is_told_in_downtime : Kind → Bool
is_told_in_downtime kind.Problem = false
is_told_in_downtime kind.Recovery = false
is_told_in_downtime kind.FlappingStart = false
is_told_in_downtime kind.FlappingStop = false
is_told_in_downtime kind.DowntimeStart = true
is_told_in_downtime kind.DowntimeEnd = true
is_told_in_downtime kind.DowntimeCancelled = true
is_told_in_downtime kind.Acknowledgement = true

-- of what the object's options are asked: of all but acknowledgements
abbrev pub asks_options : Kind → Bool
asks_options kind.Problem = true
asks_options kind.Recovery = true
asks_options kind.FlappingStart = true
asks_options kind.FlappingStop = true
asks_options kind.DowntimeStart = true
asks_options kind.DowntimeEnd = true
asks_options kind.DowntimeCancelled = true
asks_options kind.Acknowledgement = false

-- a problem, or the recovery from one
abbrev pub is_of_problem : Kind → Bool
is_of_problem k = is_problem k || is_recovery k

-- the moment of the next notice of the same state, after one at this moment with this gap; never, where that is 0
abbrev pub next_notice : (moment gap : ℕ) → Option ℕ
next_notice moment gap = if gap == 0 then None else Some (moment + gap)

-- the last notice reported the same state, and its gap is 0 or hasn't passed
abbrev pub is_too_soon : Option Last → State → (t : ℕ) → Bool
is_too_soon None state t = false
is_too_soon (Some last) state t =
    same_state last.state state && not (has_come (next_notice last.moment last.gap) t)

-- the first filter of a list that fails
abbrev pub first_failing : List (Bool × Filter) → Option Filter
first_failing [] = None
first_failing (test ∷ tests) = if test.0 then Some test.1 else first_failing tests

-- an object's filters in their order, each with the test that it fails (chapter "Notifications", "What Filters Must
-- Be Passed In Order For Notifications To Be Sent?")
abbrev pub in_own_order : Config → Zone → View → Attempt → List (Bool × Filter)
in_own_order c zone v a =
    (not v.program, filter.Program)
    ∷ (not v.enabled, filter.Disabled)
    ∷ (not (is_told_in_downtime a.kind) && v.down, filter.Downtime)
    ∷ (is_of_problem a.kind && v.flapping, filter.Flapping)
    ∷ (
      asks_options a.kind && not (has_letter v.options (letter_of a.kind a.state)),
      filter.Options,
    )
    ∷ (is_recovery a.kind && v.sent == 0, filter.NoProblem)
    ∷ (not (in_period c zone v.period a.moment), filter.Period)
    ∷ (is_of_problem a.kind && v.depends, filter.Dependency)
    ∷ (is_problem a.kind && v.acknowledged, filter.Acknowledged)
    ∷ (
      is_problem a.kind && v.sent == 0
          && nat_lt a.moment (v.began + 60 * v.delay),
      filter.FirstDelay,
    )
    ∷ (
      is_problem a.kind && not v.renews && is_too_soon v.last a.state a.moment,
      filter.Interval,
    )
    ∷ (is_of_problem a.kind && v.host_problem, filter.HostDown)
    ∷ []

-- the same in the order in which the daemon asks them
abbrev pub in_daemons_order : Config → Zone → View → Attempt → List (Bool × Filter)
in_daemons_order c zone v a =
    (not v.program, filter.Program)
    ∷ (not (in_period c zone v.period a.moment), filter.Period)
    ∷ (not v.enabled, filter.Disabled)
    ∷ (is_problem a.kind && v.acknowledged, filter.Acknowledged)
    ∷ (is_of_problem a.kind && v.depends, filter.Dependency)
    ∷ (
      asks_options a.kind && not (has_letter v.options (letter_of a.kind a.state)),
      filter.Options,
    )
    ∷ (is_recovery a.kind && v.sent == 0, filter.NoProblem)
    ∷ (
      is_problem a.kind && v.sent == 0
          && nat_lt a.moment (v.began + 60 * v.delay),
      filter.FirstDelay,
    )
    ∷ (is_of_problem a.kind && v.flapping, filter.Flapping)
    ∷ (not (is_told_in_downtime a.kind) && v.down, filter.Downtime)
    ∷ (
      is_problem a.kind && not v.renews && is_too_soon v.last a.state a.moment,
      filter.Interval,
    )
    ∷ (is_of_problem a.kind && v.host_problem, filter.HostDown)
    ∷ []

-- the first of an object's filters that fails, in the daemon's order or in this one
abbrev pub failing_by : (daemons : Bool) → Config → Zone → View → Attempt → Option Filter
failing_by daemons c zone v a =
    if daemons then first_failing (in_daemons_order c zone v a)
    else first_failing (in_own_order c zone v a)

-- the first of an object's filters that fails, by the order that is chosen
abbrev pub failing : Config → Zone → View → Attempt → Option Filter
failing c zone v a = failing_by c.choices.order c zone v a

-- a contact's filters in their order (the same chapter)
abbrev pub in_own_contact_order : Config → Zone → Rights → Attempt → (told : Option OptionLetters)
    → List (Bool × Filter)
in_own_contact_order c zone rights a told =
    (not rights.enabled, filter.ContactDisabled)
    ∷ (not (has_letter rights.options (letter_of a.kind a.state)), filter.ContactOptions)
    ∷ (not (in_period c zone rights.period a.moment), filter.ContactPeriod)
    ∷ (is_untold told rights.options, filter.ContactNotTold)
    ∷ []

-- and in the daemon's
abbrev pub in_daemons_contact_order : Config → Zone → Rights → Attempt
    → (told : Option OptionLetters) → List (Bool × Filter)
in_daemons_contact_order c zone rights a told =
    (not rights.enabled, filter.ContactDisabled)
    ∷ (not (in_period c zone rights.period a.moment), filter.ContactPeriod)
    ∷ (not (has_letter rights.options (letter_of a.kind a.state)), filter.ContactOptions)
    ∷ (is_untold told rights.options, filter.ContactNotTold)
    ∷ []

abbrev pub contact_failing_by : (daemons : Bool) → Config → Zone → Rights → Attempt
    → (told : Option OptionLetters) → Option Filter
contact_failing_by daemons c zone rights a told =
    if daemons then first_failing (in_daemons_contact_order c zone rights a told)
    else first_failing (in_own_contact_order c zone rights a told)

-- the first of a contact's filters that fails, by the order that is chosen
abbrev pub contact_failing : Config → Zone → Rights → Attempt → (told : Option OptionLetters)
    → Option Filter
contact_failing c zone rights a told = contact_failing_by c.choices.order c zone rights a told
