-- What becomes of an object at each event. A history is the list of its outcomes, the newest first.
use Rattle.std.specs.Prelude.{ℕ, ◌+◌, ◌*◌, Bool, true, false, not, ◌==◌, slice_get, ◌&&◌, ◌||◌, List, [], ◌∷◌, count_by, Option, Some, None, is_some, unwrap_or, if◌then◌else◌}
use Rattle.due_model.specs.declared.config.Config.{Config}
use Rattle.due_model.specs.declared.config.Object.{Object}
use Rattle.due_model.specs.declared.event.Event.{Event}
use Rattle.due_model.specs.declared.event.EventKind.{EventKind}
use Rattle.due_model.specs.declared.event.EventKind.TheVariants as event
use Rattle.due_model.specs.declared.notice.Kind.{Kind}
use Rattle.due_model.specs.declared.notice.Kind.TheVariants as kind
use Rattle.due_model.specs.declared.notice.Filter.{Filter}
use Rattle.due_model.specs.declared.notice.Filter.TheVariants as filter
use Rattle.due_model.specs.declared.notice.Outcome.{Outcome}
use Rattle.due_model.specs.declared.notice.Outcome.TheVariants.{Nothing, Sent, Suppressed}
use Rattle.due_model.specs.declared.zone.Zone.{Zone}
use Rattle.due_model.specs.claims.Periods.{in_period, next_in}
use Rattle.due_model.specs.claims.Readings.{moment, program_on, hard, depth, down, flapping, begins, is_hard_of, is_problem_state, switched}
use Rattle.due_model.specs.claims.Changes.{changes, delayed}
use Rattle.due_model.specs.declared.notice.Reach.{Reach}
use Rattle.due_model.specs.declared.options.OptionLetters.{OptionLetters}
use Rattle.due_model.specs.claims.Acknowledgements.{acked, acknowledgement, takes_back}
use Rattle.due_model.specs.declared.rules.Last.{Last}
use Rattle.due_model.specs.declared.rules.ObjectStatus.{ObjectStatus}
use Rattle.due_model.specs.declared.rules.Attempt.{Attempt}
use Rattle.due_model.specs.declared.rules.View.{View}
use Rattle.due_model.specs.claims.Rules.{attempted, failing, is_problem, is_recovery, letter_of, next_notice, no_letter, same_state, state_letter, with_letter}
use Rattle.due_model.specs.claims.Receivers.{is_heard}
use Rattle.due_model.specs.claims.Escalations.{gap}
use Rattle.due_model.specs.claims.Dependencies.{dependency_fails}

-- The outcomes of the object's last problem: those at the places from Begin on, the newest first.
abbrev pub of_problem : ℕ → List Event → List Outcome → List Outcome
of_problem o [] history = []
of_problem o (e ∷ past) [] = []
of_problem o (e ∷ past) (outcome ∷ history) =
    outcome ∷ (if begins o e past then [] else of_problem o past history)

-- the outcomes of the problem that runs at an event, or ends there, from before that event
abbrev pub before : ℕ → Event → List Event → List Outcome → List Outcome
before o e past history = if begins o e past then [] else of_problem o past history

-- a problem notice that went out
abbrev pub notice_of : Outcome → Option Last
notice_of Nothing = None
notice_of (Sent k state number moment gap reach) =
    if is_problem k && reach.heard then Some (record { state = state; moment = moment; gap = gap }) else None
notice_of (Suppressed k state number moment why) = None

-- how many problem notices went out
abbrev pub notices_sent : List Outcome → ℕ
notices_sent history = count_by (λ outcome. is_some (notice_of outcome)) history

-- the last problem notice that went out
abbrev pub last_notice : List Outcome → Option Last
last_notice [] = None
last_notice (outcome ∷ history) =
    elim (notice_of outcome)
    as (λ _. Option Last) [ None ↦ last_notice history | Some last ↦ Some last ]

-- when the last notice may be followed by one of the same state
abbrev pub after_last : Option Last → Option ℕ
after_last None = None
after_last (Some last) = next_notice last.moment last.gap

-- When a problem is attempted again by the clock, after an attempt at a moment that this filter stopped; never, where
-- the problem is acknowledged. `last` is the last notice, `began` the moment at which the problem began.
abbrev pub retry_after : Config → Zone → Object → (began : ℕ) → Option Last → (moment : ℕ) → Filter
    → Option ℕ
retry_after c zone object began last m filter.Program = Some (m + 60)
retry_after c zone object began last m filter.Disabled = Some (m + 60)
retry_after c zone object began last m filter.Downtime = Some (m + 60)
retry_after c zone object began last m filter.Flapping = Some (m + 60)
retry_after c zone object began last m filter.Options = Some (m + 60)
retry_after c zone object began last m filter.NoProblem = Some (m + 60)
retry_after c zone object began last m filter.Period = next_in c zone object.period m
retry_after c zone object began last m filter.Dependency = Some (m + 60)
retry_after c zone object began last m filter.Acknowledged = None
retry_after c zone object began last m filter.FirstDelay = Some (began + 60 * object.delay)
retry_after c zone object began last m filter.Interval = after_last last
retry_after c zone object began last m filter.HostDown = Some (m + 60)
retry_after c zone object began last m filter.ContactDisabled = Some (m + 60)
retry_after c zone object began last m filter.ContactOptions = Some (m + 60)
retry_after c zone object began last m filter.ContactPeriod = Some (m + 60)
retry_after c zone object began last m filter.ContactNotTold = Some (m + 60)

-- the same, after a notice that went out: that of the next one, or a minute later where it doesn't count
abbrev pub after_notice : (moment gap : ℕ) → Reach → Option ℕ
after_notice moment gap reach =
    if reach.heard then next_notice moment gap else Some (moment + 60)

-- Ready: when the clock next attempts a problem, by its last attempt as a problem; never, where that says so
abbrev pub ready : Config → Zone → Object → (began : ℕ) → List Outcome → Option ℕ
ready c zone object began [] = None
ready c zone object began (Nothing ∷ history) = ready c zone object began history
ready c zone object began (Sent k state number moment gap reach ∷ history) =
    if is_problem k then after_notice moment gap reach else ready c zone object began history
ready c zone object began (Suppressed k state number moment why ∷ history) =
    if is_problem k then retry_after c zone object began (last_notice history) moment why
    else ready c zone object began history

-- whether an outcome is of an attempt as a problem
abbrev pub is_of_problem_attempt : Outcome → Bool
is_of_problem_attempt Nothing = false
is_of_problem_attempt (Sent k s number t gap reach) = is_problem k
is_of_problem_attempt (Suppressed k s number t why) = is_problem k

-- when an acknowledgement was taken back, with no attempt as a problem since: after an event that was such an attempt or
-- wasn't, and takes one back at this moment or doesn't
abbrev pub released_by : (attempts takes : Bool) → (m : ℕ) → Option ℕ → Option ℕ
released_by attempts takes m before = if attempts then None else (if takes then Some m else before)

abbrev pub released : ℕ → List Event → List Outcome → Option ℕ
released o [] history = None
released o (e ∷ past) [] = None
released o (e ∷ past) (outcome ∷ history) =
    released_by (is_of_problem_attempt outcome) (takes_back o e past) (moment (e ∷ past))
    (released o past history)

-- the ready moment, by the last attempt or where an acknowledgement was taken back since
abbrev pub ready_or : (released ready : Option ℕ) → Option ℕ
ready_or None ready = ready
ready_or (Some m) ready = Some m

-- the letters of the states of which a problem notice went out
abbrev pub told_letters : List Outcome → OptionLetters
told_letters [] = no_letter
told_letters (outcome ∷ history) = elim (notice_of outcome) as (λ _. OptionLetters) [
  | None ↦ told_letters history
  | Some last ↦ with_letter (state_letter last.state) (told_letters history)
]

-- the last notice, where its wait wasn't ended
abbrev pub waiting : (ended : Bool) → Option Last → Option Last
waiting ended last = if ended then None else last

-- the status of the object after the past
abbrev pub status_after : ℕ → List Event → ObjectStatus
status_after o past =
    record {
      state = hard o past;
      depth = depth o past;
      flapping = flapping o past;
      acknowledged = acknowledgement o past;
      switched = switched o past;
    }

-- whether the object's notifications are on: as its own switch says, and at first as the object text does
abbrev pub is_enabled : Object → (own : Option Bool) → Bool
is_enabled object own = unwrap_or own object.enabled

-- whether the object, or a service's host, is in downtime
abbrev pub down_with_host : ℕ → Object → List Event → Bool
down_with_host o object past =
    down o past || elim object.host as (λ _. Bool) [ None ↦ false | Some host ↦ down host.0 past ]

-- whether a service's host isn't UP, where that holds notices back
abbrev pub host_holds : Config → Object → List Event → Bool
host_holds c object past =
    c.choices.host_down
    && elim object.host as (λ _. Bool) [ None ↦ false | Some host ↦ is_problem_state (hard host.0 past) ]

-- whether a notification dependency of the object fails at an event; by the daemon's rule, of a service's host too
abbrev pub depends_at : Config → Zone → ℕ → Object → Event → List Event → Bool
depends_at c zone o object e past =
    dependency_fails c zone (λ master. hard master (e ∷ past)) (moment (e ∷ past)) o
    || (c.choices.host_dep && elim object.host as (λ _. Bool) [
      | None ↦ false
      | Some host ↦ dependency_fails c zone (λ master. hard master (e ∷ past)) (moment (e ∷ past)) host.0
    ])

-- whether the program switch stopped it
abbrev pub is_by_switch : Filter → Bool
is_by_switch filter.Program = true
is_by_switch why = false

-- whether an attempt that was stopped ends the wait after the last notice, by the daemon's rules: outside the object's
-- period, or while a service of interval 0 or its host is in downtime. While its host isn't UP (`held`) a service's
-- problem isn't attempted at all.
abbrev pub stop_lapses : Config → Zone → Object → (down held : Bool) → Kind → (moment : ℕ) → Filter
    → Bool
stop_lapses c zone object down held k moment why =
    not (is_problem k && held)
    && ((c.choices.period_wait
    && (is_problem k
    && (not (is_by_switch why) && not (in_period c zone object.period moment))))
    || (c.choices.downtime_wait
    && (not (is_recovery k) && (is_some object.host && (object.interval == 0 && down)))))

-- whether what became of an attempt does
abbrev pub lapses : Config → Zone → Object → (down held : Bool) → Outcome → Bool
lapses c zone object down held Nothing = false
lapses c zone object down held (Sent k state number moment gap reach) = false
lapses c zone object down held (Suppressed k state number moment why) =
    stop_lapses c zone object down held k moment why

-- whether there is a last notice, and its gap isn't 0
abbrev pub waits_a_while : Option Last → Bool
waits_a_while None = false
waits_a_while (Some last) = not (last.gap == 0)

-- whether the wait after the last notice is ended within an event, which was so before it: by the daemon's rule a change
-- of the hard state ends it
abbrev pub ended_within : Config → ℕ → Event → List Event → Bool → Bool
ended_within c o e past ended = ended || (c.choices.reset_wait && changes o e past)

-- the same after the event, of which this became, after this last notice
abbrev pub ended_by : Config → Zone → Object → (down held : Bool) → Option Last → Outcome → Bool → Bool
ended_by c zone object down held last x ended =
    not (is_some (notice_of x)) && (ended || (lapses c zone object down held x && waits_a_while last))

-- whether the wait after the last problem notice was ended since
abbrev pub ended : Config → Zone → ℕ → Object → List Event → List Outcome → Bool
ended c zone o object [] history = false
ended c zone o object (e ∷ past) [] = false
ended c zone o object (e ∷ past) (outcome ∷ history) =
    ended_by c zone object (down_with_host o object (e ∷ past)) (host_holds c object (e ∷ past))
    (last_notice (before o e past history)) outcome
    (ended_within c o e past (ended c zone o object past history))

-- the same, at an event, after that past and its history
abbrev pub ended_at : Config → Zone → ℕ → Object → Event → List Event → List Outcome → Bool
ended_at c zone o object e past history =
    ended_within c o e past (ended c zone o object past history)

-- what the filters read at an event, the event itself counted; `earlier` has the outcomes of the problem before it, and
-- the wait after its last notice is `over` or not
abbrev pub view : Config → Zone → ℕ → Object → Event → List Event → (earlier : List Outcome)
    → (over : Bool) → View
view c zone o object e past earlier over = record {
  program = program_on (e ∷ past);
  enabled = is_enabled object (switched o (e ∷ past));
  down = down_with_host o object (e ∷ past);
  flapping = flapping o (e ∷ past);
  options = object.options;
  sent = notices_sent earlier;
  period = object.period;
  depends = depends_at c zone o object e past;
  acknowledged = acked o (e ∷ past);
  began = delayed c o (e ∷ past);
  delay = object.delay;
  last = waiting over (last_notice earlier);
  renews = object.volatile && is_hard_of o e.kind;
  told = told_letters earlier;
  host_problem = host_holds c object (e ∷ past);
}

-- the number of a notification in its problem, after so many; 0 for the kinds that have none
abbrev pub number_after : ℕ → Kind → ℕ
number_after sent kind.Problem = sent + 1
number_after sent kind.Recovery = sent + 1
number_after sent kind.FlappingStart = 0
number_after sent kind.FlappingStop = 0
number_after sent kind.DowntimeStart = 0
number_after sent kind.DowntimeEnd = 0
number_after sent kind.DowntimeCancelled = 0
number_after sent kind.Acknowledgement = 0

-- the gap of a notice: only a problem's has one
abbrev pub gap_of : Config → Zone → ℕ → Object → Attempt → (number : ℕ) → ℕ
gap_of c zone o object a number =
    if is_problem a.kind then gap c zone o object number (letter_of a.kind a.state) a.moment else 0

-- the letters of the states told in the problem, for the recovery of a service by the daemon's rule
abbrev pub told_for : Config → Object → Kind → OptionLetters → Option OptionLetters
told_for c object k told =
    if c.choices.told && (is_recovery k && is_some object.host) then Some told else None

-- how far a notice reaches
abbrev pub reach_of : Config → Zone → ℕ → Object → View → Attempt → (number : ℕ) → Reach
reach_of c zone o object v a number = record {
  heard = is_heard c zone o object a number (told_for c object a.kind v.told) v.sent;
  told = told_for c object a.kind v.told;
  standing = v.sent;
}

-- what becomes of an attempt: the first failing filter suppresses it, else it goes out
abbrev pub judged : Config → Zone → ℕ → Object → View → Attempt → Outcome
judged c zone o object v a = elim (failing c zone v a) as (λ _. Outcome) [
  | None ↦ Sent a.kind a.state (number_after v.sent a.kind) a.moment
      (gap_of c zone o object a (number_after v.sent a.kind))
      (reach_of c zone o object v a (number_after v.sent a.kind))
  | Some why ↦ Suppressed a.kind a.state (number_after v.sent a.kind) a.moment why
]

-- what becomes of an event that attempts this kind, or nothing
abbrev pub outcome_of : Config → Zone → ℕ → Object → Event → List Event → (earlier : List Outcome)
    → (over : Bool) → Option Kind → Outcome
outcome_of c zone o object e past earlier over None = Nothing
outcome_of c zone o object e past earlier over (Some k) =
    judged c zone o object (view c zone o object e past earlier over)
    (record { kind = k; state = hard o (e ∷ past); moment = moment (e ∷ past) })

-- the ready moment, as the clock is asked for it: by the daemon's rule, never
abbrev pub timed : Config → Option ℕ → Option ℕ
timed c ready = if c.choices.at_results then None else ready

-- whether object p is a service of object o
abbrev pub is_service_of : Config → (p o : ℕ) → Bool
is_service_of c p o = elim (slice_get c.objects p) as (λ _. Bool) [
  | None ↦ false
  | Some service ↦ elim service.host as (λ _. Bool) [ None ↦ false | Some host ↦ host.0 == o ]
]

-- whether an event attempts the problem of object o again, by the daemon's rule: where a service of it has a problem
-- state, the same as before
abbrev pub repeats : Config → ℕ → EventKind → List Event → Bool
repeats c o event.Clock past = false
repeats c o (event.Program on) past = false
repeats c o (event.Hard p s) past =
    c.choices.host_repeats && is_service_of c p.0 o && is_problem_state s && same_state s (hard p.0 past)
repeats c o (event.Downtime p change) past = false
repeats c o (event.Flapping p starts) past = false
repeats c o (event.Ack p ack) past = false
repeats c o (event.AckRemoved p) past = false
repeats c o (event.OwnSwitch p on) past = false

-- what is attempted: a problem again, where nothing else is
abbrev pub with_repeat : Bool → Option Kind → Option Kind
with_repeat again None = if again then Some kind.Problem else None
with_repeat again (Some k) = Some k

-- Outcome: what becomes of the object at an event, after that past and its history
abbrev pub outcome : Config → Zone → ℕ → Object → Event → List Event → List Outcome → Outcome
outcome c zone o object e past history =
    outcome_of c zone o object e past (before o e past history)
    (ended_at c zone o object e past history)
    (with_repeat (repeats c o e.kind past && is_problem_state (hard o past))
    (attempted o e.kind (status_after o past)
    (timed c (ready_or (released o past history)
    (ready c zone object (delayed c o past) (of_problem o past history))))
    (moment (e ∷ past))))

-- the history with the outcome of one more event
abbrev pub longer : Config → Zone → ℕ → Object → Event → List Event → List Outcome → List Outcome
longer c zone o object e past history = outcome c zone o object e past history ∷ history

-- Hist: the outcomes of all events so far, the newest first
unfoldable pub hist : Config → Zone → ℕ → Object → List Event → List Outcome
hist c zone o object [] = []
hist c zone o object (e ∷ past) = longer c zone o object e past (hist c zone o object past)
