-- Laws of books, over every configuration, zone, object and past.
use Rattle.std.specs.Prelude.{◌≡◌, ℕ, ◌≤◌, Bool, true, false, ◌&&◌, List, ◌∷◌, length, Option, Some, None, ◌==◌, if◌then◌else◌}
use Rattle.due_model.specs.declared.config.Config.{Config}
use Rattle.due_model.specs.declared.config.Object.{Object}
use Rattle.due_model.specs.declared.event.Event.{Event}
use Rattle.due_model.specs.declared.event.EventKind.{EventKind}
use Rattle.due_model.specs.declared.event.EventKind.TheVariants.{Clock, Program, Hard, Downtime, Flapping, Ack, AckRemoved, OwnSwitch}
use Rattle.due_model.specs.declared.notice.Kind.TheVariants.{Problem}
use Rattle.due_model.specs.declared.notice.Outcome.TheVariants.{Nothing}
use Rattle.due_model.specs.declared.rules.ObjectStatus.{ObjectStatus}
use Rattle.due_model.specs.declared.zone.Zone.{Zone}
pub use Rattle.due_model.specs.claims.Readings.{is_hard_of}
use Rattle.due_model.specs.claims.Readings.{hard, hard_after, is_problem_state, moment}
use Rattle.due_model.specs.claims.Acknowledgements.{takes_back}
use Rattle.due_model.specs.claims.Rules.{attempted, has_come}
pub use Rattle.due_model.specs.claims.Histories.{is_of_problem_attempt}
use Rattle.due_model.specs.claims.Histories.{outcome_of, repeats, status_after, timed, with_repeat}
use Rattle.problem_count.specs.claims.Book.{BookValues}
use Rattle.problem_count.specs.claims.Fits.{BookFits}
use Rattle.problem_count.specs.Fits.{BookFitsLapsed, BookFitsWithin, ended_in, outcome_at, problem_before}

-- within an event that gives the object no hard state and takes no acknowledgement back a book still fits
abbrev pub OtherEventsFit : Type 0
OtherEventsFit =
    (c : Config) (zone : Zone) (o : ℕ) (object : Object) (e : Event) (past : List Event)
    (book : BookValues)
    → BookFits c zone o object past book
    → is_hard_of o e.kind ≡ false
    → takes_back o e past ≡ false
    → BookFitsWithin c zone o object e past book

-- a book fits after an event that becomes no attempt as a problem
abbrev pub OtherOutcomesFit : Type 0
OtherOutcomesFit =
    (c : Config) (zone : Zone) (o : ℕ) (object : Object) (e : Event) (past : List Event)
    (book : BookValues)
    → BookFitsLapsed c zone o object e past book
    → is_of_problem_attempt (outcome_at c zone o object e past) ≡ false
    → BookFits c zone o object (e ∷ past) book

-- whether an event at moment t names object o, or is the clock's with the object due by then
abbrev pub touches : ℕ → EventKind → (due : Option ℕ) → (t : ℕ) → Bool
touches o Clock due t = has_come due t
touches o (Program on) due t = false
touches o (Hard p s) due t = p.0 == o
touches o (Downtime p change) due t = p.0 == o
touches o (Flapping p starts) due t = p.0 == o
touches o (Ack p ack) due t = p.0 == o
touches o (AckRemoved p) due t = p.0 == o
touches o (OwnSwitch p on) due t = p.0 == o

-- Of an event that doesn't touch the object nothing becomes, and the book fits on.
abbrev pub UntouchedFit : Type 0
UntouchedFit =
    (c : Config) (zone : Zone) (o : ℕ) (object : Object) (e : Event) (past : List Event)
    (book : BookValues)
    → BookFits c zone o object past book
    → touches o e.kind book.due (moment (e ∷ past)) ≡ false
    → repeats c o e.kind past ≡ false
    → (outcome_at c zone o object e past ≡ Nothing) × BookFits c zone o object (e ∷ past) book

-- what becomes of an event is what it attempts by the moment at which the book is due
abbrev pub OutcomesAreByDue : Type 0
OutcomesAreByDue =
    (c : Config) (zone : Zone) (o : ℕ) (object : Object) (e : Event) (past : List Event)
    (book : BookValues)
    → BookFits c zone o object past book
    → outcome_at c zone o object e past
    ≡ outcome_of c zone o object e past (problem_before c zone o object e past)
    (ended_in c zone o object e past)
    (with_repeat (repeats c o e.kind past && is_problem_state (hard o past))
    (attempted o e.kind (status_after o past) (timed c book.due) (moment (e ∷ past))))

-- the clock attempts a problem exactly where the moment has come at which the book is due
abbrev pub ClockAttemptsByDue : Type 0
ClockAttemptsByDue =
    (c : Config) (zone : Zone) (o : ℕ) (object : Object) (past : List Event) (book : BookValues)
    (t : ℕ)
    → BookFits c zone o object past book
    → attempted o Clock (status_after o past) (timed c book.due) t
    ≡ (if has_come (timed c book.due) t then Some Problem else None)

-- a problem runs after an event that is attempted as one, whenever it is due
abbrev pub ProblemsRun : Type 0
ProblemsRun =
    (o : ℕ) (k : EventKind) (old : ObjectStatus) (due : Option ℕ) (t : ℕ)
    → attempted o k old due t ≡ Some Problem
    → is_problem_state (hard_after o k old.state) ≡ true

-- so does it after an event that attempts the problem again
abbrev pub RepeatsRun : Type 0
RepeatsRun =
    (c : Config) (o : ℕ) (k : EventKind) (past : List Event)
    → repeats c o k past ≡ true
    → is_problem_state (hard o past) ≡ true
    → is_problem_state (hard_after o k (hard o past)) ≡ true

-- no more notices went out than there were events
abbrev pub CountsAreFew : Type 0
CountsAreFew =
    (c : Config) (zone : Zone) (o : ℕ) (object : Object) (past : List Event) (book : BookValues)
    → BookFits c zone o object past book
    → book.sent ≤ length past

-- nor within an event, than before it
abbrev pub CountsWithinAreFew : Type 0
CountsWithinAreFew =
    (c : Config) (zone : Zone) (o : ℕ) (object : Object) (e : Event) (past : List Event)
    (book : BookValues)
    → BookFitsWithin c zone o object e past book
    → book.sent ≤ length past
