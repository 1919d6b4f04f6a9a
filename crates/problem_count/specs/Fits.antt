-- What a book stands for: the definitions' values after a past, and within an event.
use Rattle.std.specs.Prelude.{◌≡◌, ℕ, ◌+◌, ◌*◌, Bool, true, false, ◌&&◌, ◌||◌, List, [], ◌∷◌, Option, Some, None, if◌then◌else◌}
use Rattle.due_model.specs.declared.config.Choices.{Choices}
use Rattle.due_model.specs.declared.config.Config.{Config}
use Rattle.due_model.specs.declared.config.Object.{Object}
use Rattle.due_model.specs.declared.event.Event.{Event}
use Rattle.due_model.specs.declared.event.EventKind.TheVariants.{Hard}
use Rattle.due_model.specs.declared.notice.Filter.{Filter}
use Rattle.due_model.specs.declared.notice.Filter.TheVariants as filter
use Rattle.due_model.specs.declared.notice.Kind.TheVariants.{Problem}
use Rattle.due_model.specs.declared.notice.Reach.{Reach}
use Rattle.due_model.specs.declared.notice.Outcome.{Outcome}
use Rattle.due_model.specs.declared.notice.Outcome.TheVariants.{Sent, Suppressed}
use Rattle.due_model.specs.declared.state.State.{State}
use Rattle.due_model.specs.declared.zone.Zone.{Zone}
use Rattle.due_model.specs.claims.Periods.{next_in}
use Rattle.due_model.specs.claims.Readings.{hard, is_problem_of, is_problem_state, moment}
use Rattle.due_model.specs.claims.Changes.{delayed}
use Rattle.due_model.specs.claims.Histories.{before, down_with_host, ended, ended_at, hist, host_holds, lapses, waits_a_while, last_notice, notices_sent, outcome, ready, ready_or, released_by, told_letters}
use Rattle.due_model.specs.claims.Acknowledgements.{takes_back}
use Rattle.problem_count.specs.claims.Book.{BookValues}
use Rattle.problem_count.specs.claims.Fits.{problem, due_by, released_after, BookFits}

-- the outcomes of the problem that runs at an event, or ends there, from before that event
abbrev pub problem_before : Config → Zone → ℕ → Object → Event → List Event → List Outcome
problem_before c zone o object e past = before o e past (hist c zone o object past)

-- what becomes of the object at an event
abbrev pub outcome_at : Config → Zone → ℕ → Object → Event → List Event → Outcome
outcome_at c zone o object e past = outcome c zone o object e past (hist c zone o object past)

-- likewise, within an event
abbrev pub released_in : Config → Zone → ℕ → Object → Event → List Event → Option ℕ
released_in c zone o object e past =
    released_by false (takes_back o e past) (moment (e ∷ past)) (released_after c zone o object past)

-- likewise, within an event
abbrev pub ended_in : Config → Zone → ℕ → Object → Event → List Event → Bool
ended_in c zone o object e past = ended_at c zone o object e past (hist c zone o object past)

-- whether what becomes of the object at an event ends the wait after a last notice with a gap
abbrev pub lapses_at : Config → Zone → ℕ → Object → Event → List Event → Bool
lapses_at c zone o object e past =
    lapses c zone object (down_with_host o object (e ∷ past)) (host_holds c object (e ∷ past))
    (outcome_at c zone o object e past)

-- likewise, where what becomes of the event is counted for the wait alone
abbrev pub lapsed_in : Config → Zone → ℕ → Object → Event → List Event → Bool
lapsed_in c zone o object e past =
    ended_in c zone o object e past
    || (lapses_at c zone o object e past
    && waits_a_while (last_notice (problem_before c zone o object e past)))

-- the book within an event, before what becomes of it: with nothing due, where the event is a hard problem state
abbrev pub book_within : Config → Zone → ℕ → Object → Event → List Event → BookValues
book_within c zone o object e past = record {
  state = hard o (e ∷ past);
  began = delayed c o (e ∷ past);
  sent = notices_sent (problem_before c zone o object e past);
  last = last_notice (problem_before c zone o object e past);
  told = told_letters (problem_before c zone o object e past);
  ended = ended_in c zone o object e past;
  due = if is_problem_of o e.kind
      then None
      else due_by c zone object (hard o (e ∷ past)) (delayed c o (e ∷ past))
      (released_in c zone o object e past)
      (problem_before c zone o object e past);
}

-- likewise, within an event
abbrev pub BookFitsWithin : Config → Zone → ℕ → Object → Event → List Event → BookValues → Type 0
BookFitsWithin c zone o object e past book = book ≡ book_within c zone o object e past

-- likewise, once what becomes of the event is counted for the wait
abbrev pub BookFitsLapsed : Config → Zone → ℕ → Object → Event → List Event → BookValues → Type 0
BookFitsLapsed c zone o object e past book =
    book
    ≡ record (book_within c zone o object e past) { ended = lapsed_in c zone o object e past }

-- Whatever event the old book fits within, and whether what becomes of it ends the wait, the new one fits with that.
abbrev pub LapseFits : (lapses : Bool) → (old new : BookValues) → Type 0
LapseFits lapses old new =
    (c : Config) (zone : Zone) (o : ℕ) (object : Object) (e : Event) (past : List Event)
    → BookFitsWithin c zone o object e past old
    → lapses ≡ lapses_at c zone o object e past
    → BookFitsLapsed c zone o object e past new

-- the book fits the past of each object of which nothing happened
abbrev pub FitsNothing : BookValues → Type 0
FitsNothing book = (c : Config) (zone : Zone) (o : ℕ) (object : Object)
    → BookFits c zone o object [] book

-- Whatever past the old book fits, the new one fits within the event that gives the object this hard state at t.
abbrev pub HardFits : Choices → State → (t : ℕ) → (old new : BookValues) → Type 0
HardFits choices s t old new =
    (c : Config) (zone : Zone) (o : ℕ) (object : Object) (e : Event) (past : List Event)
    → BookFits c zone o object past old
    → choices ≡ c.choices → e.kind ≡ Hard (record { 0 = o }) s → t ≡ moment (e ∷ past)
    → BookFitsWithin c zone o object e past new

-- Whatever past the old book fits, the new one fits within the event that takes back the acknowledgement of the problem
-- at t.
abbrev pub ReleaseFits : (t : ℕ) → (old new : BookValues) → Type 0
ReleaseFits t old new =
    (c : Config) (zone : Zone) (o : ℕ) (object : Object) (e : Event) (past : List Event)
    → BookFits c zone o object past old
    → takes_back o e past ≡ true → t ≡ moment (e ∷ past)
    → BookFitsWithin c zone o object e past new

-- Whatever event the old book fits within, of which a problem notice goes out at t with this gap and counts, the new
-- one fits after it.
abbrev pub SentFits : (t gap : ℕ) → (old new : BookValues) → Type 0
SentFits t gap old new =
    (c : Config) (zone : Zone) (o : ℕ) (object : Object) (e : Event) (past : List Event)
    → BookFitsLapsed c zone o object e past old
    → (s : State) (number : ℕ) (reach : Reach)
    → outcome_at c zone o object e past ≡ Sent Problem s number t gap reach → reach.heard ≡ true
    → BookFits c zone o object (e ∷ past) new

-- the same, of one that doesn't count
abbrev pub UnheardFits : (t : ℕ) → (old new : BookValues) → Type 0
UnheardFits t old new =
    (c : Config) (zone : Zone) (o : ℕ) (object : Object) (e : Event) (past : List Event)
    → BookFitsLapsed c zone o object e past old
    → (s : State) (number gap : ℕ) (reach : Reach)
    → outcome_at c zone o object e past ≡ Sent Problem s number t gap reach → reach.heard ≡ false
    → BookFits c zone o object (e ∷ past) new

-- `next` is when a problem that began at that moment is attempted again, for the filters of which the configuration
-- says when
abbrev pub IsNextMoment : Config → Zone → Object → (began : ℕ) → Filter → (t : ℕ)
    → (next : Option ℕ) → Type 0
IsNextMoment c zone object began filter.Period t next = next ≡ next_in c zone object.period t
IsNextMoment c zone object began filter.FirstDelay t next =
    next ≡ Some (began + 60 * object.delay)
IsNextMoment c zone object began why t next = Unit {0}

-- Whatever event the old book fits within, at which this filter stops a problem at t, the new one fits after it.
abbrev pub SuppressedFits : Filter → (t : ℕ) → (next : Option ℕ) → (old new : BookValues) → Type 0
SuppressedFits why t next old new =
    (c : Config) (zone : Zone) (o : ℕ) (object : Object) (e : Event) (past : List Event)
    → BookFitsLapsed c zone o object e past old
    → (s : State) (number : ℕ)
    → outcome_at c zone o object e past ≡ Suppressed Problem s number t why
    → IsNextMoment c zone object old.began why t next
    → BookFits c zone o object (e ∷ past) new

-- Whatever past the book fits, this is the number of the next problem notice, if the problem runs.
abbrev pub NumberIsNext : BookValues → (number : ℕ) → Type 0
NumberIsNext book number =
    (c : Config) (zone : Zone) (o : ℕ) (object : Object) (past : List Event)
    → BookFits c zone o object past book
    → is_problem_state (hard o past) ≡ true
    → number ≡ notices_sent (problem c zone o object past) + 1

-- Whatever past the book fits, the clock next attempts the problem at this moment, if it runs.
abbrev pub DueIsReady : BookValues → (due : Option ℕ) → Type 0
DueIsReady book due =
    (c : Config) (zone : Zone) (o : ℕ) (object : Object) (past : List Event)
    → BookFits c zone o object past book
    → is_problem_state (hard o past) ≡ true
    → due ≡ ready_or (released_after c zone o object past)
    (ready c zone object (delayed c o past) (problem c zone o object past))
