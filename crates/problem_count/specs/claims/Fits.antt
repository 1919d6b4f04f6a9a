-- What a book stands for: the definitions' values after a past, and within an event.
use Rattle.std.specs.Prelude.{◌≡◌, ℕ, Bool, List, Option, None, if◌then◌else◌}
use Rattle.due_model.specs.declared.config.Config.{Config}
use Rattle.due_model.specs.declared.config.Object.{Object}
use Rattle.due_model.specs.declared.event.Event.{Event}
use Rattle.due_model.specs.declared.notice.Outcome.{Outcome}
use Rattle.due_model.specs.declared.state.State.{State}
use Rattle.due_model.specs.declared.zone.Zone.{Zone}
use Rattle.due_model.specs.claims.Readings.{hard, is_problem_state, moment}
use Rattle.due_model.specs.claims.Changes.{delayed}
use Rattle.due_model.specs.claims.Histories.{ended, hist, last_notice, notices_sent, of_problem, ready, ready_or, released, told_letters}
use Rattle.problem_count.specs.claims.Book.{BookValues}

-- the outcomes of the object's last problem, the newest first
abbrev pub problem : Config → Zone → ℕ → Object → List Event → List Outcome
problem c zone o object past = of_problem o past (hist c zone o object past)

-- Ready, of an object in this state whose first delay runs since that moment and whose last problem had these outcomes,
-- where an acknowledgement was taken back since or wasn't; never, where no problem runs
abbrev pub due_by : Config → Zone → Object → State → (began : ℕ) → (released : Option ℕ)
    → List Outcome → Option ℕ
due_by c zone object s began released outcomes =
    if is_problem_state s then ready_or released (ready c zone object began outcomes) else None

-- when an acknowledgement was taken back, with no attempt as a problem since
abbrev pub released_after : Config → Zone → ℕ → Object → List Event → Option ℕ
released_after c zone o object past = released o past (hist c zone o object past)

-- whether the wait after the last notice was ended since
abbrev pub ended_after : Config → Zone → ℕ → Object → List Event → Bool
ended_after c zone o object past = ended c zone o object past (hist c zone o object past)

-- the book of object o after a past
abbrev pub book_of : Config → Zone → ℕ → Object → List Event → BookValues
book_of c zone o object past = record {
  state = hard o past;
  began = delayed c o past;
  sent = notices_sent (problem c zone o object past);
  last = last_notice (problem c zone o object past);
  told = told_letters (problem c zone o object past);
  ended = ended_after c zone o object past;
  due = due_by c zone object (hard o past) (delayed c o past) (released_after c zone o object past)
      (problem c zone o object past);
}

-- Fits: each value that is kept is the definitions' after this past.
abbrev pub BookFits : Config → Zone → ℕ → Object → List Event → BookValues → Type 0
BookFits c zone o object past book = book ≡ book_of c zone o object past
