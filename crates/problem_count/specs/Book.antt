-- What a book is to its callers, and what each call makes of it.
use Rattle.std.specs.Prelude.{ℕ, ◌+◌, ◌*◌, ◌≤◌, Bool, false, not, ◌&&◌, ◌||◌, Option, Some, None, IfSome, if◌then◌else◌}
use Rattle.due_model.specs.declared.config.Choices.{Choices}
use Rattle.due_model.specs.declared.notice.Filter.{Filter}
use Rattle.due_model.specs.declared.notice.Filter.TheVariants as filter
use Rattle.due_model.specs.declared.rules.Last.{Last}
use Rattle.due_model.specs.declared.state.State.{State}
use Rattle.due_model.specs.claims.Limits.{last_moment, max_number}
use Rattle.due_model.specs.claims.Readings.{is_problem_state}
use Rattle.due_model.specs.claims.Rules.{next_notice, no_letter, same_state, state_letter, with_letter}
use Rattle.due_model.specs.claims.Histories.{after_last}
use Rattle.problem_count.specs.claims.Book.{BookValues}

-- a problem state after an OK or a pending one
abbrev pub begins_problem : State → BookValues → Bool
begins_problem s book = is_problem_state s && not (is_problem_state book.state)

-- whether the hard state changes
abbrev pub is_change : State → BookValues → Bool
is_change s book = not (same_state s book.state)

-- whether the first delay runs anew
abbrev pub delays_by : Choices → State → BookValues → Bool
delays_by choices s book = if choices.delay then is_change s book else begins_problem s book

-- the book without the notices of its problem, where another begins
abbrev pub emptied : (begins : Bool) → BookValues → BookValues
emptied begins book = record book {
  sent = if begins then 0 else book.sent;
  last = if begins then None else book.last;
  told = if begins then no_letter else book.told;
}

-- the book with a first delay that runs from moment t, where it runs anew
abbrev pub delayed_from : (anew : Bool) → (t : ℕ) → BookValues → BookValues
delayed_from anew t book = record book { began = if anew then t else book.began }

-- the book in this hard state, of which nothing is due, and of which the wait was ended or not
abbrev pub stated : State → (ended : Bool) → BookValues → BookValues
stated s ended book = record book { state = s; ended = ended; due = None }

-- the book of an object that has this hard state at moment t: of an empty problem where one begins
abbrev pub after_hard : Choices → State → (t : ℕ) → BookValues → BookValues
after_hard choices s t book = record {
  state = s;
  began = if delays_by choices s book then t else book.began;
  sent = if begins_problem s book then 0 else book.sent;
  last = if begins_problem s book then None else book.last;
  told = if begins_problem s book then no_letter else book.told;
  ended = book.ended || (choices.reset_wait && is_change s book);
  due = None;
}

-- the book once the acknowledgement of the problem is taken back at moment t
abbrev pub after_release : (t : ℕ) → BookValues → BookValues
after_release t book = record book { due = if is_problem_state book.state then Some t else None }

-- the book after a problem notice that counts, at moment t with this gap
abbrev pub after_sent : (t gap : ℕ) → BookValues → BookValues
after_sent t gap book = record {
  state = book.state;
  began = book.began;
  sent = book.sent + 1;
  last = Some (record { state = book.state; moment = t; gap = gap });
  told = with_letter (state_letter book.state) book.told;
  ended = false;
  due = next_notice t gap;
}

-- the number of the running problem's next notice
abbrev pub number_of : BookValues → ℕ
number_of book = if is_problem_state book.state then book.sent + 1 else 1

-- when a problem is attempted again, after an attempt at moment t that this filter stopped; `next` has it for
-- the filters of which the configuration says when
abbrev pub retry_by : Option Last → (t : ℕ) → (next : Option ℕ) → Filter → Option ℕ
retry_by last t next filter.Program = Some (t + 60)
retry_by last t next filter.Disabled = Some (t + 60)
retry_by last t next filter.Downtime = Some (t + 60)
retry_by last t next filter.Flapping = Some (t + 60)
retry_by last t next filter.Options = Some (t + 60)
retry_by last t next filter.NoProblem = Some (t + 60)
retry_by last t next filter.Period = next
retry_by last t next filter.Dependency = Some (t + 60)
retry_by last t next filter.Acknowledged = None
retry_by last t next filter.FirstDelay = next
retry_by last t next filter.Interval = after_last last
retry_by last t next filter.HostDown = Some (t + 60)
retry_by last t next filter.ContactDisabled = Some (t + 60)
retry_by last t next filter.ContactOptions = Some (t + 60)
retry_by last t next filter.ContactPeriod = Some (t + 60)
retry_by last t next filter.ContactNotTold = Some (t + 60)

-- the greatest gap that a configuration can give, in seconds
abbrev pub longest_gap : ℕ
longest_gap = 60 * max_number

-- a notice that went out in time, with a gap that a configuration can give
abbrev pub LastIsInRange : Option Last → Type 0
LastIsInRange last = IfSome last (λ l. (l.moment ≤ last_moment) × (l.gap ≤ longest_gap))
