-- What an event attempts by a book, and what the outcomes of a problem come to.
use Rattle.std.proofs.Common.{◌≡◌, ℕ, ◌≤◌, Bool, true, false, ◌&&◌, ◌==◌, nat_lt, List, [], ◌∷◌, length, Option, Some, None, cond, is_some, if◌then◌else◌, refl, sym, ap, ◌∙◌, arith}
use Rattle.std.proofs.lemmas.List.Sums.{sum_by-cons}
use Rattle.due_model.specs.declared.config.Config.{Config}
use Rattle.due_model.specs.declared.config.Object.{Object}
use Rattle.due_model.specs.declared.event.DowntimeChange.{DowntimeChange}
use Rattle.due_model.specs.declared.event.DowntimeChange.TheVariants as change
use Rattle.due_model.specs.declared.event.Event.{Event}
use Rattle.due_model.specs.declared.event.EventKind.{EventKind}
use Rattle.due_model.specs.declared.event.EventKind.TheVariants as event
use Rattle.due_model.specs.declared.notice.Filter.{Filter}
use Rattle.due_model.specs.declared.notice.Kind.{Kind}
use Rattle.due_model.specs.declared.notice.Kind.TheVariants as kind
use Rattle.due_model.specs.declared.notice.Outcome.{Outcome}
use Rattle.due_model.specs.declared.notice.Outcome.TheVariants.{Nothing, Sent, Suppressed}
use Rattle.due_model.specs.declared.rules.Attempt.{Attempt}
use Rattle.due_model.specs.declared.rules.ObjectStatus.{ObjectStatus}
use Rattle.due_model.specs.declared.rules.View.{View}
use Rattle.due_model.specs.declared.state.State.{State}
use Rattle.due_model.specs.declared.zone.Zone.{Zone}
use Rattle.due_model.specs.claims.Readings.{is_ok_state, is_problem_of, is_problem_state, depth_changed, moment, hard, hard_after, begins}
use Rattle.due_model.specs.claims.Changes.{delayed}
use Rattle.due_model.specs.declared.notice.Reach.{Reach}
use Rattle.due_model.specs.claims.Rules.{attempted, attempted_by_flapping, downtime_kind, failing, has_come, is_problem, same_state}
use Rattle.due_model.specs.claims.Histories.{gap_of, hist, notice_of, notices_sent, number_after, of_problem, outcome_of, reach_of, is_service_of, ready, ready_or, repeats, status_after, timed, view, with_repeat}
use Rattle.problem_count.specs.claims.Book.{BookValues}
use Rattle.problem_count.specs.claims.Fits.{problem, released_after}
use Rattle.problem_count.specs.Fits.{ended_in, outcome_at, problem_before}
use Rattle.problem_count.specs.Laws.{is_of_problem_attempt, OutcomesAreByDue, ClockAttemptsByDue, ProblemsRun, RepeatsRun, CountsAreFew, CountsWithinAreFew}

-- whether what is attempted is a problem
abbrev is_problem_kind : Option Kind → Bool
is_problem_kind None = false
is_problem_kind (Some k) = is_problem k

-- the outcome of an attempt as this kind, by the filter that stops it
abbrev judged_by : Attempt → (number gap : ℕ) → Reach → Option Filter → Outcome
judged_by a number gap reach stopped = elim stopped as (λ _. Outcome) [
  | None ↦ Sent a.kind a.state number a.moment gap reach
  | Some why ↦ Suppressed a.kind a.state number a.moment why
]

judged_kind : (a : Attempt) (number gap : ℕ) (reach : Reach) (stopped : Option Filter) → is_of_problem_attempt (judged_by a number gap reach stopped) ≡ is_problem a.kind
judged_kind a number gap reach None = refl
judged_kind a number gap reach (Some why) = refl

-- an attempt becomes an outcome of its kind
outcome_kind : (c : Config) (zone : Zone) (o : ℕ) (object : Object) (e : Event) (past : List Event) (earlier : List Outcome) (over : Bool) (attempt : Option Kind)
    → is_of_problem_attempt (outcome_of c zone o object e past earlier over attempt) ≡ is_problem_kind attempt
outcome_kind c zone o object e past earlier over None = refl
outcome_kind c zone o object e past earlier over (Some k) =
    let v : View = view c zone o object e past earlier over in
    let a : Attempt = record { kind = k; state = hard o (e ∷ past); moment = moment (e ∷ past) } in
    judged_kind a (number_after v.sent k) (gap_of c zone o object a (number_after v.sent k)) (reach_of c zone o object v a (number_after v.sent k)) (failing c zone v a)

-- a hard problem state of the object is attempted as a problem

problem_by : (b p : Bool) (rest : Option Kind) → (b && p) ≡ true → is_problem_kind (if b then (if p then Some kind.Problem else rest) else None) ≡ true
problem_by true true rest h = refl
problem_by true false rest h = cc
problem_by false p rest h = cc

attempts_problem : (o : ℕ) (k : EventKind) (old : ObjectStatus) (due : Option ℕ) (t : ℕ) → is_problem_of o k ≡ true → is_problem_kind (attempted o k old due t) ≡ true
attempts_problem o event.Clock old due t h = cc
attempts_problem o (event.Program on) old due t h = cc
attempts_problem o (event.Hard p s) old due t h =
    problem_by (p.0 == o) (is_problem_state s) (if is_ok_state s && is_problem_state old.state then Some kind.Recovery else None) h
attempts_problem o (event.Downtime p change) old due t h = cc
attempts_problem o (event.Flapping p starts) old due t h = cc
attempts_problem o (event.Ack p ack) old due t h = cc
attempts_problem o (event.AckRemoved p) old due t h = cc
attempts_problem o (event.OwnSwitch p on) old due t h = cc

repeated_problem : (again : Bool) (attempt : Option Kind) → is_problem_kind attempt ≡ true → is_problem_kind (with_repeat again attempt) ≡ true
repeated_problem again None h = cc
repeated_problem again (Some k) h = h

pub problem_is_attempted : (c : Config) (zone : Zone) (o : ℕ) (object : Object) (e : Event) (past : List Event) → is_problem_of o e.kind ≡ true
    → is_of_problem_attempt (outcome_at c zone o object e past) ≡ true
problem_is_attempted c zone o object e past h =
    let due : Option ℕ = timed c (ready_or (released_after c zone o object past) (ready c zone object (delayed c o past) (problem c zone o object past))) in
    outcome_kind c zone o object e past (problem_before c zone o object e past) (ended_in c zone o object e past)
    (with_repeat (repeats c o e.kind past && is_problem_state (hard o past)) (attempted o e.kind (status_after o past) due (moment (e ∷ past))))
    ∙ repeated_problem (repeats c o e.kind past && is_problem_state (hard o past)) (attempted o e.kind (status_after o past) due (moment (e ∷ past)))
    (attempts_problem o e.kind (status_after o past) due (moment (e ∷ past)) h)

-- the state that a notice reports, or another where none goes out
abbrev reported : (other : State) → Outcome → State
reported other Nothing = other
reported other (Sent k s number t gap reach) = s
reported other (Suppressed k s number t why) = other

judged_state : (a : Attempt) (number gap : ℕ) (reach : Reach) (stopped : Option Filter) → reported a.state (judged_by a number gap reach stopped) ≡ a.state
judged_state a number gap reach None = refl
judged_state a number gap reach (Some why) = refl

outcome_state : (c : Config) (zone : Zone) (o : ℕ) (object : Object) (e : Event) (past : List Event) (earlier : List Outcome) (over : Bool) (attempt : Option Kind)
    → reported (hard o (e ∷ past)) (outcome_of c zone o object e past earlier over attempt) ≡ hard o (e ∷ past)
outcome_state c zone o object e past earlier over None = refl
outcome_state c zone o object e past earlier over (Some k) =
    let v : View = view c zone o object e past earlier over in
    let a : Attempt = record { kind = k; state = hard o (e ∷ past); moment = moment (e ∷ past) } in
    judged_state a (number_after v.sent k) (gap_of c zone o object a (number_after v.sent k)) (reach_of c zone o object v a (number_after v.sent k)) (failing c zone v a)

-- a notice reports the hard state
pub sent_state : (c : Config) (zone : Zone) (o : ℕ) (object : Object) (e : Event) (past : List Event) (s : State) (number t gap : ℕ) (reach : Reach)
    → outcome_at c zone o object e past ≡ Sent kind.Problem s number t gap reach → s ≡ hard o (e ∷ past)
sent_state c zone o object e past s number t gap reach is =
    sym (ap (reported (hard o (e ∷ past))) is)
    ∙ outcome_state c zone o object e past (problem_before c zone o object e past) (ended_in c zone o object e past)
    (with_repeat (repeats c o e.kind past && is_problem_state (hard o past))
    (attempted o e.kind (status_after o past) (timed c (ready_or (released_after c zone o object past) (ready c zone object (delayed c o past) (problem c zone o object past)))) (moment (e ∷ past))))

-- what is due where no problem runs isn't asked for

clock_by : (p : Bool) (due : Option ℕ) (t : ℕ)
    → (if p && has_come due t then Some kind.Problem else None) ≡ (if p && has_come (if p then due else None) t then Some kind.Problem else None)
clock_by true due t = refl
clock_by false due t = refl

-- b tells that the clock attempts nothing
timed_by : (b p : Bool) (due : Option ℕ) (t : ℕ)
    → (if p && has_come (if b then None else due) t then Some kind.Problem else None)
    ≡ (if p && has_come (if b then None else (if p then due else None)) t then Some kind.Problem else None)
timed_by true p due t = refl
timed_by false p due t = clock_by p due t

attempted_by_due : (c : Config) (o : ℕ) (k : EventKind) (old : ObjectStatus) (due : Option ℕ) (t : ℕ)
    → attempted o k old (timed c due) t ≡ attempted o k old (timed c (if is_problem_state old.state then due else None)) t
attempted_by_due c o event.Clock old due t = timed_by c.choices.at_results (is_problem_state old.state) due t
attempted_by_due c o (event.Program on) old due t = refl
attempted_by_due c o (event.Hard p s) old due t = refl
attempted_by_due c o (event.Downtime p change) old due t = refl
attempted_by_due c o (event.Flapping p starts) old due t = refl
attempted_by_due c o (event.Ack p ack) old due t = refl
attempted_by_due c o (event.AckRemoved p) old due t = refl
attempted_by_due c o (event.OwnSwitch p on) old due t = refl

pub outcomes_are_by_due : OutcomesAreByDue
outcomes_are_by_due c zone o object e past book fits =
    ap (λ (x : Option Kind). outcome_of c zone o object e past (problem_before c zone o object e past) (ended_in c zone o object e past)
    (with_repeat (repeats c o e.kind past && is_problem_state (hard o past)) x))
    (attempted_by_due c o e.kind (status_after o past) (ready_or (released_after c zone o object past) (ready c zone object (delayed c o past) (problem c zone o object past))) (moment (e ∷ past))
    ∙ sym (ap (λ (b : BookValues). attempted o e.kind (status_after o past) (timed c b.due) (moment (e ∷ past))) fits))

come_by : (p : Bool) (due : Option ℕ) (t : ℕ)
    → (if p && has_come (if p then due else None) t then Some kind.Problem else None) ≡ (if has_come (if p then due else None) t then Some kind.Problem else None)
come_by true due t = refl
come_by false due t = refl

timed_come_by : (b p : Bool) (due : Option ℕ) (t : ℕ)
    → (if p && has_come (if b then None else (if p then due else None)) t then Some kind.Problem else None)
    ≡ (if has_come (if b then None else (if p then due else None)) t then Some kind.Problem else None)
timed_come_by false p due t = come_by p due t
timed_come_by true true due t = refl
timed_come_by true false due t = refl

pub clock_attempts_by_due : ClockAttemptsByDue
clock_attempts_by_due c zone o object past book t fits =
    ap (λ (b : BookValues). attempted o event.Clock (status_after o past) (timed c b.due) t) fits
    ∙ timed_come_by c.choices.at_results (is_problem_state (hard o past)) (ready_or (released_after c zone o object past) (ready c zone object (delayed c o past) (problem c zone o object past))) t
    ∙ sym (ap (λ (b : BookValues). if has_come (timed c b.due) t then Some kind.Problem else None) fits)

-- a problem runs where one is attempted

abbrev Problem : Option Kind
Problem = Some kind.Problem

clock_runs : (p come : Bool) → (if p && come then Problem else None) ≡ Problem → p ≡ true
clock_runs true come h = refl
clock_runs false come h = cc

hard_runs : (b : Bool) (s old : State) (q r : Bool) → is_problem_state s ≡ q → (if b then (if q then Problem else (if r then Some kind.Recovery else None)) else None) ≡ Problem
    → is_problem_state (if b then s else old) ≡ true
hard_runs true s old true r is h = is
hard_runs true s old false true is h = cc
hard_runs true s old false false is h = cc
hard_runs false s old q r is h = cc

no_downtime : (b was now : Bool) (k : Kind) → is_problem k ≡ false
    → is_problem_kind (if b then (if was then (if now then None else Some k) else (if now then Some k else None)) else None) ≡ false
no_downtime true true true k h = refl
no_downtime true true false k h = h
no_downtime true false true k h = h
no_downtime true false false k h = refl
no_downtime false was now k h = refl

no_problem_kind : (c : DowntimeChange) → is_problem (downtime_kind c) ≡ false
no_problem_kind change.Start = refl
no_problem_kind change.End = refl
no_problem_kind change.Cancelled = refl

no_flapping : (b was : Bool) (starts : Bool) → is_problem_kind (if b then attempted_by_flapping was starts else None) ≡ false
no_flapping true true true = refl
no_flapping true true false = refl
no_flapping true false true = refl
no_flapping true false false = refl
no_flapping false was starts = refl

no_ack : (b p n : Bool) → is_problem_kind (if b then (if p && n then Some kind.Acknowledgement else None) else None) ≡ false
no_ack true true true = refl
no_ack true true false = refl
no_ack true false n = refl
no_ack false p n = refl

not_problem : (attempt : Option Kind) → is_problem_kind attempt ≡ false → attempt ≡ Problem → ⊥
not_problem attempt none h = let one : is_problem_kind attempt ≡ true = ap is_problem_kind h in cc

runs_by : (o : ℕ) (k : EventKind) (old : ObjectStatus) (due : Option ℕ) (t : ℕ) → attempted o k old due t ≡ Problem → is_problem_state (hard_after o k old.state) ≡ true
runs_by o event.Clock old due t h = clock_runs (is_problem_state old.state) (has_come due t) h
runs_by o (event.Program on) old due t h = cc
runs_by o (event.Hard p s) old due t h = hard_runs (p.0 == o) s old.state (is_problem_state s) (is_ok_state s && is_problem_state old.state) refl h
runs_by o (event.Downtime p change) old due t h =
    absurd (not_problem (attempted o (event.Downtime p change) old due t) (no_downtime (p.0 == o) (nat_lt 0 old.depth) (nat_lt 0 (depth_changed change old.depth)) (downtime_kind change) (no_problem_kind change)) h)
runs_by o (event.Flapping p starts) old due t h =
    absurd (not_problem (attempted o (event.Flapping p starts) old due t) (no_flapping (p.0 == o) old.flapping starts) h)
runs_by o (event.Ack p ack) old due t h =
    absurd (not_problem (attempted o (event.Ack p ack) old due t) (no_ack (p.0 == o) (is_problem_state old.state) ack.notify) h)
runs_by o (event.AckRemoved p) old due t h = cc
runs_by o (event.OwnSwitch p on) old due t h = cc

pub problems_run : ProblemsRun
problems_run = runs_by

repeat_runs : (choice of q same b p : Bool) (s old : State) → is_problem_state s ≡ q → (choice && of && q && same) ≡ true → is_problem_state old ≡ true → is_problem_state (if b then s else old) ≡ true
repeat_runs true true true same true p s old is h runs = is
repeat_runs true true true same false p s old is h runs = runs
repeat_runs true true false same b p s old is h runs = cc
repeat_runs true false q same b p s old is h runs = cc
repeat_runs false of q same b p s old is h runs = cc

pub repeats_run : RepeatsRun
repeats_run c o event.Clock past h runs = runs
repeats_run c o (event.Program on) past h runs = runs
repeats_run c o (event.Hard p s) past h runs =
    repeat_runs c.choices.host_repeats (is_service_of c p.0 o) (is_problem_state s) (same_state s (hard p.0 past)) (p.0 == o) true s (hard o past) refl h runs
repeats_run c o (event.Downtime p change) past h runs = runs
repeats_run c o (event.Flapping p starts) past h runs = runs
repeats_run c o (event.Ack p ack) past h runs = runs
repeats_run c o (event.AckRemoved p) past h runs = runs
repeats_run c o (event.OwnSwitch p on) past h runs = runs

-- no more notices go out than there are events

one_at_most : (b : Bool) → cond b 1 0 ≤ 1
one_at_most true = omega arith
one_at_most false = omega arith

few_of : (b : Bool) (outcomes : List Outcome) (n : ℕ) → notices_sent outcomes ≤ n → notices_sent (if b then [] else outcomes) ≤ n
few_of true outcomes n h = omega arith
few_of false outcomes n h = h

pub few : (o : ℕ) (past : List Event) (history : List Outcome) → notices_sent (of_problem o past history) ≤ length past
few o [] history = omega arith
few o (e ∷ past) [] = omega arith
few o (e ∷ past) (x ∷ history) =
    let earlier : List Outcome = if begins o e past then [] else of_problem o past history in
    let one = sum_by-cons (λ y. cond (is_some (notice_of y)) 1 0) x earlier in
    omega (arith, one, one_at_most (is_some (notice_of x)), few_of (begins o e past) (of_problem o past history) (length past) (few o past history))

pub counts_are_few : CountsAreFew
counts_are_few c zone o object past book fits = omega (arith, ap (λ (b : BookValues). b.sent) fits, few o past (hist c zone o object past))

pub counts_within_are_few : CountsWithinAreFew
counts_within_are_few c zone o object e past book fits =
    omega (arith, ap (λ (b : BookValues). b.sent) fits, few_of (begins o e past) (problem c zone o object past) (length past) (few o past (hist c zone o object past)))
