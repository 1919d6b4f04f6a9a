-- What an event finds is what the definitions read, and what becomes of it is told to the book.
use Rattle.std.proofs.Common.{◌≡◌, ℕ, ◌<◌, ◌≤◌, get_or, length, nat_lt, ◌||◌, ◌&&◌, Bool, true, false, List, ◌∷◌, Option, Some, None, is_some, if◌then◌else◌, refl, sym, ap, subst, ◌∙◌, arith}
use Rattle.std.proofs.lemmas.List.{get_or_default}
use Rattle.due_model.specs.declared.config.Choices.{Choices}
use Rattle.due_model.specs.declared.config.Config.{Config}
use Rattle.due_model.specs.declared.notice.Reach.{Reach}
use Rattle.due_model.specs.declared.rules.Attempt.{Attempt}
use Rattle.due_model.specs.declared.config.Object.{Object}
use Rattle.due_model.specs.declared.config.PeriodId.{PeriodId}
use Rattle.due_model.specs.declared.event.Event.{Event}
use Rattle.due_model.specs.declared.notice.Filter.{Filter}
use Rattle.due_model.specs.declared.notice.Kind.{Kind}
use Rattle.due_model.specs.declared.notice.Kind.TheVariants as kind
use Rattle.due_model.specs.declared.notice.Outcome.{Outcome}
use Rattle.due_model.specs.declared.notice.Outcome.TheVariants.{Nothing, Sent, Suppressed}
use Rattle.due_model.specs.declared.rules.View.{View}
use Rattle.due_model.specs.declared.state.State.{State}
use Rattle.due_model.specs.declared.zone.Zone.{Zone}
use Rattle.due_model.specs.claims.Acknowledgements.{acked, acknowledgement, is_removal_of, takes_back}
use Rattle.due_model.specs.declared.event.EventKind.{EventKind}
use Rattle.due_model.specs.declared.event.EventKind.TheVariants as event
use Rattle.due_model.specs.claims.Histories.{down_with_host, gap_of, host_holds, judged, lapses, number_after, repeats, with_repeat, outcome_of, reach_of, status_after, timed, view}
use Rattle.due_model.specs.claims.Periods.{first_passing, next_in}
use Rattle.due_model.specs.claims.Readings.{hard, hard_after, is_problem_state, moment}
use Rattle.due_model.specs.claims.Rules.{attempted, failing, is_problem}
use Rattle.lemmas.proofs.Acknowledgements.{acked_is}
use Rattle.outcomes.specs.declared.found.Found.{Found}
use Rattle.outcomes.specs.Found.{IsFound, attempt_by, tried, view_by}
use Rattle.outcomes.specs.Outcome.{IsInRange, IsOfKind, heard_of, with_heard}
use Rattle.problem_count.specs.claims.Book.{BookValues}
use Rattle.problem_count.specs.Book.{after_hard, begins_problem}
use Rattle.problem_count.specs.claims.Fits.{BookFits}
use Rattle.problem_count.specs.Fits.{BookFitsWithin, ended_in, lapses_at, outcome_at, problem_before}
use Rattle.problem_count.specs.Laws.{OutcomesAreByDue, ProblemsRun, is_of_problem_attempt}
use Rattle.time_period.specs.claims.Days.{AreCompiled, IsCompiled, never, Worked}

-- ---- a period that is worked out

pub compiled_at : (c : Config) (all : List Worked) (p : PeriodId) (worked : Worked) → AreCompiled c all → p.0 < length c.periods → worked ≡ get_or all p.0 worked → IsCompiled c p worked
compiled_at c all p worked are known is =
    let same : worked ≡ get_or all p.0 never = is ∙ get_or_default all p.0 worked never (omega (arith, known, are.0)) in
    subst (IsCompiled c p) (sym same) (are.1 p known)

-- ---- a hard state in the book

pub hard_state : (choices : Choices) (s : State) (t : ℕ) (book : BookValues) → (after_hard choices s t book).state ≡ s
hard_state choices s t book = refl

sent_by : (b : Bool) (sent : ℕ) → (if b then 0 else sent) ≤ sent
sent_by true sent = omega arith
sent_by false sent = omega arith

pub hard_sent : (choices : Choices) (s : State) (t : ℕ) (book : BookValues) → (after_hard choices s t book).sent ≤ book.sent
hard_sent choices s t book = sent_by (begins_problem s book) book.sent

-- ---- an acknowledgement that is taken back

pub takes_is : (o : ℕ) (k : EventKind) (e : Event) (past : List Event) (ack : Option Bool) → k ≡ e.kind → ack ≡ acknowledgement o past
    → takes_back o e past ≡ (is_removal_of o k && is_some ack)
takes_is o k e past ack says is =
    ap (λ (x : EventKind). is_removal_of o x && acked o past) (sym says)
    ∙ ap (λ (b : Bool). is_removal_of o k && b) (acked_is o past ∙ ap is_some (sym is))

-- it leaves the hard state
pub removal_state : (o : ℕ) (k : EventKind) (old : State) → is_removal_of o k ≡ true → hard_after o k old ≡ old
removal_state o event.Clock old is = refl
removal_state o (event.Program on) old is = refl
removal_state o (event.Hard p s) old is = cc
removal_state o (event.Downtime p change) old is = refl
removal_state o (event.Flapping p starts) old is = refl
removal_state o (event.Ack p ack) old is = refl
removal_state o (event.AckRemoved p) old is = refl
removal_state o (event.OwnSwitch p on) old is = refl

-- ---- what the filters read

pub view_is : (c : Config) (zone : Zone) (o : ℕ) (settings : Object) (e : Event) (past : List Event) (found : Found) (book : BookValues)
    → IsFound c zone o settings e past found → BookFitsWithin c zone o settings e past book
    → view_by o settings found book ≡ view c zone o settings e past (problem_before c zone o settings e past) (ended_in c zone o settings e past)
view_is c zone o settings e past found book is fits =
    by_found ∙ ap with_ack (sym (acked_is o (e ∷ past)))
  where
    with_ack : Bool → View
    with_ack acknowledged = record (view c zone o settings e past (problem_before c zone o settings e past) (ended_in c zone o settings e past)) { acknowledged = acknowledged }

    by_found : view_by o settings found book ≡ with_ack (is_some (acknowledgement o (e ∷ past)))
    by_found = rw (is.event, is.program, is.after, is.host_down, is.depends, is.host_problem, fits) refl

pub attempt_is : (c : Config) (zone : Zone) (o : ℕ) (settings : Object) (e : Event) (past : List Event) (found : Found) (k : Kind)
    → IsFound c zone o settings e past found
    → attempt_by found k ≡ record { kind = k; state = hard o (e ∷ past); moment = moment (e ∷ past) }
attempt_is c zone o settings e past found k is = rw (is.after, is.at) refl

-- what is attempted by what was found and kept is attempted by the definitions
pub attempted_is : (c : Config) (zone : Zone) (o : ℕ) (settings : Object) (e : Event) (past : List Event) (found : Found) (due : Option ℕ)
    → IsFound c zone o settings e past found
    → tried o found due ≡ with_repeat (repeats c o e.kind past && is_problem_state (hard o past)) (attempted o e.kind (status_after o past) due (moment (e ∷ past)))
attempted_is c zone o settings e past found due is = rw (is.event, is.before, is.at, is.repeats) refl

-- whether the outcome ends the wait
lapses_heard : (c : Config) (zone : Zone) (object : Object) (down held heard : Bool) (x : Outcome) → lapses c zone object down held x ≡ lapses c zone object down held (with_heard heard x)
lapses_heard c zone object down held heard Nothing = refl
lapses_heard c zone object down held heard (Sent k s n t gap reach) = refl
lapses_heard c zone object down held heard (Suppressed k s n t why) = refl

pub lapses_is : (c : Config) (zone : Zone) (o : ℕ) (settings : Object) (e : Event) (past : List Event) (found : Found) (heard : Bool) (outcome : Outcome)
    → IsFound c zone o settings e past found → outcome_at c zone o settings e past ≡ with_heard heard outcome
    → lapses c zone settings (nat_lt 0 found.after.depth || found.host_down) found.host_problem outcome ≡ lapses_at c zone o settings e past
lapses_is c zone o settings e past found heard outcome is same =
    let down : (nat_lt 0 found.after.depth || found.host_down) ≡ down_with_host o settings (e ∷ past) = rw (is.after, is.host_down) refl in
    ap (λ (b : Bool). lapses c zone settings b found.host_problem outcome) down
    ∙ ap (λ (b : Bool). lapses c zone settings (down_with_host o settings (e ∷ past)) b outcome) is.host_problem
    ∙ lapses_heard c zone settings (down_with_host o settings (e ∷ past)) (host_holds c settings (e ∷ past)) heard outcome
    ∙ sym (ap (lapses c zone settings (down_with_host o settings (e ∷ past)) (host_holds c settings (e ∷ past))) same)

-- what becomes of an attempt
pub outcome_is : (c : Config) (zone : Zone) (o : ℕ) (settings : Object) (e : Event) (past : List Event) (found : Found) (book begun : BookValues) (k : Kind)
    → OutcomesAreByDue → IsFound c zone o settings e past found → BookFits c zone o settings past book → BookFitsWithin c zone o settings e past begun
    → tried o found (timed c book.due) ≡ Some k
    → judged c zone o settings (view_by o settings found begun) (attempt_by found k) ≡ outcome_at c zone o settings e past
outcome_is c zone o settings e past found book begun k laws is fits within tries =
    ap (λ v. judged c zone o settings v (attempt_by found k)) (view_is c zone o settings e past found begun is within)
    ∙ ap (judged c zone o settings (view c zone o settings e past (problem_before c zone o settings e past) (ended_in c zone o settings e past))) (attempt_is c zone o settings e past found k is)
    ∙ ap (outcome_of c zone o settings e past (problem_before c zone o settings e past) (ended_in c zone o settings e past)) (sym tries ∙ attempted_is c zone o settings e past found (timed c book.due) is)
    ∙ sym (laws c zone o settings e past book fits)

-- and where nothing is attempted
pub nothing_is : (c : Config) (zone : Zone) (o : ℕ) (settings : Object) (e : Event) (past : List Event) (found : Found) (book : BookValues)
    → OutcomesAreByDue → IsFound c zone o settings e past found → BookFits c zone o settings past book
    → tried o found (timed c book.due) ≡ None
    → Nothing ≡ outcome_at c zone o settings e past
nothing_is c zone o settings e past found book laws is fits none =
    ap (outcome_of c zone o settings e past (problem_before c zone o settings e past) (ended_in c zone o settings e past)) (sym none ∙ attempted_is c zone o settings e past found (timed c book.due) is)
    ∙ sym (laws c zone o settings e past book fits)

-- ---- outcomes of a kind

pub is_the_problem : (k : Kind) → is_problem k ≡ true → k ≡ kind.Problem
is_the_problem kind.Problem h = refl
is_the_problem kind.Recovery h = cc
is_the_problem kind.FlappingStart h = cc
is_the_problem kind.FlappingStop h = cc
is_the_problem kind.DowntimeStart h = cc
is_the_problem kind.DowntimeEnd h = cc
is_the_problem kind.DowntimeCancelled h = cc
is_the_problem kind.Acknowledgement h = cc

-- a problem that is tried runs
tried_by : (o : ℕ) (found : Found) (due : Option ℕ) (k : Kind) (r p : Bool) (first : Option Kind) → ProblemsRun
    → (r ≡ true → p ≡ true → is_problem_state (hard_after o found.event found.before.state) ≡ true)
    → attempted o found.event found.before due found.moment ≡ first → with_repeat (r && p) first ≡ Some k → is_problem k ≡ true
    → is_problem_state (hard_after o found.event found.before.state) ≡ true
tried_by o found due k r p (Some j) laws again is same problem =
    laws o found.event found.before due found.moment (is ∙ same ∙ ap (λ (x : Kind). Some x) (is_the_problem k problem))
tried_by o found due k true true None laws again is same problem = again refl refl
tried_by o found due k true false None laws again is same problem = cc
tried_by o found due k false p None laws again is same problem = cc

pub tried_runs : (o : ℕ) (found : Found) (due : Option ℕ) (k : Kind) → ProblemsRun
    → (found.repeats ≡ true → is_problem_state found.before.state ≡ true → is_problem_state (hard_after o found.event found.before.state) ≡ true)
    → tried o found due ≡ Some k → is_problem k ≡ true → is_problem_state (hard_after o found.event found.before.state) ≡ true
tried_runs o found due k laws again same problem =
    tried_by o found due k found.repeats (is_problem_state found.before.state) (attempted o found.event found.before due found.moment) laws again refl same problem

pub of_no_problem : (k : Kind) (outcome : Outcome) → is_problem k ≡ false → IsOfKind k outcome → is_of_problem_attempt outcome ≡ false
of_no_problem k Nothing none is = elim is [ ]
of_no_problem k (Sent l s n t gap reach) none is = ap is_problem is ∙ none
of_no_problem k (Suppressed l s n t why) none is = ap is_problem is ∙ none

pub sent_is : (k l : Kind) (outcome : Outcome) (s : State) (n t gap : ℕ) (reach : Reach) → outcome ≡ Sent l s n t gap reach → is_problem k ≡ true → IsOfKind k outcome
    → outcome ≡ Sent kind.Problem s n t gap reach
sent_is k l outcome s n t gap reach is problem of =
    let same : l ≡ k = subst (IsOfKind k) is of in
    is ∙ ap (λ (j : Kind). Sent j s n t gap reach) (same ∙ is_the_problem k problem)

pub suppressed_is : (k l : Kind) (outcome : Outcome) (s : State) (n t : ℕ) (why : Filter) → outcome ≡ Suppressed l s n t why → is_problem k ≡ true → IsOfKind k outcome
    → outcome ≡ Suppressed kind.Problem s n t why
suppressed_is k l outcome s n t why is problem of =
    let same : l ≡ k = subst (IsOfKind k) is of in
    is ∙ ap (λ (j : Kind). Suppressed j s n t why) (same ∙ is_the_problem k problem)

-- ---- whether a notice counts

-- the outcome of an attempt, by the filter that stops it
judged_heard : (c : Config) (zone : Zone) (o : ℕ) (object : Object) (v : View) (a : Attempt) (stopped : Option Filter)
    → (λ (x : Outcome). x ≡ with_heard (heard_of c zone o object (with_heard true x)) (with_heard true x))
    (elim stopped as (λ _. Outcome) [
      | None ↦ Sent a.kind a.state (number_after v.sent a.kind) a.moment (gap_of c zone o object a (number_after v.sent a.kind)) (reach_of c zone o object v a (number_after v.sent a.kind))
      | Some why ↦ Suppressed a.kind a.state (number_after v.sent a.kind) a.moment why
    ])
judged_heard c zone o object v a None = refl
judged_heard c zone o object v a (Some why) = refl

-- a judged outcome is the one of which it is known whether its notice counts
pub heard_is : (c : Config) (zone : Zone) (o : ℕ) (object : Object) (v : View) (a : Attempt) (outcome there : Outcome)
    → outcome ≡ with_heard true (judged c zone o object v a) → judged c zone o object v a ≡ there
    → there ≡ with_heard (heard_of c zone o object outcome) outcome
heard_is c zone o object v a outcome there is same =
    sym same ∙ judged_heard c zone o object v a (failing c zone v a)
    ∙ sym (ap (λ (x : Outcome). with_heard (heard_of c zone o object x) x) is)

pub kind_heard : (k : Kind) (heard : Bool) (x : Outcome) → IsOfKind k x → IsOfKind k (with_heard heard x)
kind_heard k heard Nothing is = is
kind_heard k heard (Sent l s n t gap reach) is = is
kind_heard k heard (Suppressed l s n t why) is = is

pub range_heard : (heard : Bool) (x : Outcome) → IsInRange x → IsInRange (with_heard heard x)
range_heard heard Nothing is = is
range_heard heard (Sent l s n t gap reach) is = is
range_heard heard (Suppressed l s n t why) is = is

-- ---- the settings of an object

-- without a period the next moment is this one
pub always_now : (c : Config) (zone : Zone) (t : ℕ) → Some t ≡ next_in c zone None t
unfolding next_in first_passing
always_now c zone t = refl
