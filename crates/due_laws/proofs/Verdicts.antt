-- What follows from the verdict on an attempt, and which outcomes an event can have.
use Rattle.std.proofs.Common.{◌≡◌, ℕ, ◌+◌, ◌*◌, Bool, true, false, not, ◌&&◌, nat_lt, ◌==◌, List, [], ◌∷◌, Option, None, Some, refl}
use Rattle.std.proofs.lemmas.Bool.{not-false}
use Rattle.due_model.specs.declared.config.Config.{Config}
use Rattle.due_model.specs.declared.config.Object.{Object}
use Rattle.due_model.specs.declared.event.Event.{Event}
use Rattle.due_model.specs.declared.notice.Filter.{Filter}
use Rattle.due_model.specs.declared.notice.Filter.TheVariants as why
use Rattle.due_model.specs.declared.notice.Kind.{Kind}
use Rattle.due_model.specs.declared.notice.Kind.TheVariants as kind
use Rattle.due_model.specs.declared.notice.Outcome.{Outcome}
use Rattle.due_model.specs.declared.notice.Outcome.TheVariants.{Nothing, Sent, Suppressed}
use Rattle.due_model.specs.declared.zone.Zone.{Zone}
use Rattle.due_model.specs.claims.Histories.{before, of_problem, ready, ready_or, released, status_after, view, number_after, gap_of, judged, outcome_of, outcome, reach_of, ended_at, with_repeat, repeats, timed}
use Rattle.due_model.specs.claims.Changes.{delayed}
use Rattle.due_model.specs.claims.Periods.{in_period}
use Rattle.due_model.specs.claims.Readings.{moment, hard, is_problem_state}
use Rattle.due_model.specs.declared.rules.Attempt.{Attempt}
use Rattle.due_model.specs.declared.rules.View.{View}
use Rattle.due_model.specs.claims.Rules.{asks_options, attempted, failing, failing_by, first_failing, has_letter, letter_of, is_problem, is_recovery, is_of_problem, is_told_in_downtime, is_too_soon}

-- one test of a list
none_by_test : (t : Bool) (f : Filter) (tests : List (Bool × Filter)) → first_failing ((t, f) ∷ tests) ≡ None → (t ≡ false) × (first_failing tests ≡ None)
none_by_test true f tests h = cc
none_by_test false f tests h = (refl, h)

pub and_second : (a b : Bool) → (a && b) ≡ false → a ≡ true → b ≡ false
and_second true b h e = h
and_second false b h e = cc

-- what passing every filter of an object means
pub record Passes (v : View) (a : Attempt) : Type 0 where
  pub program : v.program ≡ true
  pub down : (not (is_told_in_downtime a.kind) && v.down) ≡ false
  pub flapping : (is_of_problem a.kind && v.flapping) ≡ false
  pub sent : (is_recovery a.kind && v.sent == 0) ≡ false
  pub interval : (is_problem a.kind && not v.renews && is_too_soon v.last a.state a.moment) ≡ false
  pub host : (is_of_problem a.kind && v.host_problem) ≡ false

-- in one order or the other
passes_in_order : (daemons : Bool) (c : Config) (zone : Zone) (v : View) (a : Attempt) → failing_by daemons c zone v a ≡ None → Passes v a
passes_in_order false c zone v a h =
    let t12 : List (Bool × Filter) = (is_of_problem a.kind && v.host_problem, why.HostDown) ∷ [] in
    let t11 : List (Bool × Filter) = (is_problem a.kind && not v.renews && is_too_soon v.last a.state a.moment, why.Interval) ∷ t12 in
    let t10 : List (Bool × Filter) = (is_problem a.kind && v.sent == 0 && nat_lt a.moment (v.began + 60 * v.delay), why.FirstDelay) ∷ t11 in
    let t9 : List (Bool × Filter) = (is_problem a.kind && v.acknowledged, why.Acknowledged) ∷ t10 in
    let t8 : List (Bool × Filter) = (is_of_problem a.kind && v.depends, why.Dependency) ∷ t9 in
    let t7 : List (Bool × Filter) = (not (in_period c zone v.period a.moment), why.Period) ∷ t8 in
    let t6 : List (Bool × Filter) = (is_recovery a.kind && v.sent == 0, why.NoProblem) ∷ t7 in
    let t5 : List (Bool × Filter) = (asks_options a.kind && not (has_letter v.options (letter_of a.kind a.state)), why.Options) ∷ t6 in
    let t4 : List (Bool × Filter) = (is_of_problem a.kind && v.flapping, why.Flapping) ∷ t5 in
    let t3 : List (Bool × Filter) = (not (is_told_in_downtime a.kind) && v.down, why.Downtime) ∷ t4 in
    let t2 : List (Bool × Filter) = (not v.enabled, why.Disabled) ∷ t3 in
    let p1 = none_by_test (not v.program) why.Program t2 h in
    let p2 = none_by_test (not v.enabled) why.Disabled t3 p1.1 in
    let p3 = none_by_test (not (is_told_in_downtime a.kind) && v.down) why.Downtime t4 p2.1 in
    let p4 = none_by_test (is_of_problem a.kind && v.flapping) why.Flapping t5 p3.1 in
    let p5 = none_by_test (asks_options a.kind && not (has_letter v.options (letter_of a.kind a.state))) why.Options t6 p4.1 in
    let p6 = none_by_test (is_recovery a.kind && v.sent == 0) why.NoProblem t7 p5.1 in
    let p7 = none_by_test (not (in_period c zone v.period a.moment)) why.Period t8 p6.1 in
    let p8 = none_by_test (is_of_problem a.kind && v.depends) why.Dependency t9 p7.1 in
    let p9 = none_by_test (is_problem a.kind && v.acknowledged) why.Acknowledged t10 p8.1 in
    let p10 = none_by_test (is_problem a.kind && v.sent == 0 && nat_lt a.moment (v.began + 60 * v.delay)) why.FirstDelay t11 p9.1 in
    let p11 = none_by_test (is_problem a.kind && not v.renews && is_too_soon v.last a.state a.moment) why.Interval t12 p10.1 in
    let p12 = none_by_test (is_of_problem a.kind && v.host_problem) why.HostDown [] p11.1 in
    record { program = not-false v.program p1.0; down = p3.0; flapping = p4.0; sent = p6.0; interval = p11.0; host = p12.0 }
passes_in_order true c zone v a h =
    let t12 : List (Bool × Filter) = (is_of_problem a.kind && v.host_problem, why.HostDown) ∷ [] in
    let t11 : List (Bool × Filter) = (is_problem a.kind && not v.renews && is_too_soon v.last a.state a.moment, why.Interval) ∷ t12 in
    let t10 : List (Bool × Filter) = (not (is_told_in_downtime a.kind) && v.down, why.Downtime) ∷ t11 in
    let t9 : List (Bool × Filter) = (is_of_problem a.kind && v.flapping, why.Flapping) ∷ t10 in
    let t8 : List (Bool × Filter) = (is_problem a.kind && v.sent == 0 && nat_lt a.moment (v.began + 60 * v.delay), why.FirstDelay) ∷ t9 in
    let t7 : List (Bool × Filter) = (is_recovery a.kind && v.sent == 0, why.NoProblem) ∷ t8 in
    let t6 : List (Bool × Filter) = (asks_options a.kind && not (has_letter v.options (letter_of a.kind a.state)), why.Options) ∷ t7 in
    let t5 : List (Bool × Filter) = (is_of_problem a.kind && v.depends, why.Dependency) ∷ t6 in
    let t4 : List (Bool × Filter) = (is_problem a.kind && v.acknowledged, why.Acknowledged) ∷ t5 in
    let t3 : List (Bool × Filter) = (not v.enabled, why.Disabled) ∷ t4 in
    let t2 : List (Bool × Filter) = (not (in_period c zone v.period a.moment), why.Period) ∷ t3 in
    let p1 = none_by_test (not v.program) why.Program t2 h in
    let p2 = none_by_test (not (in_period c zone v.period a.moment)) why.Period t3 p1.1 in
    let p3 = none_by_test (not v.enabled) why.Disabled t4 p2.1 in
    let p4 = none_by_test (is_problem a.kind && v.acknowledged) why.Acknowledged t5 p3.1 in
    let p5 = none_by_test (is_of_problem a.kind && v.depends) why.Dependency t6 p4.1 in
    let p6 = none_by_test (asks_options a.kind && not (has_letter v.options (letter_of a.kind a.state))) why.Options t7 p5.1 in
    let p7 = none_by_test (is_recovery a.kind && v.sent == 0) why.NoProblem t8 p6.1 in
    let p8 = none_by_test (is_problem a.kind && v.sent == 0 && nat_lt a.moment (v.began + 60 * v.delay)) why.FirstDelay t9 p7.1 in
    let p9 = none_by_test (is_of_problem a.kind && v.flapping) why.Flapping t10 p8.1 in
    let p10 = none_by_test (not (is_told_in_downtime a.kind) && v.down) why.Downtime t11 p9.1 in
    let p11 = none_by_test (is_problem a.kind && not v.renews && is_too_soon v.last a.state a.moment) why.Interval t12 p10.1 in
    let p12 = none_by_test (is_of_problem a.kind && v.host_problem) why.HostDown [] p11.1 in
    record { program = not-false v.program p1.0; down = p10.0; flapping = p9.0; sent = p7.0; interval = p11.0; host = p12.0 }

pub passes_from_none : (c : Config) (zone : Zone) (v : View) (a : Attempt) → failing c zone v a ≡ None → Passes v a
passes_from_none c zone v a h = passes_in_order c.choices.order c zone v a h

-- a problem or a recovery isn't told in a downtime
pub problem_waits_for_downtimes : (k : Kind) → is_of_problem k ≡ true → not (is_told_in_downtime k) ≡ true
problem_waits_for_downtimes kind.Problem h = refl
problem_waits_for_downtimes kind.Recovery h = refl
problem_waits_for_downtimes kind.FlappingStart h = refl
problem_waits_for_downtimes kind.FlappingStop h = refl
problem_waits_for_downtimes kind.DowntimeStart h = cc
problem_waits_for_downtimes kind.DowntimeEnd h = cc
problem_waits_for_downtimes kind.DowntimeCancelled h = cc
problem_waits_for_downtimes kind.Acknowledgement h = cc

-- the attempt of this kind at an event
abbrev pub attempt_at : ℕ → Event → List Event → Kind → Attempt
attempt_at o e past k = record { kind = k; state = hard o (e ∷ past); moment = moment (e ∷ past) }

judged_by : (c : Config) (zone : Zone) (o : ℕ) (object : Object) (v : View) (a : Attempt) (P : Outcome → Type 0) (verdict : Option Filter) → failing c zone v a ≡ verdict
    → (failing c zone v a ≡ None → P (Sent a.kind a.state (number_after v.sent a.kind) a.moment (gap_of c zone o object a (number_after v.sent a.kind)) (reach_of c zone o object v a (number_after v.sent a.kind))))
    → ((f : Filter) → failing c zone v a ≡ Some f → P (Suppressed a.kind a.state (number_after v.sent a.kind) a.moment f))
    → P (elim verdict as (λ _. Outcome) [
      | None ↦ Sent a.kind a.state (number_after v.sent a.kind) a.moment (gap_of c zone o object a (number_after v.sent a.kind)) (reach_of c zone o object v a (number_after v.sent a.kind))
      | Some f ↦ Suppressed a.kind a.state (number_after v.sent a.kind) a.moment f
    ])
judged_by c zone o object v a P None is sent suppressed = sent is
judged_by c zone o object v a P (Some f) is sent suppressed = suppressed f is

-- an attempt goes out, or a filter stops it
pub judged_cases : (c : Config) (zone : Zone) (o : ℕ) (object : Object) (v : View) (a : Attempt) (P : Outcome → Type 0)
    → (failing c zone v a ≡ None → P (Sent a.kind a.state (number_after v.sent a.kind) a.moment (gap_of c zone o object a (number_after v.sent a.kind)) (reach_of c zone o object v a (number_after v.sent a.kind))))
    → ((f : Filter) → failing c zone v a ≡ Some f → P (Suppressed a.kind a.state (number_after v.sent a.kind) a.moment f))
    → P (judged c zone o object v a)
judged_cases c zone o object v a P sent suppressed = judged_by c zone o object v a P (failing c zone v a) refl sent suppressed

-- what goes out of an attempt of this kind
abbrev pub sent_at : Config → Zone → ℕ → Object → Event → List Event → List Outcome → (over : Bool) → Kind → Outcome
sent_at c zone o object e past earlier over k =
    let v = view c zone o object e past earlier over in
    let a = attempt_at o e past k in
    Sent k (hard o (e ∷ past)) (number_after v.sent k) (moment (e ∷ past)) (gap_of c zone o object a (number_after v.sent k)) (reach_of c zone o object v a (number_after v.sent k))

abbrev pub stopped_at : Config → Zone → ℕ → Object → Event → List Event → List Outcome → (over : Bool) → Kind → Filter → Outcome
stopped_at c zone o object e past earlier over k f =
    Suppressed k (hard o (e ∷ past)) (number_after (view c zone o object e past earlier over).sent k) (moment (e ∷ past)) f

-- an event attempts nothing, or what it attempts goes out, or a filter stops it
pub outcome_of_cases : (c : Config) (zone : Zone) (o : ℕ) (object : Object) (e : Event) (past : List Event) (earlier : List Outcome) (over : Bool) (attempt : Option Kind) (P : Option Kind → Outcome → Type 0)
    → P None Nothing
    → ((k : Kind) → failing c zone (view c zone o object e past earlier over) (attempt_at o e past k) ≡ None → P (Some k) (sent_at c zone o object e past earlier over k))
    → ((k : Kind) (f : Filter) → failing c zone (view c zone o object e past earlier over) (attempt_at o e past k) ≡ Some f → P (Some k) (stopped_at c zone o object e past earlier over k f))
    → P attempt (outcome_of c zone o object e past earlier over attempt)
outcome_of_cases c zone o object e past earlier over None P none sent stopped = none
outcome_of_cases c zone o object e past earlier over (Some k) P none sent stopped =
    judged_cases c zone o object (view c zone o object e past earlier over) (attempt_at o e past k) (P (Some k)) (sent k) (stopped k)

pub outcome_cases : (c : Config) (zone : Zone) (o : ℕ) (object : Object) (e : Event) (past : List Event) (history : List Outcome) (P : Outcome → Type 0)
    → P Nothing
    → ((k : Kind) → failing c zone (view c zone o object e past (before o e past history) (ended_at c zone o object e past history)) (attempt_at o e past k) ≡ None → P (sent_at c zone o object e past (before o e past history) (ended_at c zone o object e past history) k))
    → ((k : Kind) (f : Filter) → P (stopped_at c zone o object e past (before o e past history) (ended_at c zone o object e past history) k f))
    → P (outcome c zone o object e past history)
outcome_cases c zone o object e past history P none sent stopped =
    outcome_of_cases c zone o object e past (before o e past history) (ended_at c zone o object e past history)
    (with_repeat (repeats c o e.kind past && is_problem_state (hard o past))
    (attempted o e.kind (status_after o past) (timed c (ready_or (released o past history) (ready c zone object (delayed c o past) (of_problem o past history)))) (moment (e ∷ past))))
    (λ _. P) none sent (λ k f _. stopped k f)
