use Rattle.std.proofs.Common.{◌≡◌, ◌<◌, slice_get, true, false, Some}
use Rattle.due_model.specs.claims.Due.{due_for}
use Rattle.due_laws.specs.Laws.{TellsOfEvent, NothingHoldsBack, up_to, last_problem}
use Rattle.due_model.specs.declared.config.ObjectId.{ObjectId}
use Rattle.due_model.specs.claims.Histories.{notices_sent}
use Rattle.due_model.specs.claims.Readings.{hard, is_problem_state}
use Rattle.due_model.specs.claims.Rules.{is_of_problem, is_recovery}
use Rattle.due_laws.proofs.Problems.{due_for_recoveries}
use Rattle.due_laws.proofs.EachNotice.{due_each, due_for_hosts, due_for_tells, due_for_held_back}
use Rattle.due_laws.proofs.laws.tell_of_events.Goals as goal

pub returns-clause-events : goal.returns-clause-events
returns-clause-events x c zone o l past =
    due_each c o (slice_get c.objects o) (TellsOfEvent past o l) (λ object. due_for c zone o object l past)
    (λ object found. due_for_tells c zone o object l past)

pub returns-clause-held_back : goal.returns-clause-held_back
returns-clause-held_back x c zone o l object past known =
    due_each c o (slice_get c.objects o) (λ n. is_of_problem n.kind ≡ true → NothingHoldsBack o object (up_to past n.event)) (λ other. due_for c zone o other l past)
    (λ other found.
    let same : object ≡ other = cc in
    rw same (due_for_held_back c zone o other l past))

pub returns-clause-recoveries : goal.returns-clause-recoveries
returns-clause-recoveries x c zone o l object past known =
    due_each c o (slice_get c.objects o) (λ n. is_recovery n.kind ≡ true → 0 < notices_sent (last_problem c zone o object (up_to past n.event))) (λ other. due_for c zone o other l past)
    (λ other found.
    let same : object ≡ other = cc in
    rw same (due_for_recoveries c zone o other l past))

pub returns-clause-hosts : goal.returns-clause-hosts
returns-clause-hosts x c zone o l object past chosen known =
    due_each c o (slice_get c.objects o) (λ n. is_of_problem n.kind ≡ true → (h : ObjectId) → object.host ≡ Some h → is_problem_state (hard h.0 (up_to past n.event)) ≡ false)
    (λ other. due_for c zone o other l past)
    (λ other found.
    let same : object ≡ other = cc in
    rw same (due_for_hosts c zone o other l past chosen))
