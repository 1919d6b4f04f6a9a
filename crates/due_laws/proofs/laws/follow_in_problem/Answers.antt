use Rattle.std.proofs.Common.{◌≡◌, slice_get, add-one, ap, ◌∙◌, sym, filter_map}
use Rattle.due_model.specs.claims.Histories.{notice_of, notices_sent}
use Rattle.due_laws.specs.Laws.{last_problem, number_carried, up_to}
use Rattle.due_laws.proofs.Problems.{problem_follows, numbers_go_up, gaps_are_kept, due_for_numbered}
use Rattle.due_model.specs.claims.Due.{due_for}
use Rattle.due_laws.proofs.EachNotice.{due_each}
use Rattle.due_laws.proofs.laws.follow_in_problem.Goals as goal

pub returns-clause-numbers : goal.returns-clause-numbers
returns-clause-numbers x c zone o object past = numbers_go_up c object (last_problem c zone o object past) (problem_follows c zone o object past)

pub returns-clause-notices : goal.returns-clause-notices
returns-clause-notices x c zone o l object past known =
    due_each c o (slice_get c.objects o) (λ n. n.number ≡ number_carried n.kind (notices_sent (last_problem c zone o object (up_to past n.event)))) (λ other. due_for c zone o other l past)
    (λ other found.
    let same : object ≡ other = cc in
    rw same (due_for_numbered c zone o other l past))

pub returns-clause-gaps : goal.returns-clause-gaps
returns-clause-gaps x c zone o object own past i earlier later is_later is_earlier same =
    let notices = filter_map notice_of (last_problem c zone o object past) in
    gaps_are_kept c object own (last_problem c zone o object past) (problem_follows c zone o object past) i earlier later is_later (ap (slice_get notices) (sym (add-one i)) ∙ is_earlier) same
