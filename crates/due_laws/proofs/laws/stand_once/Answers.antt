use Rattle.std.proofs.Common.{slice_get, get_or}
use Rattle.due_model.specs.claims.Due.{due}
use Rattle.due_laws.proofs.NoticeOrder.{due_in_order, before_is_other}
use Rattle.due_laws.proofs.laws.stand_once.Goals as goal

pub returns-clause-order : goal.returns-clause-order
returns-clause-order x c zone o l past = due_in_order c zone o l (slice_get c.objects o) past

pub returns-clause-once : goal.returns-clause-once
returns-clause-once x c zone o l past =
    let notices = due c zone o l past in
    λ i j d before within. before_is_other (get_or notices i d) (get_or notices j d) (due_in_order c zone o l (slice_get c.objects o) past i j d before within)
