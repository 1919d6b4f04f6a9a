use Rattle.std.proofs.Common.{◌∙◌, List, ap, filter, subst}
use Rattle.std.specs.List.Sorted.{IsPermutation}
use Rattle.due_model.specs.declared.notice.Notice.{Notice}
use Rattle.journaled.specs.Claims.{is_new}
use Rattle.earlier_runs.specs.State.{AreEachOnce}
use Rattle.earlier_runs.proofs.DoubtLaws.{are_doubts}
use Rattle.earlier_runs.proofs.state.doubts_of.Goals as goal

pub returns : goal.returns
returns c =
    are_doubts c.args.read.now c.new-past.result c.in_ok-among.among.items c.in_ok-doubts.doubts.items c.new-past.ensures.from
    (subst (λ (xs : List Notice). IsPermutation xs c.new-past.result.settled) (c.in_ok-from_slice.ensures.items ∙ c.deref.ensures.value) c.new-past.ensures.settled)
    (c.in_ok-among.ensures ∙ ap (filter (is_new c.new-past.result)) c.deref-3.ensures.value)
    (subst (λ (xs : List Notice). AreEachOnce xs c.in_ok-doubts.doubts.items) c.deref-4.ensures.value c.in_ok-doubts.ensures)
