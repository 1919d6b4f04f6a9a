use Rattle.std.proofs.Common.{◌≡◌, subst, sym}
use Rattle.std.proofs.lemmas.Result.{IfOk-weaker}
use Rattle.engine_threads.specs.Merge.{HasBoth, merged}
use Rattle.decider_thread.specs.claims.Order.{IsInOrder}
use Rattle.engine_threads.proofs.MergeLaws.{merged_has_both, merged_in_order}
use Rattle.engine_threads.proofs.log_merge.merge.Goals as goal

pub returns-clause-order : goal.returns-clause-order
returns-clause-order c =
    let xs = c.args.first.now in
    let ys = c.args.second.now in
    IfOk-weaker c.merge_all.result (λ log. log.items ≡ merged xs ys) (λ log. IsInOrder xs → IsInOrder ys → IsInOrder log.items)
    (λ log is first second. subst IsInOrder (sym is) (merged_in_order xs ys first second)) c.merge_all.ensures

pub returns-clause-both : goal.returns-clause-both
returns-clause-both c =
    let xs = c.args.first.now in
    let ys = c.args.second.now in
    IfOk-weaker c.merge_all.result (λ log. log.items ≡ merged xs ys) (λ log. HasBoth xs ys log.items)
    (λ log is. subst (HasBoth xs ys) (sym is) (merged_has_both xs ys)) c.merge_all.ensures
