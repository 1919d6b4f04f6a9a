use Rattle.std.proofs.Common.{rules, ◌≡◌, List, sym, subst}
use Rattle.due_model.specs.declared.notice.Suppression.{Suppression}
use Rattle.engine_threads.specs.Merge.{HasBoth}
use Rattle.decider_thread.specs.claims.Order.{IsInOrder}
use Rattle.lemmas.proofs.Lists.{slice_get_read}
use Rattle.engine_threads.proofs.LogLaws.{HasBelow, all_below, none_below, one_more}
use Rattle.engine_threads.proofs.logs.merge_logs.Goals as goal

pub loop-end-init : goal.loop-end-init
loop-end-init c = (
  (λ ordered. search rules),
  subst (λ (log : List Suppression). HasBelow 0 c.args.ends.now log) (sym c.new-log.ensures.items) (none_below c.args.ends.now),
)

pub loop-end-preserved : goal.loop-end-preserved
loop-end-preserved c =
    let i = c.loop-end.end-index in
    let end = c.end-item.result in
    let at = slice_get_read c.args.ends.now i end c.loop-end-test.true c.end-item.is in
    let first : c.deref.result.now ≡ c.loop-end.log.items = search rules in
    let second : c.deref-in-loop-end.result.now ≡ end.log.items = search rules in
    let log = c.in_ok-log.log.items in
    let both = subst (λ (xs : List Suppression). HasBoth xs end.log.items log) first (subst (λ (ys : List Suppression). HasBoth c.deref.result.now ys log) second c.in_ok-log.ensures.both) in
    let order = subst (λ (xs : List Suppression). IsInOrder xs → IsInOrder end.log.items → IsInOrder log) first (subst (λ (ys : List Suppression). IsInOrder c.deref.result.now → IsInOrder ys → IsInOrder log) second c.in_ok-log.ensures.order) in (
      (λ ordered. order (c.loop-end.invariant.0 ordered) (ordered i end at)),
      one_more i c.args.ends.now c.loop-end.log.items log end at both c.loop-end.invariant.1,
    )

pub returns-clause-each : goal.returns-clause-each
returns-clause-each c = all_below c.loop-end.end-index c.args.ends.now c.loop-end.log.items (search rules) c.loop-end.invariant.1
