use Rattle.std.proofs.Common.{◌∙◌, List, ap, arith, get_or, refl, subst, sym}
use Rattle.std.specs.Prelude.{Contains}
use Rattle.due_model.specs.declared.config.PeriodId.{PeriodId}
use Rattle.time_period.specs.Flags.{flag_at}
use Rattle.time_period.specs.claims.Steps.{Own}
use Rattle.time_period.proofs.NeedsLemmas.{kept-at, sweep-passes, sweep-takes, swept-closed}
use Rattle.time_period.proofs.needs.reached.Goals as goal
use Rattle.time_period.proofs.needs.reached.Goals.{then-flag+in_ok-push, else-flag}

pub loop-place-preserved : goal.loop-place-preserved
loop-place-preserved c =
    let table = c.args.table.now in
    let order = c.args.order.now in
    let i = c.loop-place.place-index in
    let next = get_or order i 0 in
    let inside = c.loop-place-test.true in
    let low = c.requires.within i 0 inside in
    let old = flag_at c.loop-place.flags in
    let so_far = c.loop-place.invariant.swept in
    elim c.if-flag.branch [
      | then-flag+in_ok-push w ↦
          let excludes = w.excludes.ensures.excludes ∙ ap (λ (own : Own). own.excludes) (kept-at table table w.from.result next w.index-table-from.result refl w.from.ensures low w.index-table-from.is) in
          rw (w.flags-is, w.needs-is) (record {
            long = w.set_all.ensures.long;
            swept = sweep-takes table order c.args.number i next old (flag_at w.set_all.new.flags) c.loop-place.needs.items inside refl w.set_all.ensures.kept so_far
                w.push.new.self.items w.in_ok-push.ensures.items low
                (λ x found. c.requires.forward i x inside found)
                (λ x found. w.set_all.ensures.set x (subst (λ (xs : List PeriodId). Contains xs x) (sym excludes) found));
          })
      | else-flag w ↦ rw (w.flags-is, w.needs-is) (record {
        long = c.loop-place.invariant.long;
        swept = sweep-passes table order c.args.number i next old old c.loop-place.needs.items inside refl (λ n set. set) so_far (sym c.flag.ensures ∙ w.if-flag.false);
      })
    ]

pub returns-clause-closed : goal.returns-clause-closed
returns-clause-closed c =
    swept-closed c.args.table.now c.args.order.now c.args.number c.loop-place.place-index (flag_at c.loop-place.flags) c.loop-place.needs.items (omega (arith, c.loop-place-test.false)) c.loop-place.invariant.swept
