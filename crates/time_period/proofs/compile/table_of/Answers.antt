use Rattle.std.proofs.Common.{◌-◌, length, arith, get_or, refl}
use Rattle.time_period.proofs.DoneLemmas.{done_all, done_begin, has_turn, turn_done, turn_known}
use Rattle.time_period.proofs.compile.table_of.Goals as goal

pub loop-left-init : goal.loop-left-init
loop-left-init c =
    done_begin c.args.config.now c.as_slice-periods.result.now c.args.order.now (length c.args.order.now) c.in_ok-done.done.items c.as_slice-periods.ensures c.in_ok-done.ensures refl

pub loop-left-preserved : goal.loop-left-preserved
loop-left-preserved c =
    let turn = has_turn c.args.config.now c.as_slice-periods.result.now c.args.order.now c.loop-left.left (get_or c.args.order.now (c.loop-left.left - 1) 0) c.index-periods-number.result c.requires.accepted
    c.requires.order c.as_slice-periods.ensures c.loop-left.invariant.start c.loop-left-test.true refl c.index-periods-number.is in
    turn_done c.args.config.now c.args.order.now c.loop-left.left (get_or c.args.order.now (c.loop-left.left - 1) 0) (get_or c.args.order.now (c.loop-left.left - 1) 0) c.index-periods-number.result c.as_slice.result.now c.loop-left.done.items c.in_ok-step.step
    c.requires.accepted c.requires.order c.loop-left.invariant c.loop-left-test.true turn c.as_slice.ensures.value refl (c.in_ok-step.ensures c.args.config.now)

pub work_out-requires-clause-week : goal.work_out-requires-clause-week
work_out-requires-clause-week c =
    (has_turn c.args.config.now c.as_slice-periods.result.now c.args.order.now c.loop-left.left (get_or c.args.order.now (c.loop-left.left - 1) 0) c.index-periods-number.result c.requires.accepted
    c.requires.order c.as_slice-periods.ensures c.loop-left.invariant.start c.loop-left-test.true refl c.index-periods-number.is).fits.week

pub work_out-requires-clause-known : goal.work_out-requires-clause-known
work_out-requires-clause-known c =
    let turn = has_turn c.args.config.now c.as_slice-periods.result.now c.args.order.now c.loop-left.left (get_or c.args.order.now (c.loop-left.left - 1) 0) c.index-periods-number.result c.requires.accepted
    c.requires.order c.as_slice-periods.ensures c.loop-left.invariant.start c.loop-left-test.true refl c.index-periods-number.is in
    turn_known c.args.config.now c.index-periods-number.result c.as_slice.result.now c.loop-left.done.items turn.fits c.loop-left.invariant.as_many c.as_slice.ensures.value

pub returns : goal.returns
returns c = done_all c.args.config.now c.args.order.now c.loop-left.left c.loop-left.done.items c.requires.order c.loop-left.invariant (omega (arith, c.loop-left-test.false))
