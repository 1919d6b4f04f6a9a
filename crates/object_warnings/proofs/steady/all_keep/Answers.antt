use Rattle.std.proofs.Common.{arith, refl, subst}
use Rattle.std.proofs.lemmas.List.Elements.{All-more}
use Rattle.std.proofs.lemmas.List.{take_all}
use Rattle.std.specs.Prelude.{All}
use Rattle.object_warnings.specs.Steady.{Keeps}
use Rattle.object_warnings.proofs.steady.all_keep.Goals as goal

pub loop-period-preserved : goal.loop-period-preserved
loop-period-preserved c =
    All-more (Keeps c.args.weekday c.args.one c.args.other) c.args.periods.now c.loop-period.period-index c.period-item.result c.loop-period-test.true c.loop-period.invariant
    (subst (Keeps c.args.weekday c.args.one c.args.other) c.period-item.is (c.if-changes.ensures refl))

pub returns : goal.returns
returns c is =
    subst (All (Keeps c.args.weekday c.args.one c.args.other)) (take_all c.loop-period.period-index c.args.periods.now (omega (arith, c.loop-period-test.false))) c.loop-period.invariant
