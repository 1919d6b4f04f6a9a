use Rattle.std.proofs.Common.{arith, map, refl}
use Rattle.object_warnings.proofs.HourLemmas.{stays-alone, stays-next}
use Rattle.object_warnings.proofs.week.end_of.Goals as goal

pub returns-then-next-ge-WEEK : goal.returns-then-next-ge-WEEK
returns-then-next-ge-WEEK c = stays-alone (map (λ row. row.items) c.args.rows.now) c.args.minute c.requires.within

pub returns-then-goes_on : goal.returns-then-goes_on
returns-then-goes_on c =
    stays-next (map (λ row. row.items) c.args.rows.now) c.args.ends.now c.args.minute c.end_at.result c.requires.ends (omega (arith, c.if-next-ge-WEEK.false)) c.end_at.ensures
    (c.if-goes_on.ensures refl)

pub returns : goal.returns
returns c = stays-alone (map (λ row. row.items) c.args.rows.now) c.args.minute c.requires.within
