use Rattle.std.proofs.Common.{arith}
use Rattle.object_warnings.specs.Hours.{gap_by, row_at}
use Rattle.object_warnings.proofs.HourLemmas.{first-some}
use Rattle.object_warnings.proofs.spans.first_gap.Goals as goal

pub returns : goal.returns
returns c =
    first-some (λ minute. gap_by (row_at c.args.all.now minute) c.args.period c.args.hours.now) c.first_from-start.result c.first_from-end.result (omega (arith, c.if-start-ge-WEEK.false))
    c.first_from-end.ensures.low c.first_from-end.ensures.high c.first_from-start.ensures.others (c.first_from-start.ensures.found (omega (arith, c.if-start-ge-WEEK.false)))
    c.first_from-end.ensures.others c.first_from-end.ensures.found
