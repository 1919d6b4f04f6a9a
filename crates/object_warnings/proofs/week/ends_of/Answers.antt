use Rattle.std.proofs.Common.{arith, map}
use Rattle.object_warnings.proofs.HourLemmas.{ends-none}
use Rattle.object_warnings.proofs.week.ends_of.Goals as goal

pub loop-minute-init : goal.loop-minute-init
loop-minute-init c = record {
  within = omega arith;
  ends = ends-none (map (λ row. row.items) c.args.rows.now) c.in_ok-ends.ends.items c.in_ok-ends.ensures;
}
