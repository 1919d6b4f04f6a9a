use Rattle.std.proofs.Common.{take}
use Rattle.time_period.specs.Steps.{AreMergedLines}
use Rattle.time_period.proofs.steps.merged_lines.Given as goal

abbrev pub invariant-loop-line : goal.invariant-loop-line
invariant-loop-line l = AreMergedLines (take l.line-index l.dated) l.all.items
