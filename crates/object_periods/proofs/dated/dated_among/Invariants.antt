use Rattle.std.proofs.Common.{◌≡◌, take}
use Rattle.std.specs.Prelude.{filter_map}
use Rattle.object_inheritance.specs.DatedLines.{named}
use Rattle.object_periods.specs.claims.Periods.{dated_in}
use Rattle.object_periods.proofs.dated.dated_among.Given as goal

-- The dated lines of the lines so far.
abbrev pub invariant-loop-line : goal.invariant-loop-line
invariant-loop-line l = l.dated.items ≡ filter_map dated_in (named (take l.line-index l.lines))
