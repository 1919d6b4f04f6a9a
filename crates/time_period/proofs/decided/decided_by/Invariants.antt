use Rattle.std.proofs.Common.{take}
use Rattle.day_rules.specs.Dates.{shown}
use Rattle.time_period.specs.Classes.{IsDecided}
use Rattle.time_period.proofs.decided.decided_by.Given as goal

-- What decides among the lines so far.
abbrev pub invariant-loop-line : goal.invariant-loop-line
invariant-loop-line l = IsDecided (shown l.time) (take l.line-index l.dated) l.decided
