use Rattle.std.proofs.Common.{◌≡◌, ◌+◌, length, take}
use Rattle.std.specs.Prelude.{count_by, is_some}
use Rattle.site_check.proofs.warned_config.add_gaps.Given as goal

-- One more for each span so far.
abbrev pub invariant-loop-number : goal.invariant-loop-number
invariant-loop-number l = length l.warned.items ≡ length l.fn.warned.items + count_by is_some (take l.number l.spans)
