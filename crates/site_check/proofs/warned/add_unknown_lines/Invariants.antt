use Rattle.std.proofs.Common.{◌≡◌, ◌+◌, length}
use Rattle.site_check.proofs.warned.add_unknown_lines.Given as goal

-- So many more.
abbrev pub invariant-loop-number : goal.invariant-loop-number
invariant-loop-number l = length l.warned.items ≡ length l.fn.warned.items + l.number
