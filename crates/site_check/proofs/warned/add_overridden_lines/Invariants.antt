use Rattle.std.proofs.Common.{◌≡◌, ◌+◌, length, take}
use Rattle.site_check.proofs.warned.add_overridden_lines.Given as goal

-- So many more.
abbrev pub invariant-loop-line : goal.invariant-loop-line
invariant-loop-line l = length l.warned.items ≡ length l.fn.warned.items + length (take l.line-index l.lines)
