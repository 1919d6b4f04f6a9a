use Rattle.std.proofs.Common.{◌≡◌, ◌+◌, length, take}
use Rattle.site_check.proofs.warned_config.add_numbers.Given as goal

-- So many more.
abbrev pub invariant-loop-number : goal.invariant-loop-number
invariant-loop-number l = length l.warned.items ≡ length l.fn.warned.items + length (take l.number-index l.numbers)
