use Rattle.std.proofs.Common.{◌≡◌, take}
use Rattle.run_resumed.specs.JournalLines.{taken_by}
use Rattle.run_resumed.proofs.journal_lines.taken_by.Given as goal

-- what the first channels took
abbrev pub invariant-loop-channel : goal.invariant-loop-channel
invariant-loop-channel l = l.taken.items ≡ taken_by (take l.channel-index l.channels)
