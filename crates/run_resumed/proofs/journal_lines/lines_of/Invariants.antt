use Rattle.std.proofs.Common.{map}
use Rattle.run_resumed.specs.JournalLines.{HasLines}
use Rattle.run_resumed.proofs.journal_lines.lines_of.Given as goal

-- the lines of the lanes so far
abbrev pub invariant-loop-number : goal.invariant-loop-number
invariant-loop-number l = HasLines l.config l.states (map (λ cs. cs.items) l.channels) l.number l.text.items
