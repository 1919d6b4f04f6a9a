use Rattle.std.proofs.Common.{take}
use Rattle.object_escalations.specs.Given.{AddsTaken}
use Rattle.object_escalations.proofs.entries.push_block.Given as goal

-- The escalations so far came.
abbrev pub invariant-loop-number : goal.invariant-loop-number
invariant-loop-number l = AddsTaken l.given l.objects (take l.number-index l.numbers) l.initial.escalations.items l.escalations.items
