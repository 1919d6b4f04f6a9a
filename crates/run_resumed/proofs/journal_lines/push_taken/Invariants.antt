use Rattle.std.proofs.Common.{◌≡◌, ◌++◌, map, take}
use Rattle.run_resumed.proofs.journal_lines.push_taken.Given as goal

-- what was there, and the first of its letters
abbrev pub invariant-loop-receipt : goal.invariant-loop-receipt
invariant-loop-receipt l = l.taken.items ≡ l.fn.taken.items ++ map (λ receipt. receipt.notice) (take l.receipt-index l.channel.kept.taken)
