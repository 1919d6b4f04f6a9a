use Rattle.std.proofs.Common.{◌≡◌, ◌++◌, take}
use Rattle.messages.specs.Entries.{notices_in}
use Rattle.notices_compared.proofs.side.add_notices.Given as goal

abbrev pub invariant-loop-entry : goal.invariant-loop-entry
invariant-loop-entry l = l.notices.items ≡ l.fn.notices.items ++ notices_in (take l.entry-index l.entries)
