use Rattle.std.proofs.Common.{take}
use Rattle.messages.specs.Entries.{notices_in}
use Rattle.due_feed.proofs.looker.show.Given as goal

-- it has seen the notices among the first entries
abbrev pub invariant-loop-entry : goal.invariant-loop-entry
invariant-loop-entry g l = g.L.Looker.saw l.fn.looker (notices_in (take l.entry-index l.entries)) l.looker
