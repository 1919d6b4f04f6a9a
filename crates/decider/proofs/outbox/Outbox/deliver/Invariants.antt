use Rattle.std.proofs.Common.{◌≡◌, ℕ, ◌<◌, ◌++◌, length, drop}
use Rattle.messages.specs.Entries.{notices_on}
use Rattle.decider.specs.claims.Outbox.{lists, waiting_at}
use Rattle.decider.specs.Outbox.{HasRoomFor}
use Rattle.decider.proofs.outbox.Outbox.deliver.Given as goal

abbrev pub invariant-loop-entry : goal.invariant-loop-entry
invariant-loop-entry l = record {
  lanes : length (lists l.self) ≡ length (lists l.fn.self);
  room : HasRoomFor l.self (drop l.entry-index l.entries);
  waiting : (lane : ℕ) → lane < length (lists l.fn.self)
      → waiting_at l.self lane ++ notices_on lane (drop l.entry-index l.entries) ≡ waiting_at l.fn.self lane ++ notices_on lane l.entries;
}
