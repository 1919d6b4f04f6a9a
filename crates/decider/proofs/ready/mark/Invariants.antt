use Rattle.std.proofs.Common.{◌≡◌, ◌≤◌, ℕ, drop, length}
use Rattle.due_times.specs.claims.Index.{at}
use Rattle.decider.specs.Ready.{entry_decided}
use Rattle.decider.proofs.ready.mark.Given as goal

abbrev pub invariant-loop-new_book : goal.invariant-loop-new_book
invariant-loop-new_book l = record {
  marked : (o : ℕ) → entry_decided (drop l.new_book-index l.decided) o (at l.index.moments o) ≡ entry_decided l.decided o (at l.fn.index.moments o);
  room : length l.fn.index.moments ≤ length l.index.moments;
  examined : l.index.examined ≡ l.fn.index.examined;
}
