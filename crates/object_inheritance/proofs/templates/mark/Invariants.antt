use Rattle.std.proofs.Common.{◌≡◌, ◌<◌, get_or, length, true, ℕ}
use Rattle.object_inheritance.proofs.templates.mark.Given as goal

-- The nodes so far are marked, and what was marked still is.
abbrev pub invariant-loop-node : goal.invariant-loop-node
invariant-loop-node l = record {
  long : length l.used.items ≡ length l.initial.used.items;
  marked : (j : ℕ) → j < l.node-index → get_or l.used.items (get_or l.nodes j 0) true ≡ true;
  stays : (q : ℕ) → get_or l.initial.used.items q true ≡ true → get_or l.used.items q true ≡ true;
}
