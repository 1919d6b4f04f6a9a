use Rattle.std.proofs.Common.{◌≡◌, ℕ, ◌<◌, ◌≤◌, get_or, take}
use Rattle.std.specs.Prelude.{sum}
use Rattle.graph.proofs.lists.sum_up.Given as goal

-- The sum so far, which those before have, and those after are as they were.
abbrev pub invariant-loop-count : goal.invariant-loop-count
invariant-loop-count l = record {
  total : l.total ≡ sum (take l.count-index l.fn.counts);
  before : (k : ℕ) → k < l.count-index → get_or l.counts k 0 ≡ sum (take k l.fn.counts);
  after : (k : ℕ) → l.count-index ≤ k → get_or l.counts k 0 ≡ get_or l.fn.counts k 0;
}
