use Rattle.std.proofs.Common.{◌≡◌, ◌≤◌, ◌-◌, length, take}
use Rattle.object_warnings.proofs.known_spans.are_same_items.Given as goal

-- The same so far.
abbrev pub invariant-loop-place : goal.invariant-loop-place
invariant-loop-place l = record {
  within : l.place ≤ length l.one;
  same : take l.place l.one ≡ take l.place l.other;
}

abbrev pub decreases-loop-place : goal.decreases-loop-place
decreases-loop-place l = length l.one - l.place
