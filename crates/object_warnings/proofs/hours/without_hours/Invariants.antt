use Rattle.std.proofs.Common.{◌≡◌, ℕ, ◌<◌, None, length, slice_index_or}
use Rattle.object_warnings.specs.Hours.{AreKnown, IsFirst, lacks_hours, rows_of, weekly}
use Rattle.object_warnings.proofs.hours.without_hours.Given as goal

-- The spans so far.
abbrev pub invariant-loop-number : goal.invariant-loop-number
invariant-loop-number l = record {
  as_many : length l.spans.items ≡ l.number;
  known : AreKnown (rows_of (weekly l.config)) l.known.items;
  each : (o : ℕ) → o < l.number → IsFirst (lacks_hours l.config o) (slice_index_or l.spans.items o None);
}
