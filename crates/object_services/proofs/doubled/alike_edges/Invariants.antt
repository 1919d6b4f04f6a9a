use Rattle.std.proofs.Common.{◌≡◌, filter, length, ℕ}
use Rattle.std.specs.Prelude.{All}
use Rattle.std.specs.List.{range_with_len}
use Rattle.graph.specs.Edges.{ends_of, IsWithin}
use Rattle.object_services.specs.Alike.{is_alike}
use Rattle.object_services.proofs.doubled.alike_edges.Given as goal

-- The edges to the numbers so far.
abbrev pub invariant-loop-number : goal.invariant-loop-number
invariant-loop-number l = record {
  ends : (first : ℕ) → ends_of l.edges.items first ≡ filter (is_alike l.names first) (range_with_len 0 l.number);
  within : All (IsWithin (length l.names)) l.edges.items;
}
