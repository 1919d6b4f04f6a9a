use Rattle.std.proofs.Common.{◌≡◌, ℕ, [], get_or, length, map, take}
use Rattle.std.specs.Prelude.{All}
use Rattle.graph.specs.Edges.{ends_of, IsWithin}
use Rattle.object_inheritance.specs.claims.Templates.{templates_of}
use Rattle.object_inheritance.proofs.uses.edges_of.Given as goal

-- The edges of the blocks so far.
abbrev pub invariant-loop-place : goal.invariant-loop-place
invariant-loop-place l = record {
  ends : (p : ℕ) → ends_of l.edges.items p ≡ get_or (map (templates_of l.names) (take l.place l.names)) p [];
  within : All (IsWithin (length l.names)) l.edges.items;
}
