use Rattle.std.proofs.Common.{◌≡◌, length}
use Rattle.object_groups.specs.claims.First.{IsFirst}
use Rattle.object_groups.specs.claims.Objects.{names_in}
use Rattle.object_reader.specs.declared.block.BlockKind.TheVariants.{Host}
use Rattle.object_services.specs.Alike.{IsDoubledBelow}
use Rattle.object_services.proofs.doubled.first_doubled.Given as goal

-- The groups and the nodes stay, and the first that is doubled of the descriptions so far.
abbrev pub invariant-loop-first : goal.invariant-loop-first
invariant-loop-first l = record {
  same : l.hosts ≡ l.initial.hosts;
  nodes : l.seen.nodes ≡ length (names_in l.services Host);
  below : IsFirst (IsDoubledBelow l.services l.first) l.doubled;
}
