use Rattle.std.proofs.Common.{◌≡◌, ◌+◌, length}
use Rattle.object_groups.specs.claims.First.{IsFirst}
use Rattle.object_groups.specs.claims.Objects.{names_in}
use Rattle.object_reader.specs.declared.block.BlockKind.TheVariants.{Host}
use Rattle.object_unknown_services.specs.Stamps.{AreBelow}
use Rattle.object_unknown_services.specs.Unknown.{HasUnknownBelow}
use Rattle.object_unknown_services.proofs.unknown.first_in.Given as goal

-- The groups stay, the stamps are those of the keys so far, and the first block that names an unknown service of them.
abbrev pub invariant-loop-key : goal.invariant-loop-key
invariant-loop-key l = record {
  same : l.hosts ≡ l.initial.hosts;
  stamps : AreBelow (length (names_in l.services Host)) (l.key + 1) l.stamps;
  first : IsFirst (HasUnknownBelow l.services l.naming.role l.key) l.first;
}
