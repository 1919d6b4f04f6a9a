use Rattle.std.proofs.Common.{◌≡◌, length, take}
use Rattle.object_groups.specs.claims.Objects.{names_in}
use Rattle.object_reader.specs.declared.block.BlockKind.TheVariants.{Host}
use Rattle.object_services.specs.Alike.{is_among}
use Rattle.object_services.proofs.DoubledLemmas.{IsScanned}
use Rattle.object_services.proofs.doubled.first_sharing.Given as goal

-- The groups and the nodes stay, and the blocks so far were scanned.
abbrev pub invariant-loop-member : goal.invariant-loop-member
invariant-loop-member l = record {
  same : l.hosts ≡ l.initial.hosts;
  nodes : l.seen.nodes ≡ length (names_in l.services Host);
  scanned : IsScanned l.services (take l.member-index l.numbers) (is_among l.seen.found);
}
