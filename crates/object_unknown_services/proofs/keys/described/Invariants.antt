use Rattle.std.proofs.Common.{take}
use Rattle.object_groups.specs.claims.Objects.{names_in}
use Rattle.object_reader.specs.declared.block.BlockKind.TheVariants.{Service}
use Rattle.object_unknown_services.specs.Keys.{AreByKey, NamesFirst}
use Rattle.object_unknown_services.proofs.keys.described.Given as goal

-- The lists of descriptions so far are there.
abbrev pub invariant-loop-pair : goal.invariant-loop-pair
invariant-loop-pair l = AreByKey (names_in l.services Service) (NamesFirst l.services l.naming.role (take l.pair-index l.found)) l.lists
