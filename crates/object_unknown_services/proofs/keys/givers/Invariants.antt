use Rattle.object_groups.specs.claims.Objects.{names_in}
use Rattle.object_reader.specs.declared.block.BlockKind.TheVariants.{Service}
use Rattle.object_unknown_services.specs.Keys.{AreByKey, GivesBelow}
use Rattle.object_unknown_services.proofs.keys.givers.Given as goal

-- The service blocks so far are there.
abbrev pub invariant-loop-number : goal.invariant-loop-number
invariant-loop-number l = AreByKey (names_in l.services Service) (GivesBelow l.services l.number) l.lists
