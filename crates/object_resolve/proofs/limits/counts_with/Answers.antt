use Rattle.std.proofs.Common.{sym, subst}
use Rattle.std.specs.Prelude.{List, None}
use Rattle.object_groups.specs.claims.First.{IsFirst}
use Rattle.object_reader.specs.declared.block.Block.{Block}
use Rattle.object_resolve.specs.claims.Limits.{PassesRest}
use Rattle.object_resolve.specs.Limits.{AreCounted}
use Rattle.object_resolve.proofs.limits.counts_with.Goals as goal

pub escalated_in-escalated-requires-clause-hosts : goal.escalated_in-escalated-requires-clause-hosts
escalated_in-escalated-requires-clause-hosts c = c.requires.counted.hosts_are

pub over_escalations-requires-clause-counted : goal.over_escalations-requires-clause-counted
over_escalations-requires-clause-counted c =
    subst (λ (bs : List Block). AreCounted bs c.args.hosts) (sym c.blocks-in-Err.ensures.value) c.requires.counted

pub over_escalations-requires-clause-rest : goal.over_escalations-requires-clause-rest
over_escalations-requires-clause-rest c = subst (λ (bs : List Block). IsFirst (PassesRest bs) None) (sym c.blocks-in-Err.ensures.value) c.requires.rest
