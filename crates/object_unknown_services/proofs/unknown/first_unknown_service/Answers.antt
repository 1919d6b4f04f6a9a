use Rattle.std.proofs.Common.{List, subst}
use Rattle.object_groups.specs.claims.First.{IsFirst}
use Rattle.object_reader.specs.declared.block.Block.{Block}
use Rattle.object_unknown_services.specs.claims.Unknown.{HasUnknownService}
use Rattle.object_unknown_services.proofs.UnknownLemmas.{of-roles}
use Rattle.object_unknown_services.proofs.unknown.first_unknown_service.Goals as goal

pub returns-clause-first : goal.returns-clause-first
returns-clause-first c =
    subst (λ (bs : List Block). IsFirst (HasUnknownService bs) c.lower-2.result) c.requires.services
    (of-roles c.args.services.now c.in_ok-escalated.escalated c.in_ok-masters.masters c.in_ok-dependents.dependents c.lower.result c.lower-2.result c.lower.ensures c.lower-2.ensures
    c.in_ok-escalated.ensures.first c.in_ok-masters.ensures.first c.in_ok-dependents.ensures.first)
