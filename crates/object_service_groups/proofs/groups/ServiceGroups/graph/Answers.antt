use Rattle.std.proofs.Common.{List, subst, sym}
use Rattle.object_groups.specs.claims.Objects.{objects_in}
use Rattle.object_reader.specs.declared.block.Block.{Block}
use Rattle.object_reader.specs.declared.block.BlockKind.TheVariants.{Service}
use Rattle.object_services.specs.claims.Limits.{AreHostLists}
use Rattle.object_service_groups.specs.claims.Groups.{grouping}
use Rattle.object_service_groups.specs.Groups.{AreNodes}
use Rattle.object_service_groups.proofs.GroupLemmas.{leads-to_members}
use Rattle.object_service_groups.proofs.groups.ServiceGroups.graph.Goals as goal

pub returns : goal.returns
returns c = λ lists are.
    let nodes : AreNodes (grouping c.args.self.now lists) c.self.inside.services c.self.inside.first c.self.inside.graph =
    subst (λ (bs : List Block). AreNodes (grouping bs lists) c.self.inside.services c.self.inside.first c.self.inside.graph) c.self.view_is
    (c.self.invariant.has_nodes lists (subst (λ (bs : List Block). AreHostLists bs (objects_in bs Service) lists) (sym c.self.view_is) are)) in
    leads-to_members c.args.self.now lists c.self.inside.graph are nodes.graph_is
