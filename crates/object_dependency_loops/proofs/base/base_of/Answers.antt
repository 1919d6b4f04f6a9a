use Rattle.std.proofs.Common.{◌≡◌, ◌≤◌, ◌∙◌, List, ap, arith, length, subst, sym}
use Rattle.std.proofs.lemmas.Bool.{false≢true}
use Rattle.object_groups.specs.claims.Objects.{objects_in}
use Rattle.object_reader.specs.declared.block.Block.{Block}
use Rattle.object_reader.specs.declared.block.BlockKind.TheVariants.{Service}
use Rattle.object_service_groups.specs.claims.Groups.{grouping as service_grouping}
use Rattle.object_service_groups.specs.Groups.{LeadsToMembers as LeadsToServices}
use Rattle.object_service_groups.specs.Nodes.{first_group}
use Rattle.object_services.specs.claims.Limits.{AreHostLists}
use Rattle.object_services.specs.claims.Numbers.{Pair}
use Rattle.object_dependency_loops.specs.Base.{service_count}
use Rattle.object_dependency_loops.proofs.base.base_of.Goals as goal

pub base_with-requires-clause-services : goal.base_with-requires-clause-services
base_with-requires-clause-services c =
    let b = c.args.blocks.now in
    let sg = c.graph.result.now in
    let services : c.len-services.result ≡ service_count b = c.len-services.ensures ∙ ap (λ (ps : List Pair). length ps) c.services.ensures.services in
    let lists : AreHostLists c.args.groups.now (objects_in c.args.groups.now Service) b.lists =
    subst (λ (bs : List Block). AreHostLists bs (objects_in bs Service) b.lists) (sym c.requires.groups) c.services.ensures.lists in
    let leads : LeadsToServices b.blocks b.lists sg = subst (λ (bs : List Block). LeadsToServices bs b.lists sg) c.requires.groups (c.graph.ensures b.lists lists) in
    let first : c.first_node-first.result ≡ first_group (service_grouping b.blocks b.lists) =
    c.first_node-first.ensures b.lists lists ∙ ap (λ (bs : List Block). first_group (service_grouping bs b.lists)) c.requires.groups in
    let count = leads.count in
    let all : service_count b ≤ length sg = leads.services in
    record {
      few = omega (arith, services);
      services_within = omega (arith, services, all);
      first_within = omega (arith, first, count);
      all = λ has. services;
      first_is = λ has. first;
      leads = λ has. leads;
    }

pub base_with-requires-else-has_groups-clause-services : goal.base_with-requires-else-has_groups-clause-services
base_with-requires-else-has_groups-clause-services c = record {
  few = omega arith;
  services_within = omega arith;
  first_within = omega arith;
  all = λ has. absurd (false≢true has);
  first_is = λ has. absurd (false≢true has);
  leads = λ has. absurd (false≢true has);
}
