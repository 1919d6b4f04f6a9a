use Rattle.std.proofs.Common.{◌∙◌, List, ap, subst, sym}
use Rattle.object_groups.specs.declared.groups.GroupKind.TheVariants.{HostGroups}
use Rattle.object_groups.specs.claims.Objects.{objects_in}
use Rattle.object_reader.specs.declared.block.Block.{Block}
use Rattle.object_reader.specs.declared.block.BlockKind.TheVariants.{Service}
use Rattle.object_resolve.specs.Tables.{AreServices}
use Rattle.object_services.specs.claims.Limits.{AreHostLists}
use Rattle.object_resolve.proofs.limits.check_counted.Goals as goal

pub services_of-requires-clause-hosts : goal.services_of-requires-clause-hosts
services_of-requires-clause-hosts c = c.requires.tables.hosts_are ∙ ap (λ (bs : List Block). record { blocks = bs; kind = HostGroups }) (sym c.requires.tables.services_are)

pub services_of-requires-clause-lists : goal.services_of-requires-clause-lists
services_of-requires-clause-lists c =
    subst (λ (bs : List Block). AreHostLists bs (objects_in bs Service) c.args.hosts) (sym c.requires.tables.services_are) c.requires.counted.hosts_are

pub check_dependency_loops-requires-clause-hosts : goal.check_dependency_loops-requires-clause-hosts
check_dependency_loops-requires-clause-hosts c = c.requires.counted.hosts_are

pub check_dependency_loops-requires-clause-services : goal.check_dependency_loops-requires-clause-services
check_dependency_loops-requires-clause-services c =
    subst (λ (bs : List Block). AreServices bs c.args.hosts c.in_ok-services.services) c.requires.tables.services_are
    (record { services_are = c.in_ok-services.ensures.services; few = c.in_ok-services.ensures.few })

pub check_dependency_loops-requires-clause-keeps : goal.check_dependency_loops-requires-clause-keeps
check_dependency_loops-requires-clause-keeps c = c.requires.counted.within

pub counts_of-requires-clause-services : goal.counts_of-requires-clause-services
counts_of-requires-clause-services c =
    subst (λ (bs : List Block). AreServices bs c.args.hosts c.in_ok-services.services) c.requires.tables.services_are
    (record { services_are = c.in_ok-services.ensures.services; few = c.in_ok-services.ensures.few })

pub groups_in-requires-clause-hosts : goal.groups_in-requires-clause-hosts
groups_in-requires-clause-hosts c = c.requires.counted.hosts_are
