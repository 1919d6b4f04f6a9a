-- The roles that objects have in blocks, and the directives that list them (chapters "Notification Escalations" and
-- "Host and Service Dependencies").
use Rattle.std.specs.Prelude.{codes}
use Rattle.object_reader.specs.declared.block.BlockKind.{BlockKind}
use Rattle.object_reader.specs.declared.block.BlockKind.TheVariants.{HostEscalation, ServiceEscalation, HostDependency, ServiceDependency}
use Rattle.object_reached.specs.declared.roles.Role.{Role}
use Rattle.object_reached.specs.declared.roles.Role.TheVariants.{Escalated, Master, Dependent}
use Rattle.object_reached.specs.claims.Listed.{ServiceDirectives}

-- the type of the blocks that speak of hosts in a role
abbrev pub host_kind : Role → BlockKind
host_kind Escalated = HostEscalation
host_kind Master = HostDependency
host_kind Dependent = HostDependency

-- and of services
abbrev pub service_kind : Role → BlockKind
service_kind Escalated = ServiceEscalation
service_kind Master = ServiceDependency
service_kind Dependent = ServiceDependency

-- the directives of an escalation, and those of a dependency's masters
abbrev pub plain_directives : ServiceDirectives
plain_directives = record {
  hosts = codes "host_name";
  host_groups = codes "hostgroup_name";
  descriptions = codes "service_description";
  groups = codes "servicegroup_name";
}

-- those of a dependency's dependents
abbrev pub dependent_directives : ServiceDirectives
dependent_directives = record {
  hosts = codes "dependent_host_name";
  host_groups = codes "dependent_hostgroup_name";
  descriptions = codes "dependent_service_description";
  groups = codes "dependent_servicegroup_name";
}

-- The directives by which blocks list the objects of a role.
abbrev pub directives_of : Role → ServiceDirectives
directives_of Escalated = plain_directives
directives_of Master = plain_directives
directives_of Dependent = dependent_directives
