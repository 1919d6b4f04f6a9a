-- Which types of block are of one kind (chapter "Object Definitions").
use Rattle.std.specs.Prelude.{Bool, true, false}
use Rattle.object_reader.specs.declared.block.BlockKind.{BlockKind}
use Rattle.object_reader.specs.declared.block.BlockKind.TheVariants.{Host, HostGroup, Service, ServiceGroup, Contact, ContactGroup, HostEscalation, ServiceEscalation, HostDependency, ServiceDependency}

-- whether blocks of the type are hosts
abbrev pub is_host : BlockKind → Bool
is_host Host = true
is_host _ = false

-- whether blocks of the type are services
abbrev pub is_service : BlockKind → Bool
is_service Service = true
is_service _ = false

-- whether blocks of the type are hosts or services
abbrev pub is_host_or_service : BlockKind → Bool
is_host_or_service Host = true
is_host_or_service Service = true
is_host_or_service _ = false

-- whether blocks of the type are contacts
abbrev pub is_contact : BlockKind → Bool
is_contact Contact = true
is_contact _ = false

-- whether blocks of the type are host groups
abbrev pub is_host_group : BlockKind → Bool
is_host_group HostGroup = true
is_host_group _ = false

-- whether blocks of the type are service groups
abbrev pub is_service_group : BlockKind → Bool
is_service_group ServiceGroup = true
is_service_group _ = false

-- whether blocks of the type are contact groups
abbrev pub is_contact_group : BlockKind → Bool
is_contact_group ContactGroup = true
is_contact_group _ = false

-- whether blocks of the type are groups
abbrev pub is_group : BlockKind → Bool
is_group HostGroup = true
is_group ServiceGroup = true
is_group ContactGroup = true
is_group _ = false

-- whether blocks of the type are escalations
abbrev pub is_escalation : BlockKind → Bool
is_escalation HostEscalation = true
is_escalation ServiceEscalation = true
is_escalation _ = false

-- whether blocks of the type are dependencies
abbrev pub is_dependency : BlockKind → Bool
is_dependency HostDependency = true
is_dependency ServiceDependency = true
is_dependency _ = false

-- whether blocks of the type are dependencies of services
abbrev pub is_service_dependency : BlockKind → Bool
is_service_dependency ServiceDependency = true
is_service_dependency _ = false

-- whether blocks of the type have contacts and an interval
abbrev pub has_contacts : BlockKind → Bool
has_contacts Host = true
has_contacts Service = true
has_contacts HostEscalation = true
has_contacts ServiceEscalation = true
has_contacts _ = false

-- whether blocks of the type list hosts and host groups by their names
abbrev pub lists_hosts : BlockKind → Bool
lists_hosts Service = true
lists_hosts HostEscalation = true
lists_hosts ServiceEscalation = true
lists_hosts HostDependency = true
lists_hosts ServiceDependency = true
lists_hosts _ = false

-- whether blocks of the type list services and service groups by their names
abbrev pub lists_services : BlockKind → Bool
lists_services ServiceEscalation = true
lists_services ServiceDependency = true
lists_services _ = false
