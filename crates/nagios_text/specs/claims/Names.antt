-- The spellings of directives that Nagios takes beside the standard ones, type by type (`xodtemplate.c` of Nagios Core 4.4.6).
use Rattle.std.specs.Prelude.{ℕ, ◌||◌, List, codes, if◌then◌else◌}
use Rattle.std.specs.Str.{bytes_eq}
use Rattle.object_reader.specs.declared.block.BlockKind.{BlockKind}
use Rattle.object_reader.specs.declared.block.BlockKind.TheVariants.{Contact, Host, HostDependency, HostEscalation, Service, ServiceDependency, ServiceEscalation}

-- in host blocks
abbrev pub for_hosts : List ℕ → List ℕ
for_hosts name = if bytes_eq name (codes "host_groups") then codes "hostgroups" else name

-- in contact blocks
abbrev pub for_contacts : List ℕ → List ℕ
for_contacts name =
    if bytes_eq name (codes "contact_groups") then codes "contactgroups" else name

-- where hosts are named
abbrev pub for_objects : List ℕ → List ℕ
for_objects name =
    if bytes_eq name (codes "host") || bytes_eq name (codes "hosts") then codes "host_name"
    else if bytes_eq name (codes "hostgroup") || bytes_eq name (codes "hostgroups") then codes "hostgroup_name"
    else name

-- where services are
abbrev pub for_services : List ℕ → List ℕ
for_services name =
    if bytes_eq name (codes "description") then codes "service_description"
    else if bytes_eq name (codes "servicegroup") || bytes_eq name (codes "servicegroups") then codes "servicegroup_name"
    else for_objects name

-- where those are named that depend
abbrev pub for_dependents : List ℕ → List ℕ
for_dependents name =
    if bytes_eq name (codes "dependent_host") then codes "dependent_host_name"
    else if bytes_eq name (codes "dependent_hostgroup") || bytes_eq name (codes "dependent_hostgroups")
    then codes "dependent_hostgroup_name"
    else if bytes_eq name (codes "dependent_description") then codes "dependent_service_description"
    else if bytes_eq name (codes "dependent_servicegroup") || bytes_eq name (codes "dependent_servicegroups")
    then codes "dependent_servicegroup_name"
    else if bytes_eq name (codes "notification_failure_options") then codes "notification_failure_criteria"
    else name

-- in blocks of dependencies of hosts
abbrev pub for_masters : List ℕ → List ℕ
for_masters name =
    if bytes_eq name (codes "master_host") || bytes_eq name (codes "master_host_name") then codes "host_name"
    else for_dependents (for_objects name)

-- in blocks of dependencies of services
abbrev pub for_service_masters : List ℕ → List ℕ
for_service_masters name =
    if bytes_eq name (codes "master_host") || bytes_eq name (codes "master_host_name") then codes "host_name"
    else if bytes_eq name (codes "master_description") || bytes_eq name (codes "master_service_description")
    then codes "service_description"
    else for_dependents (for_services name)

-- in service blocks
abbrev pub for_service_blocks : List ℕ → List ℕ
for_service_blocks name =
    if bytes_eq name (codes "service_groups") then codes "servicegroups"
    else if bytes_eq name (codes "description") then codes "service_description"
    else for_objects name

-- the standard name of a directive in blocks of the kind
abbrev pub plain_name : BlockKind → List ℕ → List ℕ
plain_name Host name = for_hosts name
plain_name Service name = for_service_blocks name
plain_name Contact name = for_contacts name
plain_name HostEscalation name = for_objects name
plain_name ServiceEscalation name = for_services name
plain_name HostDependency name = for_masters name
plain_name ServiceDependency name = for_service_masters name
plain_name kind name = name
