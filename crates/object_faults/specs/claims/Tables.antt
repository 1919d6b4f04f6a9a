-- What each type of block must have, and what its directives must be (chapters "Object Definitions",
-- "Time Periods", "Notification Escalations" and "Host and Service Dependencies").
use Rattle.std.specs.Prelude.{ℕ, List, [], ◌∷◌, codes}
use Rattle.object_reader.specs.declared.block.BlockKind.{BlockKind}
use Rattle.object_reader.specs.declared.block.BlockKind.TheVariants.{Host, HostGroup, Service, ServiceGroup, Contact, ContactGroup, TimePeriod, Command, HostEscalation, ServiceEscalation, HostDependency, ServiceDependency, HostExtInfo, ServiceExtInfo}
use Rattle.object_values.specs.claims.Ranges.{weekdays}
use Rattle.object_values.specs.declared.options.OptionKind.TheVariants as lists
use Rattle.object_values.specs.declared.options.CriteriaKind.TheVariants.{OfHosts, OfServices}
use Rattle.object_faults.specs.declared.column.Check.{Check}
use Rattle.object_faults.specs.declared.column.Check.TheVariants.{Options, Criteria}
use Rattle.object_faults.specs.declared.needs.Need.{Need}
use Rattle.object_faults.specs.declared.needs.Need.TheVariants as needs
use Rattle.object_faults.specs.declared.needs.Side.{Side}
use Rattle.object_faults.specs.declared.needs.Side.TheVariants.{Masters, Dependents}

-- ---- what a block must have

-- the directive that names the object
abbrev pub names : BlockKind → List (List ℕ)
names Host = codes "host_name" ∷ []
names HostGroup = codes "hostgroup_name" ∷ []
names Service = codes "service_description" ∷ []
names ServiceGroup = codes "servicegroup_name" ∷ []
names Contact = codes "contact_name" ∷ []
names ContactGroup = codes "contactgroup_name" ∷ []
names TimePeriod = codes "timeperiod_name" ∷ []
names Command = codes "command_name" ∷ []
names _ = []

-- the directives by which each side of a dependency lists hosts, host groups, descriptions of services and
-- service groups; services and escalations have those of the masters
abbrev pub host_directive : Side → List ℕ
host_directive Masters = codes "host_name"
host_directive Dependents = codes "dependent_host_name"

abbrev pub group_directive : Side → List ℕ
group_directive Masters = codes "hostgroup_name"
group_directive Dependents = codes "dependent_hostgroup_name"

abbrev pub description_directive : Side → List ℕ
description_directive Masters = codes "service_description"
description_directive Dependents = codes "dependent_service_description"

abbrev pub service_group_directive : Side → List ℕ
service_group_directive Masters = codes "servicegroup_name"
service_group_directive Dependents = codes "dependent_servicegroup_name"

-- a need on the side of the masters alone
abbrev pub masters_alone : Side → Need → Need
masters_alone Masters need = need
masters_alone Dependents need = needs.Nothing

-- what a block must list on a side
abbrev pub needed : BlockKind → Side → Need
needed Service side = masters_alone side needs.Hosts
needed HostEscalation side = masters_alone side needs.Hosts
needed ServiceEscalation side = masters_alone side needs.Services
needed HostDependency side = needs.Hosts
needed ServiceDependency side = needs.Services
needed _ side = needs.Nothing

-- ---- what its directives must be

-- the directives that are numbers; a flag is one
abbrev pub numbers : BlockKind → List (List ℕ)
numbers Host = codes "register" ∷ codes "notification_interval" ∷ codes "notifications_enabled"
    ∷ codes "first_notification_delay" ∷ []
numbers Service = codes "register" ∷ codes "notification_interval" ∷ codes "notifications_enabled"
    ∷ codes "first_notification_delay" ∷ codes "is_volatile" ∷ []
numbers Contact = codes "register" ∷ codes "host_notifications_enabled"
    ∷ codes "service_notifications_enabled" ∷ []
numbers HostEscalation = codes "register" ∷ codes "notification_interval"
    ∷ codes "first_notification" ∷ codes "last_notification" ∷ []
numbers ServiceEscalation = codes "register" ∷ codes "notification_interval"
    ∷ codes "first_notification" ∷ codes "last_notification" ∷ []
numbers HostDependency = codes "register" ∷ codes "inherits_parent" ∷ []
numbers ServiceDependency = codes "register" ∷ codes "inherits_parent" ∷ []
numbers HostExtInfo = []
numbers ServiceExtInfo = []
numbers _ = codes "register" ∷ []

-- the directives that are lists of options or states, with the kind of each list
abbrev pub option_lists : BlockKind → List (Check × List ℕ)
option_lists Host = (Options lists.Host, codes "notification_options") ∷ []
option_lists Service = (Options lists.Service, codes "notification_options") ∷ []
option_lists Contact = (Options lists.Host, codes "host_notification_options")
    ∷ (Options lists.Service, codes "service_notification_options") ∷ []
option_lists HostEscalation = (Options lists.HostEscalation, codes "escalation_options") ∷ []
option_lists ServiceEscalation = (Options lists.ServiceEscalation, codes "escalation_options") ∷ []
option_lists HostDependency = (Criteria OfHosts, codes "notification_failure_criteria") ∷ []
option_lists ServiceDependency = (Criteria OfServices, codes "notification_failure_criteria") ∷ []
option_lists _ = []

-- the directives that are ranges of times
abbrev pub range_lines : BlockKind → List (List ℕ)
range_lines TimePeriod = weekdays
range_lines _ = []

-- the directives that must be the number 0
abbrev pub zeros : BlockKind → List (List ℕ)
zeros Service = codes "is_volatile" ∷ []
zeros _ = []

-- the directives that are lists of names, none of which leaves something out
abbrev pub name_lists : BlockKind → List (List ℕ)
name_lists Host = codes "hostgroups" ∷ codes "contacts" ∷ codes "contact_groups" ∷ []
name_lists HostGroup = codes "members" ∷ codes "hostgroup_members" ∷ []
name_lists Service = codes "servicegroups" ∷ codes "host_name" ∷ codes "hostgroup_name"
    ∷ codes "contacts" ∷ codes "contact_groups" ∷ []
name_lists ServiceGroup = codes "members" ∷ codes "servicegroup_members" ∷ []
name_lists Contact = codes "contactgroups"
    ∷ codes "host_notification_commands" ∷ codes "service_notification_commands" ∷ []
name_lists ContactGroup = codes "members" ∷ codes "contactgroup_members" ∷ []
name_lists TimePeriod = codes "exclude" ∷ []
name_lists HostEscalation = codes "host_name" ∷ codes "hostgroup_name"
    ∷ codes "contacts" ∷ codes "contact_groups" ∷ []
name_lists ServiceEscalation = codes "host_name" ∷ codes "hostgroup_name"
    ∷ codes "service_description" ∷ codes "servicegroup_name"
    ∷ codes "contacts" ∷ codes "contact_groups" ∷ []
name_lists HostDependency = codes "host_name" ∷ codes "hostgroup_name"
    ∷ codes "dependent_host_name" ∷ codes "dependent_hostgroup_name" ∷ []
name_lists ServiceDependency = codes "host_name" ∷ codes "hostgroup_name"
    ∷ codes "service_description" ∷ codes "servicegroup_name"
    ∷ codes "dependent_host_name" ∷ codes "dependent_hostgroup_name"
    ∷ codes "dependent_service_description" ∷ codes "dependent_servicegroup_name" ∷ []
name_lists _ = []
