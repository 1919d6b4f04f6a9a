-- The directives by which blocks name objects (chapters "Object Definitions", "Time Periods", "Notification
-- Escalations" and "Host and Service Dependencies"). The `members` of service groups aren't here: they are
-- hosts and services by turns.
use Rattle.std.specs.Prelude.{ℕ, Bool, true, false, List, [], ◌∷◌, codes, if◌then◌else◌}
use Rattle.object_reader.specs.declared.block.BlockKind.{BlockKind}
use Rattle.object_reader.specs.declared.block.BlockKind.TheVariants.{Host, HostGroup, Service, ServiceGroup, Contact, ContactGroup, TimePeriod, HostEscalation, ServiceEscalation, HostDependency, ServiceDependency}
use Rattle.object_names.specs.declared.named.NamedKind.{NamedKind}
use Rattle.object_names.specs.declared.named.NamedKind.TheVariants as of
use Rattle.object_names.specs.declared.references.Reading.{Reading}
use Rattle.object_names.specs.declared.references.Reading.TheVariants.{NamesOrAll, Names, Period, Commands}
use Rattle.object_names.specs.declared.references.Reference.{Reference}
use Rattle.object_names.specs.declared.references.Reference.TheVariants.{HostGroups, Contacts, GroupsOfContacts, NotificationPeriod, HostMembers, HostGroupMembers, HostNames, HostGroupNames, ServiceGroups, ServiceGroupMembers, ContactGroups, HostPeriod, ServicePeriod, HostCommands, ServiceCommands, ContactMembers, ContactGroupMembers, Excludes, ServiceGroupNames, EscalationPeriod, DependentHostNames, DependentHostGroupNames, DependentServiceGroupNames, DependencyPeriod}

-- what blocks of each type name
abbrev pub references : BlockKind → List Reference
references Host = HostGroups ∷ Contacts ∷ GroupsOfContacts ∷ NotificationPeriod ∷ []
references HostGroup = HostMembers ∷ HostGroupMembers ∷ []
references Service = HostNames ∷ HostGroupNames ∷ ServiceGroups
    ∷ Contacts ∷ GroupsOfContacts ∷ NotificationPeriod ∷ []
references ServiceGroup = ServiceGroupMembers ∷ []
references Contact =
    ContactGroups ∷ HostPeriod ∷ ServicePeriod ∷ HostCommands ∷ ServiceCommands ∷ []
references ContactGroup = ContactMembers ∷ ContactGroupMembers ∷ []
references TimePeriod = Excludes ∷ []
references HostEscalation = HostNames ∷ HostGroupNames
    ∷ Contacts ∷ GroupsOfContacts ∷ EscalationPeriod ∷ []
references ServiceEscalation = HostNames ∷ HostGroupNames ∷ ServiceGroupNames
    ∷ Contacts ∷ GroupsOfContacts ∷ EscalationPeriod ∷ []
references HostDependency = HostNames ∷ HostGroupNames
    ∷ DependentHostNames ∷ DependentHostGroupNames ∷ DependencyPeriod ∷ []
references ServiceDependency = HostNames ∷ HostGroupNames ∷ ServiceGroupNames
    ∷ DependentHostNames ∷ DependentHostGroupNames ∷ DependentServiceGroupNames
    ∷ DependencyPeriod ∷ []
references _ = []

-- the directive
abbrev pub directive_of : Reference → List ℕ
directive_of HostNames = codes "host_name"
directive_of HostGroupNames = codes "hostgroup_name"
directive_of ServiceGroupNames = codes "servicegroup_name"
directive_of DependentHostNames = codes "dependent_host_name"
directive_of DependentHostGroupNames = codes "dependent_hostgroup_name"
directive_of DependentServiceGroupNames = codes "dependent_servicegroup_name"
directive_of HostGroups = codes "hostgroups"
directive_of ServiceGroups = codes "servicegroups"
directive_of ContactGroups = codes "contactgroups"
directive_of HostMembers = codes "members"
directive_of ContactMembers = codes "members"
directive_of HostGroupMembers = codes "hostgroup_members"
directive_of ServiceGroupMembers = codes "servicegroup_members"
directive_of ContactGroupMembers = codes "contactgroup_members"
directive_of Contacts = codes "contacts"
directive_of GroupsOfContacts = codes "contact_groups"
directive_of Excludes = codes "exclude"
directive_of HostCommands = codes "host_notification_commands"
directive_of ServiceCommands = codes "service_notification_commands"
directive_of NotificationPeriod = codes "notification_period"
directive_of HostPeriod = codes "host_notification_period"
directive_of ServicePeriod = codes "service_notification_period"
directive_of EscalationPeriod = codes "escalation_period"
directive_of DependencyPeriod = codes "dependency_period"

-- the type of what it names
abbrev pub named_of : Reference → NamedKind
named_of HostNames = of.Host
named_of DependentHostNames = of.Host
named_of HostMembers = of.Host
named_of HostGroupNames = of.HostGroup
named_of DependentHostGroupNames = of.HostGroup
named_of HostGroups = of.HostGroup
named_of HostGroupMembers = of.HostGroup
named_of ServiceGroupNames = of.ServiceGroup
named_of DependentServiceGroupNames = of.ServiceGroup
named_of ServiceGroups = of.ServiceGroup
named_of ServiceGroupMembers = of.ServiceGroup
named_of Contacts = of.Contact
named_of ContactMembers = of.Contact
named_of GroupsOfContacts = of.ContactGroup
named_of ContactGroups = of.ContactGroup
named_of ContactGroupMembers = of.ContactGroup
named_of HostCommands = of.Command
named_of ServiceCommands = of.Command
named_of Excludes = of.TimePeriod
named_of NotificationPeriod = of.TimePeriod
named_of HostPeriod = of.TimePeriod
named_of ServicePeriod = of.TimePeriod
named_of EscalationPeriod = of.TimePeriod
named_of DependencyPeriod = of.TimePeriod

-- How its value is read: * alone is all of the type in the lists of hosts, of contacts and of groups of these;
-- in those of service groups, periods and commands it is a name.
abbrev pub list_reading : NamedKind → Reading
list_reading of.Host = NamesOrAll
list_reading of.HostGroup = NamesOrAll
list_reading of.ServiceGroup = Names
list_reading of.Contact = NamesOrAll
list_reading of.ContactGroup = NamesOrAll
list_reading of.TimePeriod = Names
list_reading of.Command = Commands

-- whether it is the name of a period, and no list
abbrev pub is_period_name : Reference → Bool
is_period_name NotificationPeriod = true
is_period_name HostPeriod = true
is_period_name ServicePeriod = true
is_period_name EscalationPeriod = true
is_period_name DependencyPeriod = true
is_period_name _ = false

abbrev pub reading_of : Reference → Reading
reading_of reference =
    if is_period_name reference then Period else list_reading (named_of reference)
