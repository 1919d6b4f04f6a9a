-- The lists of names one after another: which blocks have each.
use Rattle.std.specs.Prelude.{ℕ, Bool, List, codes}
use Rattle.object_reader.specs.declared.block.BlockKind.{BlockKind}
use Rattle.object_faults.specs.declared.lists.NameList.{NameList}
use Rattle.object_faults.specs.declared.lists.NameList.TheVariants.{HostGroups, ServiceGroups, ContactGroups, HostNames, HostGroupNames, Descriptions, ServiceGroupNames, DependentHostNames, DependentHostGroupNames, DependentDescriptions, DependentServiceGroupNames, Contacts, GroupsOfContacts, HostCommands, ServiceCommands, Members, HostGroupMembers, ServiceGroupMembers, ContactGroupMembers, Excludes}
use Rattle.object_inheritance.specs.claims.Kinds.{is_period}
use Rattle.object_inheritance.specs.Kinds.{has_contacts, is_contact, is_contact_group, is_dependency, is_group, is_host, is_host_group, is_service, is_service_dependency, is_service_group, lists_hosts, lists_services}

-- the name of a list
abbrev pub list_directive : NameList → List ℕ
list_directive HostGroups = codes "hostgroups"
list_directive ServiceGroups = codes "servicegroups"
list_directive ContactGroups = codes "contactgroups"
list_directive HostNames = codes "host_name"
list_directive HostGroupNames = codes "hostgroup_name"
list_directive Descriptions = codes "service_description"
list_directive ServiceGroupNames = codes "servicegroup_name"
list_directive DependentHostNames = codes "dependent_host_name"
list_directive DependentHostGroupNames = codes "dependent_hostgroup_name"
list_directive DependentDescriptions = codes "dependent_service_description"
list_directive DependentServiceGroupNames = codes "dependent_servicegroup_name"
list_directive Contacts = codes "contacts"
list_directive GroupsOfContacts = codes "contact_groups"
list_directive HostCommands = codes "host_notification_commands"
list_directive ServiceCommands = codes "service_notification_commands"
list_directive Members = codes "members"
list_directive HostGroupMembers = codes "hostgroup_members"
list_directive ServiceGroupMembers = codes "servicegroup_members"
list_directive ContactGroupMembers = codes "contactgroup_members"
list_directive Excludes = codes "exclude"

-- whether blocks of the type have the list
abbrev pub is_list_of : NameList → BlockKind → Bool
is_list_of HostGroups kind = is_host kind
is_list_of ServiceGroups kind = is_service kind
is_list_of ContactGroups kind = is_contact kind
is_list_of HostNames kind = lists_hosts kind
is_list_of HostGroupNames kind = lists_hosts kind
is_list_of Descriptions kind = lists_services kind
is_list_of ServiceGroupNames kind = lists_services kind
is_list_of DependentHostNames kind = is_dependency kind
is_list_of DependentHostGroupNames kind = is_dependency kind
is_list_of DependentDescriptions kind = is_service_dependency kind
is_list_of DependentServiceGroupNames kind = is_service_dependency kind
is_list_of Contacts kind = has_contacts kind
is_list_of GroupsOfContacts kind = has_contacts kind
is_list_of HostCommands kind = is_contact kind
is_list_of ServiceCommands kind = is_contact kind
is_list_of Members kind = is_group kind
is_list_of HostGroupMembers kind = is_host_group kind
is_list_of ServiceGroupMembers kind = is_service_group kind
is_list_of ContactGroupMembers kind = is_contact_group kind
is_list_of Excludes kind = is_period kind
