-- The directives by which blocks name objects (chapters "Object Definitions", "Time Periods", "Notification
-- Escalations" and "Host and Service Dependencies"). The `members` of service groups aren't here: they are
-- hosts and services by turns.
use Rattle.std.specs.Prelude.{Bool, List, [], ◌∷◌}
use Rattle.object_reader.specs.declared.block.BlockKind.{BlockKind}
use Rattle.object_names.specs.declared.references.Reference.{Reference}
use Rattle.object_names.specs.declared.references.Reference.TheVariants.{HostGroups, Contacts, GroupsOfContacts, NotificationPeriod, HostMembers, HostGroupMembers, HostNames, HostGroupNames, ServiceGroups, ServiceGroupMembers, ContactGroups, HostPeriod, ServicePeriod, HostCommands, ServiceCommands, ContactMembers, ContactGroupMembers, Excludes, ServiceGroupNames, EscalationPeriod, DependentHostNames, DependentHostGroupNames, DependentServiceGroupNames, DependencyPeriod}
use Rattle.object_inheritance.specs.claims.Kinds.{is_period}
use Rattle.object_inheritance.specs.Kinds.{has_contacts, is_contact, is_contact_group, is_dependency, is_escalation, is_host, is_host_group, is_host_or_service, is_service, is_service_dependency, is_service_group, lists_hosts, lists_services}

-- ---- one after another

-- all of them
abbrev pub all_references : List Reference
all_references = HostMembers ∷ HostNames ∷ HostGroupNames ∷ HostGroups ∷ HostGroupMembers
    ∷ ServiceGroupNames ∷ ServiceGroups ∷ ServiceGroupMembers
    ∷ DependentHostNames ∷ DependentHostGroupNames ∷ DependentServiceGroupNames
    ∷ Contacts ∷ GroupsOfContacts ∷ ContactGroups ∷ ContactMembers ∷ ContactGroupMembers
    ∷ Excludes ∷ NotificationPeriod ∷ HostPeriod ∷ ServicePeriod ∷ EscalationPeriod
    ∷ DependencyPeriod ∷ HostCommands ∷ ServiceCommands ∷ []

-- whether blocks of the type have it
abbrev pub is_reference_of : Reference → BlockKind → Bool
is_reference_of HostMembers kind = is_host_group kind
is_reference_of HostNames kind = lists_hosts kind
is_reference_of HostGroupNames kind = lists_hosts kind
is_reference_of HostGroups kind = is_host kind
is_reference_of HostGroupMembers kind = is_host_group kind
is_reference_of ServiceGroupNames kind = lists_services kind
is_reference_of ServiceGroups kind = is_service kind
is_reference_of ServiceGroupMembers kind = is_service_group kind
is_reference_of DependentHostNames kind = is_dependency kind
is_reference_of DependentHostGroupNames kind = is_dependency kind
is_reference_of DependentServiceGroupNames kind = is_service_dependency kind
is_reference_of Contacts kind = has_contacts kind
is_reference_of GroupsOfContacts kind = has_contacts kind
is_reference_of ContactGroups kind = is_contact kind
is_reference_of ContactMembers kind = is_contact_group kind
is_reference_of ContactGroupMembers kind = is_contact_group kind
is_reference_of Excludes kind = is_period kind
is_reference_of NotificationPeriod kind = is_host_or_service kind
is_reference_of HostPeriod kind = is_contact kind
is_reference_of ServicePeriod kind = is_contact kind
is_reference_of EscalationPeriod kind = is_escalation kind
is_reference_of DependencyPeriod kind = is_dependency kind
is_reference_of HostCommands kind = is_contact kind
is_reference_of ServiceCommands kind = is_contact kind
