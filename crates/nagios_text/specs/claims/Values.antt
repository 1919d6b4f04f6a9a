-- What values mean that only Nagios takes: none at all, and times of a day that end before they begin.
use Rattle.std.specs.Prelude.{ℕ, ◌==◌, Bool, ◌||◌, List, codes, map, is_some, if◌then◌else◌}
use Rattle.std.specs.List.{slice_split}
use Rattle.std.specs.Str.{bytes_eq}
use Rattle.object_groups.specs.claims.Objects.{name_directive}
use Rattle.object_reader.specs.declared.block.BlockKind.{BlockKind}
use Rattle.object_values.specs.claims.Ranges.{ends_before_it_begins, is_dated, weekday_of}
use Rattle.nagios_text.specs.claims.Lone.{with_between}

-- ---- values that are none

-- whether the directive names the block, or its templates
abbrev pub is_naming : BlockKind → List ℕ → Bool
is_naming kind name =
    bytes_eq name (name_directive kind) || bytes_eq name (codes "name") || bytes_eq name (codes "use")

-- whether it is a list of hosts, services, or groups of them, or members of a group
abbrev pub is_list_of_hosts : List ℕ → Bool
is_list_of_hosts name =
    bytes_eq name (codes "host_name") || bytes_eq name (codes "hostgroup_name")
    || bytes_eq name (codes "hostgroups") || bytes_eq name (codes "hostgroup_members")
    || bytes_eq name (codes "service_description") || bytes_eq name (codes "servicegroup_name")
    || bytes_eq name (codes "servicegroups") || bytes_eq name (codes "servicegroup_members")
    || bytes_eq name (codes "members")

-- one of those that depend
abbrev pub is_list_of_dependents : List ℕ → Bool
is_list_of_dependents name =
    bytes_eq name (codes "dependent_host_name") || bytes_eq name (codes "dependent_hostgroup_name")
    || bytes_eq name (codes "dependent_service_description")
    || bytes_eq name (codes "dependent_servicegroup_name")

-- one of contacts, groups of them, or commands
abbrev pub is_list_of_people : List ℕ → Bool
is_list_of_people name =
    bytes_eq name (codes "contacts") || bytes_eq name (codes "contact_groups")
    || bytes_eq name (codes "contactgroups") || bytes_eq name (codes "contactgroup_members")
    || bytes_eq name (codes "host_notification_commands")
    || bytes_eq name (codes "service_notification_commands")

-- a period, or a list of periods
abbrev pub is_period : List ℕ → Bool
is_period name =
    bytes_eq name (codes "notification_period") || bytes_eq name (codes "host_notification_period")
    || bytes_eq name (codes "service_notification_period") || bytes_eq name (codes "escalation_period")
    || bytes_eq name (codes "dependency_period") || bytes_eq name (codes "exclude")

-- whether it is a list of names, or a period
abbrev pub takes_none : List ℕ → Bool
takes_none name =
    is_list_of_hosts name || is_list_of_dependents name || is_list_of_people name || is_period name

-- ---- times of a day

-- whether the directive of a time period is a day line
abbrev pub is_day : List ℕ → Bool
is_day name = is_some (weekday_of name) || is_dated name

-- a range that ends before it begins holds nothing
abbrev pub range_said : List ℕ → List ℕ
range_said range = if ends_before_it_begins range then codes "00:00-00:00" else range

-- the value of a day line
abbrev pub day_value : List ℕ → List ℕ
day_value ranges = with_between 44 (map range_said (slice_split (λ b. b == 44) ranges))
