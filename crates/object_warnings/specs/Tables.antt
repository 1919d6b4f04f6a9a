-- The directives that each type of block has in Nagios: those that are read here, and those that have no effect here (chapter
-- "Object Definitions"). Lines of days aren't among them.
use Rattle.std.specs.Prelude.{ℕ, List, [], ◌∷◌, codes}
use Rattle.object_reader.specs.declared.block.BlockKind.{BlockKind}
use Rattle.object_reader.specs.declared.block.BlockKind.TheVariants.{Host, HostGroup, Service, ServiceGroup, Contact, ContactGroup, TimePeriod, Command, HostEscalation, ServiceEscalation, HostDependency, ServiceDependency, HostExtInfo, ServiceExtInfo}

-- the directives that are read here
abbrev pub read_here : BlockKind → List (List ℕ)
read_here Host = codes "name" ∷ codes "use" ∷ codes "register" ∷ codes "host_name" ∷ codes "hostgroups" ∷
    codes "contacts" ∷ codes "contact_groups" ∷ codes "notification_interval" ∷ codes "notification_period" ∷
    codes "notification_options" ∷ codes "notifications_enabled" ∷ codes "first_notification_delay" ∷ []
read_here HostGroup = codes "name" ∷ codes "use" ∷ codes "register" ∷ codes "hostgroup_name" ∷ codes "members" ∷
    codes "hostgroup_members" ∷ []
read_here Service = codes "name" ∷ codes "use" ∷ codes "register" ∷ codes "service_description" ∷ codes "host_name" ∷
    codes "hostgroup_name" ∷ codes "servicegroups" ∷ codes "is_volatile" ∷ codes "contacts" ∷ codes "contact_groups" ∷
    codes "notification_interval" ∷ codes "notification_period" ∷ codes "notification_options" ∷
    codes "notifications_enabled" ∷ codes "first_notification_delay" ∷ []
read_here ServiceGroup = codes "name" ∷ codes "use" ∷ codes "register" ∷ codes "servicegroup_name" ∷ codes "members" ∷
    codes "servicegroup_members" ∷ []
read_here Contact = codes "name" ∷ codes "use" ∷ codes "register" ∷ codes "contact_name" ∷ codes "contactgroups" ∷
    codes "host_notifications_enabled" ∷ codes "host_notification_period" ∷ codes "host_notification_options" ∷
    codes "host_notification_commands" ∷ codes "service_notifications_enabled" ∷ codes "service_notification_period" ∷
    codes "service_notification_options" ∷ codes "service_notification_commands" ∷ []
read_here ContactGroup = codes "name" ∷ codes "use" ∷ codes "register" ∷ codes "contactgroup_name" ∷ codes "members" ∷
    codes "contactgroup_members" ∷ []
read_here TimePeriod = codes "name" ∷ codes "use" ∷ codes "register" ∷ codes "timeperiod_name" ∷ codes "exclude" ∷ []
read_here Command = codes "name" ∷ codes "use" ∷ codes "register" ∷ codes "command_name" ∷ []
read_here HostEscalation = codes "name" ∷ codes "use" ∷ codes "register" ∷ codes "host_name" ∷ codes "hostgroup_name"
    ∷ codes "contacts" ∷ codes "contact_groups" ∷ codes "first_notification" ∷ codes "last_notification" ∷
    codes "notification_interval" ∷ codes "escalation_period" ∷ codes "escalation_options" ∷ []
read_here ServiceEscalation = codes "name" ∷ codes "use" ∷ codes "register" ∷ codes "host_name" ∷
    codes "hostgroup_name" ∷ codes "service_description" ∷ codes "servicegroup_name" ∷ codes "contacts" ∷
    codes "contact_groups" ∷ codes "first_notification" ∷ codes "last_notification" ∷ codes "notification_interval" ∷
    codes "escalation_period" ∷ codes "escalation_options" ∷ []
read_here HostDependency = codes "name" ∷ codes "use" ∷ codes "register" ∷ codes "host_name" ∷ codes "hostgroup_name"
    ∷ codes "dependent_host_name" ∷ codes "dependent_hostgroup_name" ∷ codes "notification_failure_criteria" ∷
    codes "inherits_parent" ∷ codes "dependency_period" ∷ []
read_here ServiceDependency = codes "name" ∷ codes "use" ∷ codes "register" ∷ codes "host_name" ∷
    codes "hostgroup_name" ∷ codes "service_description" ∷ codes "servicegroup_name" ∷ codes "dependent_host_name" ∷
    codes "dependent_hostgroup_name" ∷ codes "dependent_service_description" ∷ codes "dependent_servicegroup_name" ∷
    codes "notification_failure_criteria" ∷ codes "inherits_parent" ∷ codes "dependency_period" ∷ []
read_here HostExtInfo = codes "name" ∷ codes "use" ∷ codes "register" ∷ []
read_here ServiceExtInfo = codes "name" ∷ codes "use" ∷ codes "register" ∷ []

-- Those that Nagios reads and this program doesn't; some are other names of ones that it does.
abbrev pub passed_over : BlockKind → List (List ℕ)
passed_over Host = codes "display_name" ∷ codes "alias" ∷ codes "address" ∷ codes "parents" ∷ codes "host_groups" ∷
    codes "checks_enabled" ∷ codes "obsess_over_host" ∷ codes "check_command" ∷ codes "check_period" ∷
    codes "check_interval" ∷ codes "normal_check_interval" ∷ codes "retry_interval" ∷ codes "retry_check_interval" ∷
    codes "max_check_attempts" ∷ codes "active_checks_enabled" ∷ codes "passive_checks_enabled" ∷
    codes "event_handler" ∷ codes "event_handler_enabled" ∷ codes "check_freshness" ∷ codes "freshness_threshold" ∷
    codes "low_flap_threshold" ∷ codes "high_flap_threshold" ∷ codes "flap_detection_enabled" ∷
    codes "flap_detection_options" ∷ codes "stalking_options" ∷ codes "process_perf_data" ∷
    codes "failure_prediction_enabled" ∷ codes "failure_prediction_options" ∷ codes "retain_status_information" ∷
    codes "retain_nonstatus_information" ∷ codes "obsess" ∷ codes "initial_state" ∷ codes "importance" ∷
    codes "hourly_value" ∷ codes "notes" ∷ codes "notes_url" ∷ codes "action_url" ∷ codes "icon_image" ∷
    codes "icon_image_alt" ∷ codes "vrml_image" ∷ codes "statusmap_image" ∷ codes "gd2_image" ∷ codes "2d_coords" ∷
    codes "3d_coords" ∷ []
passed_over HostGroup = codes "alias" ∷ codes "notes" ∷ codes "notes_url" ∷ codes "action_url" ∷ []
passed_over Service = codes "display_name" ∷ codes "parents" ∷ codes "host" ∷ codes "hosts" ∷ codes "hostgroup" ∷
    codes "hostgroups" ∷ codes "service_groups" ∷ codes "description" ∷ codes "parallelize_check" ∷
    codes "obsess_over_service" ∷ codes "check_command" ∷ codes "check_period" ∷ codes "check_interval" ∷
    codes "normal_check_interval" ∷ codes "retry_interval" ∷ codes "retry_check_interval" ∷ codes "max_check_attempts"
    ∷ codes "active_checks_enabled" ∷ codes "passive_checks_enabled" ∷ codes "event_handler" ∷
    codes "event_handler_enabled" ∷ codes "check_freshness" ∷ codes "freshness_threshold" ∷ codes "low_flap_threshold"
    ∷ codes "high_flap_threshold" ∷ codes "flap_detection_enabled" ∷ codes "flap_detection_options" ∷
    codes "stalking_options" ∷ codes "process_perf_data" ∷ codes "failure_prediction_enabled" ∷
    codes "failure_prediction_options" ∷ codes "retain_status_information" ∷ codes "retain_nonstatus_information" ∷
    codes "obsess" ∷ codes "initial_state" ∷ codes "importance" ∷ codes "hourly_value" ∷ codes "notes" ∷
    codes "notes_url" ∷ codes "action_url" ∷ codes "icon_image" ∷ codes "icon_image_alt" ∷ []
passed_over ServiceGroup = codes "alias" ∷ codes "notes" ∷ codes "notes_url" ∷ codes "action_url" ∷ []
passed_over Contact = codes "alias" ∷ codes "contact_groups" ∷ codes "email" ∷ codes "pager" ∷ codes "address1" ∷
    codes "address2" ∷ codes "address3" ∷ codes "address4" ∷ codes "address5" ∷ codes "address6" ∷
    codes "can_submit_commands" ∷ codes "retain_status_information" ∷ codes "retain_nonstatus_information" ∷
    codes "minimum_importance" ∷ codes "minimum_value" ∷ []
passed_over ContactGroup = codes "alias" ∷ []
passed_over TimePeriod = codes "alias" ∷ []
passed_over Command = codes "command_line" ∷ []
passed_over HostEscalation = codes "host" ∷ codes "hostgroup" ∷ codes "hostgroups" ∷ []
passed_over ServiceEscalation = codes "host" ∷ codes "hostgroup" ∷ codes "hostgroups" ∷ codes "servicegroup" ∷
    codes "servicegroups" ∷ codes "description" ∷ []
passed_over HostDependency = codes "host" ∷ codes "master_host" ∷ codes "master_host_name" ∷ codes "hostgroup" ∷
    codes "hostgroups" ∷ codes "dependent_host" ∷ codes "dependent_hostgroup" ∷ codes "dependent_hostgroups" ∷
    codes "notification_failure_options" ∷ codes "execution_failure_criteria" ∷ codes "execution_failure_options" ∷ []
passed_over ServiceDependency = codes "host" ∷ codes "master_host" ∷ codes "master_host_name" ∷ codes "hostgroup" ∷
    codes "hostgroups" ∷ codes "servicegroup" ∷ codes "servicegroups" ∷ codes "description" ∷
    codes "master_description" ∷ codes "master_service_description" ∷ codes "dependent_host" ∷
    codes "dependent_hostgroup" ∷ codes "dependent_hostgroups" ∷ codes "dependent_servicegroup" ∷
    codes "dependent_servicegroups" ∷ codes "dependent_description" ∷ codes "notification_failure_options" ∷
    codes "execution_failure_criteria" ∷ codes "execution_failure_options" ∷ []
passed_over HostExtInfo = codes "host_name" ∷ codes "hostgroup" ∷ codes "hostgroup_name" ∷ codes "notes" ∷
    codes "notes_url" ∷ codes "action_url" ∷ codes "icon_image" ∷ codes "icon_image_alt" ∷ codes "vrml_image" ∷
    codes "statusmap_image" ∷ codes "gd2_image" ∷ codes "2d_coords" ∷ codes "3d_coords" ∷ []
passed_over ServiceExtInfo = codes "host_name" ∷ codes "hostgroup" ∷ codes "hostgroup_name" ∷
    codes "service_description" ∷ codes "notes" ∷ codes "notes_url" ∷ codes "action_url" ∷ codes "icon_image" ∷
    codes "icon_image_alt" ∷ []
