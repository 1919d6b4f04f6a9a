-- The same directive by directive: what each must be, by the type of the block, and the first block
-- that breaks one of them.
use Rattle.std.specs.Prelude.{◌≡◌, ℕ, ◌<◌, Bool, not, ◌==◌, ◌&&◌, false, List, [], ◌∷◌, map, codes, nat_le, nat_lt, Option, None, Some, slice_get, if◌then◌else◌}
use Rattle.std.specs.List.{list_any}
use Rattle.std.specs.Option.{option_and_then, option_or}
use Rattle.object_reader.specs.declared.block.Block.{Block}
use Rattle.object_reader.specs.declared.block.BlockKind.{BlockKind}
use Rattle.object_reader.specs.declared.block.BlockKind.TheVariants.{Host, HostGroup, Service, ServiceGroup, Contact, ContactGroup, TimePeriod, Command, HostEscalation, ServiceEscalation, HostDependency, ServiceDependency}
use Rattle.object_groups.specs.claims.Objects.{name_directive}
use Rattle.object_inheritance.specs.claims.Templates.{kind_number}
use Rattle.object_values.specs.declared.options.OptionKind.TheVariants as lists
use Rattle.object_values.specs.declared.options.CriteriaKind.TheVariants.{OfHosts, OfServices}
use Rattle.object_faults.specs.declared.column.Check.{Check}
use Rattle.object_faults.specs.declared.column.Check.TheVariants.{Given, Number, Options, Criteria, Ranges, Zero, Names}
use Rattle.object_faults.specs.declared.column.Column.{Column}
use Rattle.object_faults.specs.declared.column.Column.TheVariants.{Name, Register, Interval, Enabled, Delay, HostEnabled, ServiceEnabled, First, Last, Inherits, IsVolatile, NotificationOptions, HostOptions, ServiceOptions, EscalationOptions, FailureCriteria, Sunday, Monday, Tuesday, Wednesday, Thursday, Friday, Saturday, VolatileZero, Listed}
use Rattle.object_faults.specs.declared.fault.ValueFault.{ValueFault}
use Rattle.object_faults.specs.declared.fault.ValueFault.TheVariants.{MissingDirective, BadNumber, BadOption, BadRange, Volatile, Exclusion, DatedException}
use Rattle.object_faults.specs.declared.first.Found.{Found}
use Rattle.object_faults.specs.declared.lists.NameList.TheVariants as entries
use Rattle.object_faults.specs.declared.needs.Side.{Side}
use Rattle.object_faults.specs.declared.needs.Side.TheVariants.{Masters, Dependents}
use Rattle.object_faults.specs.claims.Dated.{has_bad_line, has_other_line}
use Rattle.object_faults.specs.claims.Faults.{fault_by, is_broken, is_lacking, is_registered, lacks}
use Rattle.object_inheritance.specs.claims.Kinds.{is_period, means_nothing}
use Rattle.object_inheritance.specs.Kinds.{has_contacts, is_contact, is_dependency, is_escalation, is_host_or_service, is_service}
use Rattle.object_faults.specs.Lists.{is_list_of, list_directive}
use Rattle.object_faults.specs.claims.Tables.{name_lists, numbers, option_lists, range_lines, zeros}

-- the name of a directive
abbrev pub directive_of : Column → List ℕ
directive_of (Name kind) = name_directive kind
directive_of Register = codes "register"
directive_of Interval = codes "notification_interval"
directive_of Enabled = codes "notifications_enabled"
directive_of Delay = codes "first_notification_delay"
directive_of HostEnabled = codes "host_notifications_enabled"
directive_of ServiceEnabled = codes "service_notifications_enabled"
directive_of First = codes "first_notification"
directive_of Last = codes "last_notification"
directive_of Inherits = codes "inherits_parent"
directive_of IsVolatile = codes "is_volatile"
directive_of NotificationOptions = codes "notification_options"
directive_of HostOptions = codes "host_notification_options"
directive_of ServiceOptions = codes "service_notification_options"
directive_of EscalationOptions = codes "escalation_options"
directive_of FailureCriteria = codes "notification_failure_criteria"
directive_of Sunday = codes "sunday"
directive_of Monday = codes "monday"
directive_of Tuesday = codes "tuesday"
directive_of Wednesday = codes "wednesday"
directive_of Thursday = codes "thursday"
directive_of Friday = codes "friday"
directive_of Saturday = codes "saturday"
directive_of VolatileZero = codes "is_volatile"
directive_of (Listed list) = list_directive list

-- ---- what they must be

abbrev pub when : Bool → Check → Option Check
when has check = if has then Some check else None

abbrev pub options_check : BlockKind → Option Check
options_check Host = Some (Options lists.Host)
options_check Service = Some (Options lists.Service)
options_check _ = None

abbrev pub escalation_check : BlockKind → Option Check
escalation_check HostEscalation = Some (Options lists.HostEscalation)
escalation_check ServiceEscalation = Some (Options lists.ServiceEscalation)
escalation_check _ = None

abbrev pub criteria_check : BlockKind → Option Check
criteria_check HostDependency = Some (Criteria OfHosts)
criteria_check ServiceDependency = Some (Criteria OfServices)
criteria_check _ = None

-- what a directive must be in blocks of the type; none where it says nothing there
abbrev pub check_of : Column → BlockKind → Option Check
check_of (Name named) kind = when (kind_number kind == kind_number named) Given
check_of Register kind = when (not (means_nothing kind)) Number
check_of Interval kind = when (has_contacts kind) Number
check_of Enabled kind = when (is_host_or_service kind) Number
check_of Delay kind = when (is_host_or_service kind) Number
check_of HostEnabled kind = when (is_contact kind) Number
check_of ServiceEnabled kind = when (is_contact kind) Number
check_of First kind = when (is_escalation kind) Number
check_of Last kind = when (is_escalation kind) Number
check_of Inherits kind = when (is_dependency kind) Number
check_of IsVolatile kind = when (is_service kind) Number
check_of NotificationOptions kind = options_check kind
check_of HostOptions kind = when (is_contact kind) (Options lists.Host)
check_of ServiceOptions kind = when (is_contact kind) (Options lists.Service)
check_of EscalationOptions kind = escalation_check kind
check_of FailureCriteria kind = criteria_check kind
check_of Sunday kind = when (is_period kind) Ranges
check_of Monday kind = when (is_period kind) Ranges
check_of Tuesday kind = when (is_period kind) Ranges
check_of Wednesday kind = when (is_period kind) Ranges
check_of Thursday kind = when (is_period kind) Ranges
check_of Friday kind = when (is_period kind) Ranges
check_of Saturday kind = when (is_period kind) Ranges
check_of VolatileZero kind = when (is_service kind) Zero
check_of (Listed list) kind = when (is_list_of list kind) Names

-- the fault of what isn't what it must be
abbrev pub fault_name : Check → ValueFault
fault_name Given = MissingDirective
fault_name Number = BadNumber
fault_name (Options kind) = BadOption
fault_name (Criteria kind) = BadOption
fault_name Ranges = BadRange
fault_name Zero = Volatile
fault_name Names = Exclusion

-- the fault of what the block at the place, of the type, has for one directive
abbrev pub column_fault : List Block → ℕ → BlockKind → Column → Option ValueFault
column_fault blocks place kind column = option_and_then
    (λ check. if is_broken blocks place check (directive_of column)
    then Some (fault_name check) else None)
    (check_of column kind)

-- the same, if the block is registered
abbrev pub registered_fault : List Block → ℕ → Column → Block → Option ValueFault
registered_fault blocks place column block =
    if is_registered block then column_fault blocks place block.kind column else None

abbrev pub fault_at : List Block → Column → ℕ → Option ValueFault
fault_at blocks column place =
    option_and_then (registered_fault blocks place column) (slice_get blocks place)

-- the fault of the block at the place where it lacks what it must list on the side, if it is registered
abbrev pub side_fault : List Block → ℕ → Side → Block → Option ValueFault
side_fault blocks place side block =
    if is_registered block && lacks blocks place block.kind side then Some MissingDirective
    else None

abbrev pub side_at : List Block → Side → ℕ → Option ValueFault
side_at blocks side place =
    option_and_then (side_fault blocks place side) (slice_get blocks place)

-- the first of the faults
abbrev pub first_of : List (Option ValueFault) → Option ValueFault
first_of [] = None
first_of (fault ∷ faults) = option_or fault (first_of faults)

-- What is found is the first of so many places that has a fault, and the fault that it has.
abbrev pub IsFirst : ℕ → (ℕ → Option ValueFault) → Option Found → Type 0
IsFirst count fault None = (k : ℕ) → k < count → fault k ≡ None
IsFirst count fault (Some found) = (found.place < count) × (fault found.place ≡ Some found.fault)
    × ((k : ℕ) → k < found.place → fault k ≡ None)

-- of two that are found the earlier, and the first where they are the same
abbrev pub earlier : Option Found → Option Found → Option Found
earlier None second = second
earlier (Some one) None = Some one
earlier (Some one) (Some other) =
    if nat_le one.place other.place then Some one else Some other

-- the first fault of the columns that the block at the place has
abbrev pub first_at : List Block → List Column → ℕ → Option ValueFault
first_at blocks columns place = first_of (map (λ column. fault_at blocks column place) columns)

-- the directives that name blocks
abbrev pub name_columns : List Column
name_columns = Name Host ∷ Name HostGroup ∷ Name Service ∷ Name ServiceGroup
    ∷ Name Contact ∷ Name ContactGroup ∷ Name TimePeriod ∷ Name Command ∷ []

-- the directives that must be something where they are given, in the order of the faults
abbrev pub value_columns : List Column
value_columns = Register ∷ Interval ∷ Enabled ∷ Delay ∷ IsVolatile
    ∷ HostEnabled ∷ ServiceEnabled ∷ First ∷ Last ∷ Inherits
    ∷ NotificationOptions ∷ HostOptions ∷ ServiceOptions ∷ EscalationOptions ∷ FailureCriteria
    ∷ Sunday ∷ Monday ∷ Tuesday ∷ Wednesday
    ∷ Thursday ∷ Friday ∷ Saturday ∷ VolatileZero
    ∷ Listed entries.HostGroups ∷ Listed entries.ServiceGroups ∷ Listed entries.ContactGroups
    ∷ Listed entries.HostNames ∷ Listed entries.HostGroupNames
    ∷ Listed entries.Descriptions ∷ Listed entries.ServiceGroupNames
    ∷ Listed entries.DependentHostNames ∷ Listed entries.DependentHostGroupNames
    ∷ Listed entries.DependentDescriptions ∷ Listed entries.DependentServiceGroupNames
    ∷ Listed entries.Contacts ∷ Listed entries.GroupsOfContacts
    ∷ Listed entries.HostCommands ∷ Listed entries.ServiceCommands
    ∷ Listed entries.Members ∷ Listed entries.HostGroupMembers
    ∷ Listed entries.ServiceGroupMembers ∷ Listed entries.ContactGroupMembers
    ∷ Listed entries.Excludes ∷ []

-- what the block at the place lacks, if anything
abbrev pub lacking_at : List Block → ℕ → Option ValueFault
lacking_at blocks place = option_or (first_at blocks name_columns place)
    (option_or (side_at blocks Masters place) (side_at blocks Dependents place))

-- the first fault of the directives that the block at the place has
abbrev pub any_at : List Block → ℕ → Option ValueFault
any_at blocks place = option_or (lacking_at blocks place) (first_at blocks value_columns place)

-- the same by the tables, of the type
abbrev pub plain_fault : List Block → ℕ → BlockKind → Option ValueFault
plain_fault blocks place kind = fault_by
    (is_lacking blocks place kind)
    (list_any (is_broken blocks place Number) (numbers kind))
    (list_any (λ row. is_broken blocks place row.0 row.1) (option_lists kind))
    (list_any (is_broken blocks place Ranges) (range_lines kind))
    (list_any (is_broken blocks place Zero) (zeros kind))
    (list_any (is_broken blocks place Names) (name_lists kind))
    false

-- ---- lines of dates beside them

-- the fault of a line of dates that is none, and of one that says something other than a day
abbrev pub date_by : (bad other : Bool) → Option ValueFault
date_by bad other =
    if bad then Some BadRange else if other then Some DatedException else None

-- the fault of the lines of dates that the block at the place has, if it is a registered period
abbrev pub date_fault : List Block → ℕ → Block → Option ValueFault
date_fault blocks place block = if is_registered block && is_period block.kind
    then date_by (has_bad_line blocks place) (has_other_line blocks place) else None

abbrev pub date_at : List Block → ℕ → Option ValueFault
date_at blocks place = option_and_then (date_fault blocks place) (slice_get blocks place)

-- where a fault stands in the order of the faults of a block
abbrev pub rank : ValueFault → ℕ
rank MissingDirective = 0
rank BadNumber = 1
rank BadOption = 2
rank BadRange = 3
rank Volatile = 4
rank Exclusion = 5
rank DatedException = 6

-- of two faults of a block the one that counts
abbrev pub lower_fault : Option ValueFault → Option ValueFault → Option ValueFault
lower_fault None second = second
lower_fault (Some one) None = Some one
lower_fault (Some one) (Some other) =
    if nat_le (rank one) (rank other) then Some one else Some other

-- of two that are found the earlier, and of two of one place that whose fault counts
abbrev pub lower : Option Found → Option Found → Option Found
lower None second = second
lower (Some one) None = Some one
lower (Some one) (Some other) = if nat_lt one.place other.place then Some one
    else if nat_lt other.place one.place then Some other
    else if nat_le (rank one.fault) (rank other.fault) then Some one
    else Some other

-- the first fault that the block at the place has
abbrev pub whole_at : List Block → ℕ → Option ValueFault
whole_at blocks place = lower_fault (any_at blocks place) (date_at blocks place)
