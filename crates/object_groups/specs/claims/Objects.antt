-- The objects of one type among blocks: what is registered, its name and its lists (chapters
-- "Object Definitions" and "Object Inheritance").
use Rattle.std.specs.Prelude.{ℕ, Bool, false, ◌&&◌, ◌==◌, List, [], length, map, filter, codes, unwrap_or, slice_get}
use Rattle.std.specs.List.{range_with_len}
use Rattle.std.specs.Option.{option_map_or}
use Rattle.object_reader.specs.declared.block.Block.{Block}
use Rattle.object_reader.specs.declared.block.BlockKind.{BlockKind}
use Rattle.object_reader.specs.declared.block.BlockKind.TheVariants.{Host, HostGroup, Service, ServiceGroup, Contact, ContactGroup, TimePeriod, Command}
use Rattle.object_inheritance.specs.claims.Inherited.{list, value}
use Rattle.object_inheritance.specs.claims.Registered.{registers}
use Rattle.object_inheritance.specs.claims.Templates.{kind_number}
use Rattle.object_values.specs.claims.Values.{value_in}

-- whether a block is an object of the type
abbrev pub is_object : BlockKind → Block → Bool
is_object kind block = kind_number block.kind == kind_number kind
    && registers (value_in block.directives (codes "register"))

-- the same of the block at a place
abbrev pub is_object_at : List Block → BlockKind → ℕ → Bool
is_object_at blocks kind place = option_map_or (is_object kind) (slice_get blocks place) false

-- The places of the objects of the type. An object's number is its place in this list.
unfoldable pub objects_in : List Block → BlockKind → List ℕ
objects_in blocks kind = filter (is_object_at blocks kind) (range_with_len 0 (length blocks))

-- The directive that names an object; none for types whose objects have no name of their own. What a
-- service block names is each of its services, beside their hosts.
abbrev pub name_directive : BlockKind → List ℕ
name_directive Host = codes "host_name"
name_directive HostGroup = codes "hostgroup_name"
name_directive Service = codes "service_description"
name_directive ServiceGroup = codes "servicegroup_name"
name_directive Contact = codes "contact_name"
name_directive ContactGroup = codes "contactgroup_name"
name_directive TimePeriod = codes "timeperiod_name"
name_directive Command = codes "command_name"
name_directive _ = []

-- the name of the object at a place, empty where it has none
abbrev pub name_at : List Block → BlockKind → ℕ → List ℕ
name_at blocks kind place = unwrap_or (value blocks (name_directive kind) place) []

-- the names of the objects of the type, by their numbers
unfoldable pub names_in : List Block → BlockKind → List (List ℕ)
names_in blocks kind = map (name_at blocks kind) (objects_in blocks kind)

-- the entries that the object at a place has for a directive
abbrev pub list_at : List Block → List ℕ → ℕ → List (List ℕ)
list_at blocks directive place = unwrap_or (list blocks directive place) []

-- the same of each object of the type, by their numbers
unfoldable pub lists_in : List Block → BlockKind → List ℕ → List (List (List ℕ))
lists_in blocks kind directive = map (list_at blocks directive) (objects_in blocks kind)
