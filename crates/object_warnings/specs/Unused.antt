-- Unused: a contact, a group, a period, a command or a template that nothing names (chapters "Object Definitions" and "Object
-- Inheritance").
use Rattle.std.specs.Prelude.{ℕ, Bool, true, false, not, ◌==◌, ◌&&◌, ◌||◌, List, [], ◌∷◌, codes, flat_map, map, Option, slice_get, slice_index_or, if◌then◌else◌}
use Rattle.std.specs.Option.{option_map_or}
use Rattle.object_check.specs.Rows.{Asked, name_rows}
use Rattle.object_check.specs.declared.rows.Must.{Must}
use Rattle.object_check.specs.declared.rows.Must.TheVariants.{Be, Name, HaveWholeLines, HaveDayLines}
use Rattle.object_check.specs.declared.rows.Must.TheVariants as musts
use Rattle.object_groups.specs.claims.Names.{lacks}
use Rattle.object_groups.specs.claims.Objects.{names_in, objects_in}
use Rattle.object_inheritance.specs.claims.Inherited.{name_of, own_entries}
use Rattle.object_inheritance.specs.Inherited.{has_entries}
use Rattle.object_inheritance.specs.claims.Registered.{registers}
use Rattle.object_inheritance.specs.claims.Templates.{kind_number}
use Rattle.object_names.specs.claims.Named.{block_kind}
use Rattle.object_names.specs.declared.named.NamedKind.{NamedKind}
use Rattle.object_names.specs.declared.named.NamedKind.TheVariants.{Host, HostGroup, ServiceGroup, Contact, ContactGroup, TimePeriod, Command}
use Rattle.object_names.specs.declared.references.Reading.{Reading}
use Rattle.object_names.specs.declared.references.Reading.TheVariants.{NamesOrAll, Names, Period, Commands}
use Rattle.object_reader.specs.declared.block.Block.{Block}
use Rattle.object_reader.specs.declared.block.BlockKind.{BlockKind}
use Rattle.object_values.specs.claims.Values.{command_name, entries_of, value_in}

-- ---- what blocks name: objects and templates alike, each by what it gives itself

-- the names that a value has
abbrev pub names_read : Reading → List ℕ → List (List ℕ)
names_read NamesOrAll text = own_entries text
names_read Names text = own_entries text
names_read Period text = name_of text ∷ []
names_read Commands text = map command_name (own_entries text)

-- those that a value has, if one is given
abbrev pub names_given : Reading → Option (List ℕ) → List (List ℕ)
names_given reading given = option_map_or (names_read reading) given []

-- whether two types of object are one
abbrev pub is_kind : NamedKind → NamedKind → Bool
is_kind kind other = kind_number (block_kind kind) == kind_number (block_kind other)

-- those of objects of the type, where a directive must name any
abbrev pub names_by : NamedKind → Must → Option (List ℕ) → List (List ℕ)
names_by kind (Name named reading) given = if is_kind named kind then names_given reading given else []
names_by kind (Be check) given = []
names_by kind (musts.List side) given = []
names_by kind HaveWholeLines given = []
names_by kind HaveDayLines given = []

-- whether a directive that must be so names objects of the type
abbrev pub names_kind : NamedKind → Must → Bool
names_kind kind (Name named reading) = is_kind named kind
names_kind kind (Be check) = false
names_kind kind (musts.List side) = false
names_kind kind HaveWholeLines = false
names_kind kind HaveDayLines = false

-- those that a block has by the directive of a row
abbrev pub named_by : NamedKind → Block → Asked → List (List ℕ)
named_by kind block row = if kind_number block.kind == kind_number row.kind
    then names_by kind row.must (value_in block.directives row.directive) else []

-- those that it has by all its directives
unfoldable pub named_in : NamedKind → Block → List (List ℕ)
named_in kind block = flat_map (named_by kind block) name_rows

-- what the blocks name of the type
abbrev pub named_of : List Block → NamedKind → List (List ℕ)
named_of blocks kind = flat_map (named_in kind) blocks

-- ---- objects

-- whether `*` is all objects of the type
abbrev pub reads_all : NamedKind → Bool
reads_all Host = true
reads_all HostGroup = true
reads_all Contact = true
reads_all ContactGroup = true
reads_all ServiceGroup = false
reads_all TimePeriod = false
reads_all Command = false

-- whether the name is among those that are named
abbrev pub is_named : NamedKind → (named : List (List ℕ)) → (name : List ℕ) → Bool
is_named kind named name = not (lacks named name) || (reads_all kind && not (lacks named (codes "*")))

-- whether objects of the type are put into groups by themselves, as contacts by their `contactgroups`
abbrev pub joins : NamedKind → Bool
joins Contact = true
joins Host = false
joins HostGroup = false
joins ServiceGroup = false
joins ContactGroup = false
joins TimePeriod = false
joins Command = false

-- whether nothing names an object, of the name, whose block stands at the place
abbrev pub is_unused : List Block → NamedKind → (place : ℕ) → (name : List ℕ) → Bool
is_unused blocks kind place name = not (is_named kind (named_of blocks kind) name)
    && not (joins kind && has_entries blocks (codes "contactgroups") place)

-- the same of the object of that number
abbrev pub is_unused_at : List Block → NamedKind → (number : ℕ) → Bool
is_unused_at blocks kind number = is_unused blocks kind
    (slice_index_or (objects_in blocks (block_kind kind)) number 0)
    (slice_index_or (names_in blocks (block_kind kind)) number [])

-- ---- templates

-- the templates that a block uses, if it is of the type
abbrev pub used_in : BlockKind → Block → List (List ℕ)
used_in kind block = if kind_number block.kind == kind_number kind
    then entries_of (value_in block.directives (codes "use")) else []

-- those that the blocks of the type use
abbrev pub used_of : List Block → BlockKind → List (List ℕ)
used_of blocks kind = flat_map (used_in kind) blocks

-- whether a block is a template alone: it isn't registered
abbrev pub is_template : BlockKind → Block → Bool
is_template kind block = kind_number block.kind == kind_number kind
    && not (registers (value_in block.directives (codes "register")))

-- whether it has a name that none of these is
abbrev pub has_unused_name : (used : List (List ℕ)) → Block → Bool
has_unused_name used block = option_map_or (lacks used) (value_in block.directives (codes "name")) false

-- whether the block at the place is a template of the type that nothing names
abbrev pub is_unused_template : List Block → BlockKind → (place : ℕ) → Bool
is_unused_template blocks kind place = option_map_or
    (λ block. is_template kind block && has_unused_name (used_of blocks kind) block)
    (slice_get blocks place) false
