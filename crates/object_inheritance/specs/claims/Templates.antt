-- Templates, and which of them each block uses (chapter "Object Inheritance").
use Rattle.std.specs.Prelude.{ℕ, Bool, false, ◌&&◌, ◌==◌, List, [], map, filter_map, Option, None, codes, if◌then◌else◌}
use Rattle.std.specs.List.{position}
use Rattle.std.specs.Option.{option_map_or}
use Rattle.std.specs.Str.{bytes_eq}
use Rattle.object_reader.specs.declared.block.Block.{Block}
use Rattle.object_reader.specs.declared.block.BlockKind.{BlockKind}
use Rattle.object_reader.specs.declared.block.BlockKind.TheVariants.{Host, HostGroup, Service, ServiceGroup, Contact, ContactGroup, TimePeriod, Command, HostEscalation, ServiceEscalation, HostDependency, ServiceDependency, HostExtInfo, ServiceExtInfo}
use Rattle.object_inheritance.specs.claims.Kinds.{means_nothing}
use Rattle.object_values.specs.claims.Values.{entries_of, value_in}

-- The number of a type. Two blocks are of one type where these numbers are equal.
abbrev pub kind_number : BlockKind → ℕ
kind_number Host = 0
kind_number HostGroup = 1
kind_number Service = 2
kind_number ServiceGroup = 3
kind_number Contact = 4
kind_number ContactGroup = 5
kind_number TimePeriod = 6
kind_number Command = 7
kind_number HostEscalation = 8
kind_number ServiceEscalation = 9
kind_number HostDependency = 10
kind_number ServiceDependency = 11
kind_number HostExtInfo = 12
kind_number ServiceExtInfo = 13

-- The name that a block has as a template: that of its own `name`.
abbrev pub template_name : Block → Option (List ℕ)
template_name block =
    if means_nothing block.kind then None else value_in block.directives (codes "name")

-- The names of the templates that a block uses: the list of its own `use`.
abbrev pub used_names : Block → List (List ℕ)
used_names block =
    if means_nothing block.kind then [] else entries_of (value_in block.directives (codes "use"))

-- whether a block is a template of that type and name
abbrev pub is_template : BlockKind → List ℕ → Block → Bool
is_template kind name block = kind_number block.kind == kind_number kind
    && option_map_or (λ own. bytes_eq own name) (template_name block) false

-- The place of the template of that type and name: the first, where there are several.
unfoldable pub template_place : List Block → BlockKind → List ℕ → Option ℕ
template_place blocks kind name = position (is_template kind name) blocks

-- The places of the templates that a block uses, in the order of its `use`.
abbrev pub templates_of : List Block → Block → List ℕ
templates_of blocks block = filter_map (template_place blocks block.kind) (used_names block)

-- The same of each block: a graph, in which each block leads to the templates that it uses.
unfoldable pub template_graph : List Block → List (List ℕ)
template_graph blocks = map (templates_of blocks) blocks
