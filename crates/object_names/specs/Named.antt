-- The types of object that have a name of their own, which other blocks mention (chapter "Object Definitions").
use Rattle.std.specs.Prelude.{ℕ, List, [], ◌∷◌}
use Rattle.object_groups.specs.Objects.{ObjectsOf}
use Rattle.object_reader.specs.declared.block.Block.{Block}
use Rattle.object_names.specs.declared.named.NamedKind.{NamedKind}
use Rattle.object_names.specs.declared.named.NamedKind.TheVariants.{Host, HostGroup, ServiceGroup, Contact, ContactGroup, TimePeriod, Command}
use Rattle.object_names.specs.claims.Named.{block_kind}

-- all of them
abbrev pub all_kinds : List NamedKind
all_kinds =
    Host ∷ HostGroup ∷ ServiceGroup ∷ Contact ∷ ContactGroup ∷ TimePeriod ∷ Command ∷ []

-- ---- how they are kept

-- where each type stands among them
abbrev pub number_of_kind : NamedKind → ℕ
number_of_kind Host = 0
number_of_kind HostGroup = 1
number_of_kind ServiceGroup = 2
number_of_kind Contact = 3
number_of_kind ContactGroup = 4
number_of_kind TimePeriod = 5
number_of_kind Command = 6

-- the objects of the type among the blocks
abbrev pub objects_of : List Block → NamedKind → ObjectsOf
objects_of blocks kind = record { blocks = blocks; kind = block_kind kind }
