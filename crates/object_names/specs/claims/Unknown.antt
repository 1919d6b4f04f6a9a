-- Names that blocks mention and that nothing has (chapter "Object Definitions").
use Rattle.std.specs.Prelude.{◌≡◌, ℕ, Bool, true, false, ◌&&◌, List, [], ◌∷◌, map, codes, Option, None, Some, slice_get}
use Rattle.std.specs.List.{list_any}
use Rattle.std.specs.Option.{option_map_or}
use Rattle.object_groups.specs.claims.Names.{has_unknown, lacks, lacks_any}
use Rattle.object_groups.specs.claims.Objects.{list_at, names_in}
use Rattle.object_inheritance.specs.claims.Inherited.{name}
use Rattle.object_inheritance.specs.claims.Registered.{registers}
use Rattle.object_reader.specs.declared.block.Block.{Block}
use Rattle.object_values.specs.claims.Values.{command_name, value_in}
use Rattle.object_names.specs.declared.references.Reading.{Reading}
use Rattle.object_names.specs.declared.references.Reading.TheVariants.{NamesOrAll, Names, Period, Commands}
use Rattle.object_names.specs.declared.references.Reference.{Reference}
use Rattle.object_names.specs.claims.Named.{block_kind}
use Rattle.object_names.specs.claims.References.{directive_of, named_of, reading_of, references}

-- Whether what is given as the name of a period is one, and none of the names is it. An empty one means
-- always.
abbrev pub lacks_period : (names : List (List ℕ)) → Option (List ℕ) → Bool
lacks_period names None = false
lacks_period names (Some []) = false
lacks_period names (Some (b ∷ bs)) = lacks names (b ∷ bs)

-- Whether what the block at the place has for a directive, itself or by a template, names something that none
-- of the names is. A command is named by what stands before the first !.
abbrev pub is_unknown : Reading → (names : List (List ℕ))
    → List Block → (directive : List ℕ) → (place : ℕ) → Bool
is_unknown NamesOrAll names blocks directive place =
    has_unknown names (list_at blocks directive place)
is_unknown Names names blocks directive place = lacks_any names (list_at blocks directive place)
is_unknown Period names blocks directive place = lacks_period names (name blocks directive place)
is_unknown Commands names blocks directive place =
    lacks_any names (map command_name (list_at blocks directive place))

-- whether the block at the place names by a reference something that isn't there
abbrev pub is_unknown_by : List Block → ℕ → Reference → Bool
is_unknown_by blocks place reference = is_unknown (reading_of reference)
    (names_in blocks (block_kind (named_of reference))) blocks (directive_of reference) place

-- whether a block is an object, and not a template alone
abbrev pub is_registered : Block → Bool
is_registered block = registers (value_in block.directives (codes "register"))

-- whether the block, which stands at the place, is registered and names something that isn't there
abbrev pub names_unknown : List Block → ℕ → Block → Bool
names_unknown blocks place block =
    is_registered block && list_any (is_unknown_by blocks place) (references block.kind)

-- the same of the block that stands at the place
abbrev pub HasUnknown : List Block → ℕ → Type 0
HasUnknown blocks place =
    option_map_or (names_unknown blocks place) (slice_get blocks place) false ≡ true
