-- Names that blocks mention and that nothing has (chapter "Object Definitions").
use Rattle.std.specs.Prelude.{◌≡◌, ℕ, Bool, true, false, ◌&&◌, List, Option, None, IfSome, slice_get, slice_index_or}
use Rattle.std.specs.List.{list_any}
use Rattle.std.specs.Option.{option_map_or}
use Rattle.object_inheritance.specs.Columns.{Column}
use Rattle.object_reader.specs.declared.block.Block.{Block}
use Rattle.object_names.specs.declared.references.Reading.{Reading}
use Rattle.object_names.specs.declared.references.Reference.{Reference}
use Rattle.object_names.specs.claims.References.{references}
use Rattle.object_names.specs.References.{is_reference_of}
use Rattle.object_names.specs.claims.Unknown.{is_unknown, is_unknown_by, is_registered}

-- ---- one reference after another

-- whether the block, which stands at the place, is registered and names by the reference something that
-- isn't there
abbrev pub names_unknown_by : List Block → ℕ → Reference → Block → Bool
names_unknown_by blocks place reference block = is_reference_of reference block.kind
    && is_registered block && is_unknown_by blocks place reference

abbrev pub has_unknown_by : List Block → ℕ → Reference → Bool
has_unknown_by blocks place reference =
    option_map_or (names_unknown_by blocks place reference) (slice_get blocks place) false

-- the same by one of these
abbrev pub HasUnknownAmong : List Block → List Reference → ℕ → Type 0
HasUnknownAmong blocks references place =
    list_any (has_unknown_by blocks place) references ≡ true

-- ---- what was found of blocks before

-- What was found of a block, by its place, is whether what it has for the directive names something that none of the
-- names is.
pub record AreFound (reading : Reading) (names : List (List ℕ)) (values : Column)
    (found : List (Option Bool)) : Type 0 where
  pub each : (place : ℕ) → IfSome (slice_index_or found place None)
      (λ unknown. unknown ≡ is_unknown reading names values.blocks values.directive place)
