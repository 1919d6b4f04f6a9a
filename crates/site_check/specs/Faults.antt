-- All faults of blocks, of the pass that finds the first (chapter "Object Definitions").
use Rattle.std.specs.Prelude.{◌≡◌, ℕ, ◌⊎◌, Bool, false, ◌==◌, ◌&&◌, List, [], ◌∷◌, ◌++◌, filter, flat_map, length, map, IsPermutation, Some, slice_get, slice_index_or}
use Rattle.std.specs.List.{range_with_len}
use Rattle.std.specs.List.Sorted.{IsNonDecreasingBy}
use Rattle.std.specs.Option.{option_map_or}
use Rattle.std.specs.Str.{bytes_eq}
use Rattle.faults_told.specs.declared.telling.Telling.{Telling}
use Rattle.object_check.specs.Answered.{fault_by}
use Rattle.object_check.specs.Marks.{name_misfits, value_misfits}
use Rattle.object_check.specs.Rows.{value_rows}
use Rattle.object_check.specs.declared.misfits.Misfit.{Misfit}
use Rattle.object_faults.specs.claims.Faults as values
use Rattle.object_faults.specs.claims.LoadFaults.{of_value}
use Rattle.object_faults.specs.LoadFaults.{fault_name}
use Rattle.object_faults.specs.declared.load_fault.BlockFault.{BlockFault}
use Rattle.object_faults.specs.declared.load_fault.BlockFault.TheVariants.{Doubled, MissingDirective, UnknownName}
use Rattle.object_faults.specs.declared.load_fault.LoadFault.{LoadFault}
use Rattle.object_faults.specs.declared.load_fault.LoadFault.TheVariants as load
use Rattle.object_groups.specs.Names.{is_doubled}
use Rattle.object_groups.specs.claims.Objects.{names_in, objects_in}
use Rattle.object_inheritance.specs.claims.Faults as templates
use Rattle.object_names.specs.claims.Named.{block_kind}
use Rattle.object_names.specs.Named.{all_kinds}
use Rattle.object_names.specs.declared.named.NamedKind.{NamedKind}
use Rattle.object_reader.specs.declared.block.Block.{Block}
use Rattle.object_reader.specs.declared.block.BlockKind.{BlockKind}
use Rattle.site_check.specs.declared.found.Found.{Found}

-- ---- as loading answers them

-- the line of the block at the place
abbrev pub line_at : List Block → (place : ℕ) → ℕ
line_at blocks place = option_map_or (λ block. block.line) (slice_get blocks place) 0

-- the fault of the block with its line
abbrev pub load_fault : List Block → Found → LoadFault
load_fault blocks found = load.Block (line_at blocks found.place) found.fault

-- ---- by the tables

-- the fault of values that the row of the table asks for
abbrev pub value_fault : (row : ℕ) → BlockFault
value_fault row = option_map_or (λ asked. of_value (fault_by asked.must)) (slice_get value_rows row) MissingDirective

abbrev pub value_found : Misfit → Found
value_found misfit = record { place = misfit.place; fault = value_fault misfit.row }

-- all faults of values
abbrev pub value_faults : List Block → List Found
value_faults blocks = map value_found (value_misfits blocks)

abbrev pub name_found : Misfit → Found
name_found misfit = record { place = misfit.place; fault = UnknownName }

-- all names that blocks mention and that nothing has
abbrev pub unknown_names : List Block → List Found
unknown_names blocks = map name_found (name_misfits blocks)

-- ---- names that are given twice

-- the object of that number is one too many
abbrev pub doubled_at : List Block → BlockKind → (number : ℕ) → Found
doubled_at blocks kind number = record { place = slice_index_or (objects_in blocks kind) number 0; fault = Doubled }

-- the objects of the type that have the name of one before them
abbrev pub doubled_in : List Block → BlockKind → List Found
doubled_in blocks kind = map (doubled_at blocks kind)
    (filter (is_doubled (names_in blocks kind)) (range_with_len 0 (length (objects_in blocks kind))))

-- those of each of the types
abbrev pub doubled_among : List Block → List NamedKind → List Found
doubled_among blocks kinds = flat_map (λ kind. doubled_in blocks (block_kind kind)) kinds

-- all faults of names by which objects are named alone
abbrev pub name_faults : List Block → List Found
name_faults blocks = unknown_names blocks ++ doubled_among blocks all_kinds

-- ---- what is told

-- the same faults in file order
pub record AreInOrder (faults found : List Found) : Type 0 where
  pub same : IsPermutation faults found
  pub rising : IsNonDecreasingBy (λ (one : Found). one.place) found

-- All of them; and before them the first, where they don't begin with it.
abbrev pub IsBegun : (first : LoadFault) → (all told : List LoadFault) → Type 0
IsBegun first all told = (told ≡ all) ⊎ ((told ≡ first ∷ all) × (slice_get all 0 ≡ Some first → ⊥))

-- All names' faults in file order. Before them stands the fault that loading answers, where that is of another kind: of a
-- service, a loop or a limit.
pub record AreNameFaults (blocks : List Block) (first : LoadFault) (told : List LoadFault) : Type 0 where
  pub found : List Found
  pub are : AreInOrder (name_faults blocks) found
  pub begun : IsBegun first (map (load_fault blocks) found) told

-- What is told of blocks of which loading answers this fault: it first; all faults of values, where the templates have no
-- fault and some value has one; and all of names, where no value has one either.
pub record AreTold (blocks : List Block) (first : LoadFault) (told : List LoadFault) : Type 0 where
  pub begins : slice_get told 0 ≡ Some first
  pub of_values : templates.AreFree blocks → (values.AreFree blocks → ⊥)
      → told ≡ map (load_fault blocks) (value_faults blocks)
  pub of_names : templates.AreFree blocks → values.AreFree blocks → AreNameFaults blocks first told

-- whether the fault that is told is this one, of the block at the line
abbrev pub is_answer : List Block → (line : ℕ) → BlockFault → Telling → Bool
is_answer blocks line fault telling = option_map_or
    (λ block. block.line == line && bytes_eq (fault_name telling.fault) (fault_name fault))
    (slice_get blocks telling.user) false
