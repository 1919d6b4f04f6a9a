-- Which blocks have the fault of a row.
use Rattle.std.specs.Prelude.{◌≡◌, ℕ, Bool, true, false, ◌==◌, ◌&&◌, List, [], length, Option, None, IfSome, slice_get, slice_index_or}
use Rattle.std.specs.Option.{option_map_or}
use Rattle.object_check.specs.declared.misfits.Misfit.{Misfit}
use Rattle.object_check.specs.declared.rows.Must.{Must}
use Rattle.object_check.specs.declared.rows.Must.TheVariants.{Be, Name, HaveWholeLines, HaveDayLines}
use Rattle.object_check.specs.declared.rows.Must.TheVariants as musts
use Rattle.object_check.specs.Misfits.{misfits_in}
use Rattle.object_check.specs.Rows.{Asked, name_rows, value_rows}
use Rattle.object_faults.specs.claims.Dated.{has_bad_line, has_other_line, is_bad_line, is_other_line}
use Rattle.object_faults.specs.claims.Faults.{is_broken, is_registered, lacks}
use Rattle.object_groups.specs.claims.Objects.{names_in}
use Rattle.object_inheritance.specs.Columns.{Column}
use Rattle.object_inheritance.specs.claims.Templates.{kind_number}
use Rattle.object_names.specs.claims.Named.{block_kind}
use Rattle.object_names.specs.claims.Unknown.{is_unknown}
use Rattle.object_reader.specs.declared.block.Block.{Block}
use Rattle.object_reader.specs.declared.block.BlockKind.{BlockKind}

-- Whether the block at the place, of the type, isn't what it must be.
abbrev pub breaks : List Block → (place : ℕ) → BlockKind → Must → (directive : List ℕ) → Bool
breaks blocks place kind (Be check) directive = is_broken blocks place check directive
breaks blocks place kind (Name named reading) directive =
    is_unknown reading (names_in blocks (block_kind named)) blocks directive place
breaks blocks place kind (musts.List side) directive = lacks blocks place kind side
breaks blocks place kind HaveWholeLines directive = has_bad_line blocks place
breaks blocks place kind HaveDayLines directive = has_other_line blocks place

-- whether the block, which stands at the place, is an object of the row's type and isn't what it must be
abbrev pub block_breaks : List Block → (place : ℕ) → Asked → Block → Bool
block_breaks blocks place row block = kind_number block.kind == kind_number row.kind
    && is_registered block && breaks blocks place row.kind row.must row.directive

-- the same of the block that stands at the place
abbrev pub breaks_at : List Block → Asked → (place : ℕ) → Bool
breaks_at blocks row place =
    option_map_or (block_breaks blocks place row) (slice_get blocks place) false

-- the same of a row by its number
abbrev pub breaks_row : List Block → List Asked → (row place : ℕ) → Bool
breaks_row blocks rows row place =
    option_map_or (λ asked. breaks_at blocks asked place) (slice_get rows row) false

-- All faults of the values of blocks: in file order, and of each block in the order of the rows.
abbrev pub value_misfits : List Block → List Misfit
value_misfits blocks = misfits_in (breaks_row blocks value_rows) (length value_rows) (length blocks)

-- All names that blocks mention and that nothing has, directive by directive.
abbrev pub name_misfits : List Block → List Misfit
name_misfits blocks = misfits_in (breaks_row blocks name_rows) (length name_rows) (length blocks)

-- ---- how they are found

-- the column marks the blocks that have the fault of the row
abbrev pub IsColumn : List Block → Asked → List Bool → Type 0
IsColumn blocks row column = (place : ℕ) → slice_index_or column place false ≡ breaks_at blocks row place

-- whether it is of what a block has for one directive
abbrev pub is_of_value : Must → Bool
is_of_value (Be check) = true
is_of_value (Name named reading) = true
is_of_value (musts.List side) = false
is_of_value HaveWholeLines = false
is_of_value HaveDayLines = false

-- whether it is of lines of dates
abbrev pub is_of_lines : Must → Bool
is_of_lines (Be check) = false
is_of_lines (Name named reading) = false
is_of_lines (musts.List side) = false
is_of_lines HaveWholeLines = true
is_of_lines HaveDayLines = true

-- whether a line of dates isn't what it must be
abbrev pub is_unfit_line : Must → (name text : List ℕ) → Bool
is_unfit_line (Be check) name text = false
is_unfit_line (Name named reading) name text = false
is_unfit_line (musts.List side) name text = false
is_unfit_line HaveWholeLines name text = is_bad_line name text
is_unfit_line HaveDayLines name text = is_other_line name text

-- What was found of a block, by its place, is whether it isn't what it must be.
pub record AreFound (must : Must) (values : Column) (found : List (Option Bool)) : Type 0 where
  pub each : (place : ℕ) → IfSome (slice_index_or found place None)
      (λ broken. (kind : BlockKind) → broken ≡ breaks values.blocks place kind must values.directive)

-- each row has its column
pub record AreColumns (blocks : List Block) (rows : List Asked) (columns : List (List Bool)) : Type 0 where
  pub long : length columns ≡ length rows
  pub each : (row place : ℕ) → slice_index_or (slice_index_or columns row []) place false
      ≡ breaks_row blocks rows row place
