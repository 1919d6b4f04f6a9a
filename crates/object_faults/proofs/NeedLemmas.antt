-- What is kept of the lists of a side.
use Rattle.std.proofs.Common.{◌≡◌, ℕ, Bool, List, ap, sym, ◌∙◌}
use Rattle.object_inheritance.specs.Columns.{Column}
use Rattle.object_reader.specs.declared.block.Block.{Block}
use Rattle.object_faults.specs.declared.needs.Side.{Side}
use Rattle.object_faults.specs.claims.Faults.{is_listed}
use Rattle.object_faults.specs.Needs.{NeedsOf}

-- what the column says of a list is what the blocks have for it
pub listed-is : (directive : Side → List ℕ) (inside of_needs : NeedsOf) (column : Column) (place : ℕ) (listed : Bool)
    → column ≡ record { blocks = inside.blocks; directive = directive inside.side } → inside ≡ of_needs → listed ≡ is_listed column.blocks place column.directive
    → listed ≡ is_listed of_needs.blocks place (directive of_needs.side)
listed-is directive inside of_needs column place listed column_is same is =
    is ∙ ap (λ (c : Column). is_listed c.blocks place c.directive) column_is ∙ ap (λ (n : NeedsOf). is_listed n.blocks place (directive n.side)) same

-- the column of a list
pub column-is : (blocks inside : List Block) (directive : List ℕ) (bytes : List ℕ) (column : Column) → inside ≡ blocks → bytes ≡ directive
    → column ≡ record { blocks = blocks; directive = bytes } → column ≡ record { blocks = inside; directive = directive }
column-is blocks inside directive bytes column same bytes_are is =
    is ∙ ap (λ (bs : List Block). record { blocks = bs; directive = bytes }) (sym same) ∙ ap (λ (d : List ℕ). record { blocks = inside; directive = d }) bytes_are
