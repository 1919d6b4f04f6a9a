-- What periods that blocks name are found in.
use Rattle.std.specs.Prelude.{◌≡◌, ℕ, ◌≤◌, List, length}
use Rattle.due_model.specs.claims.Limits.{max_periods}
use Rattle.object_groups.specs.claims.Objects.{names_in}
use Rattle.object_reader.specs.declared.block.Block.{Block}
use Rattle.object_reader.specs.declared.block.BlockKind.TheVariants.{TimePeriod}

-- these are the names of the blocks' time periods, and there are no more than fit
pub record ArePeriods (blocks : List Block) (periods : List (List ℕ)) : Type 0 where
  pub names : periods ≡ names_in blocks TimePeriod
  pub few : length periods ≤ max_periods
