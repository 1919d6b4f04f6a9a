-- Loops of exclusions (chapter "Time Periods").
use Rattle.std.specs.Prelude.{◌≡◌, ℕ, List, Contains, Some, slice_get}
use Rattle.graph.specs.claims.Chains.{IsOnLoop}
use Rattle.object_groups.specs.claims.Objects.{objects_in}
use Rattle.object_periods.specs.claims.Periods.{excluded_at}
use Rattle.object_reader.specs.declared.block.Block.{Block}
use Rattle.object_reader.specs.declared.block.BlockKind.TheVariants.{TimePeriod}

-- the block at the place is that of the period of that number
abbrev pub IsNumbered : List Block → (number place : ℕ) → Type 0
IsNumbered blocks number place = slice_get (objects_in blocks TimePeriod) number ≡ Some place

-- one period excludes another, by their numbers
abbrev pub ExcludesNumber : List Block → (number other : ℕ) → Type 0
ExcludesNumber blocks number other =
    (place : ℕ) × IsNumbered blocks number place × Contains (excluded_at blocks place) other

-- The block at the place is that of a period from which a chain of exclusions comes back to it.
abbrev pub IsLoopedAt : List Block → ℕ → Type 0
IsLoopedAt blocks place =
    (number : ℕ) × IsNumbered blocks number place × IsOnLoop (ExcludesNumber blocks) number
