-- The time periods of blocks (chapters "Time Periods" and "Object Inheritance").
use Rattle.std.specs.Prelude.{◌≡◌, ℕ, List, map}
use Rattle.object_inheritance.specs.Columns.{Column}
use Rattle.object_reader.specs.declared.block.Block.{Block}
use Rattle.object_values.specs.claims.Ranges.{weekdays}

-- ---- how it is kept what all blocks have for the weekdays

abbrev pub column_of : List Block → List ℕ → Column
column_of blocks weekday = record { blocks = blocks; directive = weekday }

-- what the blocks have for each weekday
abbrev pub AreDays : List Block → List Column → Type 0
AreDays blocks days = days ≡ map (column_of blocks) weekdays
