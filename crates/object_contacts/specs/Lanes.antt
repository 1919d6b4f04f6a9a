-- Lanes: the notification commands that contacts name (chapter "Object Definitions").
use Rattle.std.specs.Prelude.{ℕ, Bool, List}
use Rattle.object_contacts.specs.Marks.{IsMarked}
use Rattle.object_groups.specs.claims.Objects.{list_at}
use Rattle.object_inheritance.specs.Columns.{Column}
use Rattle.object_contacts.specs.claims.Lanes.{NamesCommand}

-- Of each block that was read, by its place, the commands that its list for the directive of the values names are
-- marked.
pub record AreRead (commands : List (List ℕ)) (values : Column) (read marks : List Bool)
    : Type 0 where
  pub each : (place : ℕ) → IsMarked read place → (command : ℕ)
      → NamesCommand commands (list_at values.blocks values.directive place) command
      → IsMarked marks command
