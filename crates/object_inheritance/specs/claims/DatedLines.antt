-- The lines of dates that blocks have (chapters "Time Periods" and "Object Inheritance").
use Rattle.std.specs.Prelude.{◌≡◌, ℕ, List, All, Contains, Option, None, Some, if◌then◌else◌}
use Rattle.object_inheritance.specs.claims.Inherited.{value}
use Rattle.object_reader.specs.declared.block.Block.{Block}
use Rattle.object_values.specs.claims.Ranges.{is_dated}

-- what a text says, where it is that of a line of dates
abbrev pub dated_line : (name : List ℕ) → Option (List ℕ) → Option (List ℕ)
dated_line name text = if is_dated name then text else None

-- These are the lines of dates that the block at the place has, each by its name, its own or that of a template.
pub record AreLines (blocks : List Block) (place : ℕ)
    (lines : List (List ℕ × List ℕ)) : Type 0 where
  pub each : All (λ line. dated_line line.0 (value blocks line.0 place) ≡ Some line.1) lines
  pub all : (name text : List ℕ) → dated_line name (value blocks name place) ≡ Some text
      → Contains lines (name, text)
