-- A reader whose calls are counted.
use Rattle.std.specs.Prelude.{ℕ, ◌-◌, List, Option}

-- the bytes that the reader still has, where they are known, and how many calls were made of it
pub record Counted : Type 0 where
  pub unread : Option (List ℕ)
  pub calls : ℕ
