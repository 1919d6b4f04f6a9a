-- What a device of started programs is to its callers.
use Rattle.std.specs.Prelude.{ℕ, List}

-- how many bytes a text has at most
abbrev pub program_limit : ℕ
program_limit = 16384

-- the program that is started for each letter, and its arguments
pub record Started : Type 0 where
  pub program : List ℕ
  pub arguments : List (List ℕ)
