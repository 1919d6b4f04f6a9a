-- What a writer or a stream is to its callers.
use Rattle.std.specs.Prelude.{ℕ, ◌+◌, ◌-◌, ◌^◌, min, Bool}

-- a writer, and whether it was flushed after it was written to last
pub record Written (W : Type 0) : Type 0 where
  pub writer : W
  pub is_flushed : Bool

-- a stream, the same of it, and how many calls were made to read
pub record Streamed (S : Type 0) : Type 0 where
  pub stream : S
  pub is_flushed : Bool
  pub reads : ℕ

-- the count after one call more
abbrev pub one_more : ℕ → ℕ
one_more calls = min (calls + 1) (2 ^ 64 - 1)
