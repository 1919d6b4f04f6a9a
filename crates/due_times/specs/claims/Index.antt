-- An index of moments by object number.
use Rattle.std.specs.Prelude.{ℕ, List, slice_index_or, Option, None}

-- the moments by object number, and how many entries were handed out, modulo 2^64
pub record Due : Type 0 where
  pub moments : List (Option ℕ)
  pub examined : ℕ

-- the moment of an object; none beyond the last
abbrev pub at : List (Option ℕ) → ℕ → Option ℕ
at moments place = slice_index_or moments place None
