-- Flags by number.
use Rattle.std.specs.Prelude.{ℕ, Bool, false, List, slice_index_or}

-- the flag of a number; false, if there is none
abbrev pub flag_at : List Bool → ℕ → Bool
flag_at flags n = slice_index_or flags n false
