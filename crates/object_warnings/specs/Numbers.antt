-- The numbers of what passes a test.
use Rattle.std.specs.Prelude.{ℕ, Bool, List, filter}
use Rattle.std.specs.List.{range_with_len}

-- the numbers of those that pass, among so many, in order
abbrev pub numbers_where : (ℕ → Bool) → (count : ℕ) → List ℕ
numbers_where passes count = filter passes (range_with_len 0 count)
