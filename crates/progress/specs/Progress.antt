-- How far a command is.
use Rattle.std.specs.Prelude.{ℕ, ◌+◌, ◌-◌, ◌^◌, min}

-- a count after so many more
abbrev pub count_after : ℕ → ℕ → ℕ
count_after count more = min (count + more) (2 ^ 64 - 1)
