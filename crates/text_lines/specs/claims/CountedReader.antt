-- A reader whose calls are counted.
use Rattle.std.specs.Prelude.{ℕ, ◌+◌, ◌-◌, ◌^◌, min}

-- the count after so many calls more
abbrev pub calls_after : ℕ → ℕ → ℕ
calls_after calls more = min (calls + more) (2 ^ 64 - 1)
