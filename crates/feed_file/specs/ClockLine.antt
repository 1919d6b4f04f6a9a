-- The line by which a feed tells of time.
use Rattle.std.specs.Prelude.{ℕ, List, ◌++◌, ◌/◌, codes, decimal}

-- it is this second of the epoch
abbrev pub clock_line : (now : ℕ) → List ℕ
clock_line now = codes "[" ++ decimal now ++ codes "] CLOCK\n"

-- which minute of the epoch a second is of
abbrev pub minute_of : (now : ℕ) → ℕ
minute_of now = now / 60
