-- The first place of which something is said.
use Rattle.std.specs.Prelude.{ℕ, nat_le, Option, Some, None, if◌then◌else◌}

-- the lower of two places that may be there
abbrev pub lower : Option ℕ → Option ℕ → Option ℕ
lower None second = second
lower (Some one) None = Some one
lower (Some one) (Some other) = if nat_le one other then Some one else Some other
