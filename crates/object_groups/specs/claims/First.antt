-- The first place of which something is said.
use Rattle.std.specs.Prelude.{ℕ, ◌<◌, Option, Some, None}

-- the first place of which `P` says so, if there is one
abbrev pub IsFirst : (P : ℕ → Type 0) → Option ℕ → Type 0
IsFirst P None = (place : ℕ) → P place → ⊥
IsFirst P (Some place) = P place × ((k : ℕ) → k < place → P k → ⊥)
