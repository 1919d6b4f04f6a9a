-- How an index is kept: levels, each of which has the earlier of each two moments of the one below.
use Rattle.std.specs.Prelude.{◌≡◌, ℕ, ◌+◌, ◌*◌, ◌-◌, ◌<◌, ◌≤◌, List, [], length, slice_index_or, Option}
use Rattle.due_times.specs.claims.Index.{at}
use Rattle.due_times.specs.Index.{earlier}

-- one level is above another: its places stand for two places each
pub record IsAbove (below above : List (Option ℕ)) : Type 0 where
  pub enough : length below ≤ 2 * length above
  pub few : 2 * length above ≤ length below + 1
  pub pairs : (i : ℕ) → at above i ≡ earlier (at below (2 * i)) (at below (2 * i + 1))

-- level k; empty beyond the last
abbrev pub level : List (List (Option ℕ)) → ℕ → List (Option ℕ)
level levels k = slice_index_or levels k []

-- the lowest level, which has the moments by object number
abbrev pub leaves : List (List (Option ℕ)) → List (Option ℕ)
leaves levels = level levels 0

-- each level is above the one before, and the last has at most one place
pub record ArePaired (levels : List (List (Option ℕ))) : Type 0 where
  pub above : (k : ℕ) → k + 1 < length levels → IsAbove (level levels k) (level levels (k + 1))
  pub top : length (level levels (length levels - 1)) ≤ 1
