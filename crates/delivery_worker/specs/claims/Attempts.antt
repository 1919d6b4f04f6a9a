-- What tries that failed leave, and how a lane's record stands after a notice was handed to its channel.
use Rattle.std.specs.Prelude.{◌≡◌, ℕ, ◌+◌, ◌-◌, ◌^◌, ◌<◌, ◌≤◌, ◌⊎◌}
use Rattle.std.specs.Prelude.{Option, Some, length}
use Rattle.due_model.specs.declared.config.Config.{Config}
use Rattle.due_model.specs.declared.notice.Notice.{Notice}
use Rattle.channel.specs.claims.Letter.{letter_of}

-- a count rose by so many, or by fewer and stands at the greatest that a u64 holds
abbrev pub RisesBy : (more old new : ℕ) → Type 0
RisesBy more old new =
    (new ≡ old + more) ⊎ ((2 ^ 64 - 1 ≤ new) × (old ≤ new) × (new ≤ old + more))

-- So many tries failed of a letter of this size: each at the device, which counted it, or none of them, since the letter is
-- longer than the channel's limit.
abbrev pub TriesFailed : (tries limit size old new : ℕ) → Type 0
TriesFailed tries limit size old new =
    ((size ≤ limit) × RisesBy tries old new) ⊎ ((limit < size) × (new ≡ old))

-- The notice in hand failed: the count of failures stood no lower than `old` when its letter was first tried, and from there on
-- so many tries of it failed.
abbrev pub HasFailed : (tries : ℕ) → Config → (limit old new : ℕ) → (hand : Option Notice) → Type 0
HasFailed tries c limit old new hand =
    (n : Notice) × (first : ℕ) × (hand ≡ Some n) × (old ≤ first)
    × TriesFailed tries limit (length (letter_of c n)) first new
