-- How late the stamp of a line may be in a run.
use Rattle.std.specs.Prelude.{◌≡◌, ℕ, ◌+◌, min, Option, None, Some, IfSome}

-- By the machine's clock, which may show any moment: so many seconds later, if there is a limit and the clock can be read.
abbrev pub SaysAhead : (ahead : Option ℕ) → (latest : Option ℕ) → Type 0
SaysAhead None latest = latest ≡ None
SaysAhead (Some ahead) latest =
    IfSome latest (λ moment. (now : ℕ) × (moment ≡ min (now + ahead) 18446744073709551615))
