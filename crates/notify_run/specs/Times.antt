-- Times of a command line that say nothing.
use Rattle.std.proofs.Common.{Bor}
use Rattle.std.specs.Prelude.{ℕ, ◌≤◌, ◌⊎◌, IsSomeAnd, List, Option}
use Rattle.command_line.specs.declared.why.WhyWords.{WhyWords}
use Rattle.command_line.specs.declared.words.WhoWords.{WhoWords}
use Rattle.due_model.specs.claims.Limits.{last_moment}
use Rattle.due_model.specs.declared.zone.Zone.{Zone}
use Rattle.given_times.specs.Given.{IsMinutes, IsMoment, most_minutes}

-- a text is given that says no moment
abbrev pub IsNoMoment : Zone → (at : Option (Bor (List ℕ))) → Type 0
IsNoMoment zone at = IsSomeAnd at
    (λ text. (moment : ℕ) → moment ≤ last_moment → IsMoment zone text.now moment → ⊥)

-- It gives a time, and that is no moment.
abbrev pub IsBadTime : Zone → WhoWords → Type 0
IsBadTime zone asked = IsNoMoment zone asked.at

-- a time of the span is none
abbrev pub IsBadSpan : Zone → WhyWords → Type 0
IsBadSpan zone words = IsNoMoment zone words.from ⊎ IsNoMoment zone words.to

-- How long it lasts is no length of so many minutes.
abbrev pub IsBadLength : WhoWords → Type 0
IsBadLength asked = (minutes : ℕ) → 1 ≤ minutes → minutes ≤ most_minutes
    → IsMinutes asked.lasting.now minutes → ⊥
