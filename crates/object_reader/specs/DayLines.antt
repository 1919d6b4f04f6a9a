-- The day lines of a time period (chapter "Object Definitions", "Time Period Definition").
use Rattle.std.specs.Prelude.{ℕ, ◌-◌, ◌==◌, not, Bool, false, List, [], ◌∷◌, length, drop, if◌then◌else◌}
use Rattle.std.specs.List.{before_first, list_any}
use Rattle.object_reader.specs.declared.block.Directive.{Directive}
use Rattle.object_reader.specs.claims.Blanks.{is_blank, without_end}
use Rattle.object_reader.specs.claims.Statements.{first_word}
use Rattle.object_reader.specs.Statements.{after_word}
use Rattle.object_reader.specs.claims.DayLines.{begins_day, without_blanks}

-- By a function.

-- what stands before the first word with a colon; nothing where none has one
unfoldable pub before_times : List ℕ → List ℕ
before_times s =
    if list_any (λ b. b == 58) s
    then without_end (λ b. not (is_blank b)) (before_first (λ b. b == 58) s) else []

-- the words that are the name of a day line: all, where none has a colon; nothing where the line is no day line
unfoldable pub day_front : List ℕ → List ℕ
day_front s =
    if begins_day (first_word s)
    then (if list_any (λ b. b == 58) s then before_times s
    else if length (after_word s) == 0 then [] else s)
    else []

-- whether there is a first byte, and it is no blank
abbrev pub starts_word : List ℕ → Bool
starts_word [] = false
starts_word (b ∷ bs) = not (is_blank b)

-- the words, with one space between each two
unfoldable pub spaced : List ℕ → List ℕ
spaced [] = []
spaced (b ∷ bs) =
    if is_blank b then (if starts_word bs then 32 ∷ spaced bs else spaced bs) else b ∷ spaced bs

-- the directive that a day line is, whose name is the words in front
abbrev pub day_line : List ℕ → List ℕ → Directive
day_line s front = record { name = spaced front; value = without_blanks (drop (length front) s) }
