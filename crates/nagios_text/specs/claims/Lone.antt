-- Directives that stand alone in their line, without a value.
use Rattle.std.specs.Prelude.{ℕ, ◌-◌, Bool, false, not, ◌==◌, ◌&&◌, ◌||◌, List, [], ◌∷◌, ◌++◌, length, take, codes, slice_index, nat_lt, if◌then◌else◌}
use Rattle.std.specs.Char.{is_ascii_alphanumeric}
use Rattle.std.specs.List.{before_first, list_all, slice_split}
use Rattle.std.specs.Str.{bytes_eq}
use Rattle.object_reader.specs.claims.Blanks.{trimmed}
use Rattle.object_reader.specs.claims.DayLines.{begins_day}
use Rattle.object_reader.specs.claims.Joined.{ends_in_backslash, without_last}

-- what stands for the value of a directive without one: the byte 1
abbrev pub mark : List ℕ
mark = 1 ∷ []

-- lists with a byte between each two
abbrev pub with_between : (byte : ℕ) → List (List ℕ) → List ℕ
with_between byte [] = []
with_between byte (bytes ∷ []) = bytes
with_between byte (bytes ∷ more ∷ others) = bytes ++ byte ∷ with_between byte (more ∷ others)

-- ---- one line

-- a line without the carriage return at its end
abbrev pub without_return : List ℕ → List ℕ
without_return line =
    if slice_index line (length line - 1) == 13 then take (length line - 1) line else line

-- whether a line goes on in the next: it ends in one backslash
abbrev pub ends_in_one : List ℕ → Bool
ends_in_one bytes = ends_in_backslash bytes && not (ends_in_backslash (without_last bytes))

abbrev pub goes_on : List ℕ → Bool
goes_on line = ends_in_one (without_return line)

-- what a line has before its comment, without the blanks round it
abbrev pub bare : List ℕ → List ℕ
bare line = trimmed (before_first (λ b. b == 59) (without_return line))

-- whether a byte may be one of a directive's name
abbrev pub is_of_name : ℕ → Bool
is_of_name byte = is_ascii_alphanumeric byte || byte == 95

-- whether bytes may be the name of a directive
abbrev pub is_name : List ℕ → Bool
is_name bytes = nat_lt 0 (length bytes) && list_all is_of_name bytes

-- whether bytes are the name of a directive, and nothing more; a day line has to have times
abbrev pub is_lone : List ℕ → Bool
is_lone bytes =
    is_name bytes && not (begins_day bytes) && not (bytes_eq bytes (codes "define"))

-- what is read of a line that isn't the rest of one before it
abbrev pub said_of : List ℕ → List ℕ
said_of line = if is_lone (bare line) then bare line ++ 32 ∷ mark else line

-- and of one that is or isn't
abbrev pub line_said : (is_rest : Bool) → List ℕ → List ℕ
line_said is_rest line = if is_rest then line else said_of line

-- ---- the text

abbrev pub lines_in : (text : List ℕ) → List (List ℕ)
lines_in text = slice_split (λ b. b == 10) text

-- the lines, of which the first is the rest of one before it or isn't
abbrev pub lines_said : (is_rest : Bool) → List (List ℕ) → List (List ℕ)
lines_said is_rest [] = []
lines_said is_rest (line ∷ lines) = line_said is_rest line ∷ lines_said (goes_on line) lines

-- the text that is read: line by line as it is, but for directives without a value, which have the mark for one
abbrev pub marked : List ℕ → List ℕ
marked text = with_between 10 (lines_said false (lines_in text))
