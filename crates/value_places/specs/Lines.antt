-- Which line of object text gives a directive (chapter "Object Configuration Overview").
use Rattle.std.specs.Prelude.{◌≡◌, ℕ, ◌+◌, ◌-◌, ◌<◌, ◌≤◌, ◌⊎◌, Bool, true, false, ◌==◌, ◌&&◌, not, List, [], length, take, codes, slice_index, slice_index_or, if◌then◌else◌}
use Rattle.std.specs.List.{before_first, slice_split}
use Rattle.std.specs.Str.{bytes_eq}
use Rattle.object_reader.specs.claims.Blanks.{is_blank, trimmed}
use Rattle.object_reader.specs.claims.Joined.{ends_in_backslash, without_last}

-- the lines of a text, without their newlines
abbrev pub lines_in : (text : List ℕ) → List (List ℕ)
lines_in text = slice_split (λ b. b == 10) text

-- whether the word is the first of the line
abbrev pub begins_with : (word line : List ℕ) → Bool
begins_with word line = bytes_eq (before_first is_blank (trimmed line)) word

-- a line without the carriage return at its end
abbrev pub without_return : List ℕ → List ℕ
without_return line =
    if slice_index line (length line - 1) == 13 then take (length line - 1) line else line

-- whether a line goes on in the next: it ends in one backslash
abbrev pub ends_in_one : List ℕ → Bool
ends_in_one bytes = ends_in_backslash bytes && not (ends_in_backslash (without_last bytes))

abbrev pub goes_on : List ℕ → Bool
goes_on line = ends_in_one (without_return line)

-- the line at the place, from 0
abbrev pub line_at : (lines : List (List ℕ)) → (at : ℕ) → List ℕ
line_at lines at = slice_index_or lines at []

-- it begins a block
abbrev pub begins_block : (lines : List (List ℕ)) → (at : ℕ) → Bool
begins_block lines at = begins_with (codes "define") (line_at lines at)

-- it begins with the name of a directive, and isn't the rest of the line before it
abbrev pub names : (lines : List (List ℕ)) → (name : List ℕ) → (at : ℕ) → Bool
names lines name at = begins_with name (line_at lines at) && not (goes_on (line_at lines (at - 1)))

-- The line at the place begins with the name of the directive, and stands in the block of the `define` that is the line of that
-- number, from 1: behind it, and with no other up to there.
pub record Gives (lines : List (List ℕ)) (define : ℕ) (name : List ℕ) (at : ℕ) : Type 0 where
  pub behind : define ≤ at
  pub within : at < length lines
  pub names : names lines name at ≡ true
  pub block : (other : ℕ) → define ≤ other → other ≤ at → begins_block lines other ≡ false

-- it is the number of such a line
pub record IsOneOf (lines : List (List ℕ)) (define : ℕ) (name : List ℕ) (number : ℕ) : Type 0 where
  pub at : ℕ
  pub is : number ≡ at + 1
  pub gives : Gives lines define name at

-- The number of the last of these lines; where there is none, as where the name itself goes on in another line, that of the
-- `define`.
pub record IsLineOf (lines : List (List ℕ)) (define : ℕ) (name : List ℕ) (number : ℕ) : Type 0 where
  pub one : (number ≡ define) ⊎ IsOneOf lines define name number
  pub last : (at : ℕ) → number ≤ at → Gives lines define name at → ⊥

-- ---- how it is found

-- the same of the lines before a place, none of which is another `define`
pub record IsSoFar (lines : List (List ℕ)) (define : ℕ) (name : List ℕ) (end number : ℕ) : Type 0 where
  pub one : (number ≡ define) ⊎ IsOneOf lines define name number
  pub last : (at : ℕ) → number ≤ at → at < end → Gives lines define name at → ⊥
  pub block : (other : ℕ) → define ≤ other → other < end → begins_block lines other ≡ false
  pub behind : define ≤ end
