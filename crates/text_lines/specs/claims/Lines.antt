-- Bytes as lines: each line ends at a newline.
use Rattle.std.specs.Prelude.{ℕ, Bool, List, ◌==◌, length, drop, take_while, ⊤, Option, None, Some}
use Rattle.std.specs.List.{list_any, slice_split}

abbrev pub is_newline : ℕ → Bool
is_newline byte = byte == 10

-- the pieces between the newlines: the lines, and last what no newline follows
abbrev pub pieces : List ℕ → List (List ℕ)
pieces bytes = slice_split is_newline bytes

abbrev pub has_newline : List ℕ → Bool
has_newline bytes = list_any is_newline bytes

-- a whole line that isn't empty comes after the empty lines at the front of the bytes
abbrev pub has_line : List ℕ → Bool
has_line bytes = has_newline (drop (length (take_while is_newline bytes)) bytes)

-- known bytes stay known, and the fact holds of those before and those after
abbrev pub Known : Option (List ℕ) → Option (List ℕ) → (List ℕ → List ℕ → Type 0) → Type 0
Known None after P = ⊤
Known (Some bytes) None P = ⊥
Known (Some bytes) (Some rest) P = P bytes rest
