-- What a reader of lines stands for, and what the reading of a line says of the bytes.
use Rattle.std.specs.Prelude.{ℕ, List, [], nat_lt, if◌then◌else◌}
pub use Rattle.due_model.specs.claims.Limits.{line_limit}

-- the most bytes of a line that is read over, and the most calls of a reader for one line
abbrev pub byte_limit : ℕ
byte_limit = 1_048_576

abbrev pub call_limit : ℕ
call_limit = 65_536

-- of a line that the end of the input cut: its text, or nothing where it has too many bytes
abbrev pub cut_text : (count : ℕ) → List ℕ → List ℕ
cut_text count text = if nat_lt line_limit count then [] else text
