-- The lines of a journal, whatever the bytes of a line are, and what is read of them.
use Rattle.std.specs.Prelude.{◌≡◌, ℕ, ◌+◌, List, [], ◌∷◌, ◌++◌, flat_map, length, nat_le, Option, None, Some, Result, Ok, Err, if◌then◌else◌}
use Rattle.due_model.specs.claims.Limits.{line_limit}
use Rattle.text_lines.specs.claims.Lines.{pieces}
use Rattle.journal_text.specs.declared.entry.Entry.{Entry}

-- ---- as they are written

-- the text of entries: each with a newline behind it
abbrev pub text : (Entry → List ℕ) → List Entry → List ℕ
text body entries = flat_map (λ e. body e ++ 10 ∷ []) entries

-- the text of a journal: its first line, and its entries
abbrev pub whole_text : (first : List ℕ) → (Entry → List ℕ) → List Entry → List ℕ
whole_text first body entries = first ++ 10 ∷ [] ++ text body entries

-- ---- as they are read

-- a line that is longer than a line may be says nothing
abbrev pub within : {X : Type 0} → (List ℕ → Option X) → List ℕ → Option X
within said line = if nat_le (length line) line_limit then said line else None

-- an entry before what was read, if anything was
abbrev pub with_front : Entry → Result (List Entry) ℕ → Result (List Entry) ℕ
with_front e (Ok es) = Ok (e ∷ es)
with_front e (Err n) = Err n

-- what a line says, and then what the others say; the number of the line that says nothing
abbrev pub after_line : ℕ → Option Entry → Result (List Entry) ℕ → Result (List Entry) ℕ
after_line n None rest = Err n
after_line n (Some e) rest = with_front e rest

-- what pieces say from line n on, but for the last, which no newline follows: it's dropped
abbrev pub read_from : (List ℕ → Option Entry) → ℕ → List (List ℕ) → Result (List Entry) ℕ
read_from said n [] = Ok []
read_from said n (last ∷ []) = Ok []
read_from said n (line ∷ next ∷ lines) = after_line n (said line) (read_from said (n + 1) (next ∷ lines))

-- what a journal tells: from which event on, where its first line is whole, and its entries
pub record Told : Type 0 where
  pub from : Option ℕ
  pub entries : List Entry

abbrev pub nothing_told : Told
nothing_told = record { from = None; entries = [] }

-- what the first line says, and then what the others say
abbrev pub after_first : Option ℕ → Result (List Entry) ℕ → Result Told ℕ
after_first None rest = Err 1
after_first (Some from) (Ok es) = Ok (record { from = Some from; entries = es })
after_first (Some from) (Err n) = Err n

-- what pieces say, the first of them by itself
abbrev pub told_by : (first : List ℕ → Option ℕ) → (said : List ℕ → Option Entry) → List (List ℕ) → Result Told ℕ
told_by first said [] = Ok nothing_told
told_by first said (last ∷ []) = Ok nothing_told
told_by first said (line ∷ next ∷ lines) = after_first (first line) (read_from said 2 (next ∷ lines))

-- how many bytes the pieces have up to the last newline
abbrev pub whole_length : List (List ℕ) → ℕ
whole_length [] = 0
whole_length (last ∷ []) = 0
whole_length (line ∷ next ∷ lines) = length line + 1 + whole_length (next ∷ lines)

-- entries before what is read
abbrev pub put : List Entry → Result (List Entry) ℕ → Result (List Entry) ℕ
put es (Ok more) = Ok (es ++ more)
put es (Err n) = Err n
