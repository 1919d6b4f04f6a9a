-- The text before the first line that is a mark, and what follows that line.
use Rattle.std.specs.Prelude.{◌≡◌, ℕ, ◌+◌, ◌-◌, ◌≤◌, Bool, false, List, [], ◌∷◌, ◌++◌, length, take, drop, if◌then◌else◌, Option, None, Some}
use Rattle.std.specs.List.{join_with_byte}
use Rattle.std.specs.Str.{bytes_eq}
pub use Rattle.due_model.specs.claims.Limits.{text_limit}
use Rattle.text_lines.specs.claims.Lines.{pieces}
use Rattle.text_lines.specs.Lines.{IsUnbroken}
use Rattle.text_lines.specs.LineReader.{Reading}
use Rattle.text_lines.specs.declared.text.Parting.{Parting}
use Rattle.text_lines.specs.declared.text.Search.{Search}

-- the most calls of a reader for a text
abbrev pub text_call_limit : ℕ
text_call_limit = 33_554_432

-- a line is the mark, where one is given
abbrev pub is_mark : Option (List ℕ) → List ℕ → Bool
is_mark None line = false
is_mark (Some mark) line = bytes_eq line mark

-- how long a mark is, where one is given
abbrev pub mark_length : Option (List ℕ) → ℕ
mark_length None = 0
mark_length (Some mark) = length mark

-- the lines before the first one that is the mark, and those after it, joined again
abbrev pub split_lines : Option (List ℕ) → List (List ℕ) → List ℕ × List ℕ
split_lines mark [] = ([], [])
split_lines mark (line ∷ []) = if is_mark mark line then ([], []) else (line, [])
split_lines mark (line ∷ next ∷ lines) =
    if is_mark mark line then ([], join_with_byte 10 (next ∷ lines))
    else (line ++ 10 ∷ (split_lines mark (next ∷ lines)).0, (split_lines mark (next ∷ lines)).1)

-- both, of bytes
abbrev pub split_text : Option (List ℕ) → List ℕ → List ℕ × List ℕ
split_text None bytes = (bytes, [])
split_text (Some mark) bytes = split_lines (Some mark) (pieces bytes)

-- the bytes before the first line that is the mark; all, where none is or no mark is given
abbrev pub text_before : Option (List ℕ) → List ℕ → List ℕ
text_before mark bytes = (split_text mark bytes).0

-- the bytes after that line and its newline
abbrev pub rest_after : Option (List ℕ) → List ℕ → List ℕ
rest_after mark bytes = (split_text mark bytes).1

-- a text before the first part of what was split
abbrev pub with_front : List ℕ → List ℕ × List ℕ → List ℕ × List ℕ
with_front text parts = (text ++ parts.0, parts.1)

-- whatever follows these bytes, none of the lines before this place is the mark
abbrev pub SkipsLines : Option (List ℕ) → List ℕ → (start : ℕ) → Type 0
SkipsLines mark bytes start =
    (more : List ℕ) →
    split_text mark (bytes ++ more)
    ≡ with_front (take start bytes) (split_text mark (drop start bytes ++ more))

-- a search for the mark came so far: no line before is the mark, and the one under way has no newline yet
pub record IsSearched (mark : Option (List ℕ)) (bytes : List ℕ) (search : Search) : Type 0 where
  pub order : search.line_start ≤ search.at
  pub within : search.at ≤ length bytes
  pub lines : SkipsLines mark bytes search.line_start
  pub begun : IsUnbroken (take (search.at - search.line_start) (drop search.line_start bytes))

-- the mark was found: whatever follows these bytes, it splits them
pub record IsParting (mark : Option (List ℕ)) (bytes : List ℕ) (parting : Parting) : Type 0 where
  pub text : parting.text_end ≤ length bytes
  pub rest : parting.rest_start ≤ length bytes
  pub parts : (more : List ℕ) →
      split_text mark (bytes ++ more)
      ≡ (take parting.text_end bytes, drop parting.rest_start bytes ++ more)

-- what is held was moved after a text, and the mark is in it: whatever follows, the text ends there
pub record FindsMark (mark : Option (List ℕ)) (old new : Reading)
    (before after : List ℕ) : Type 0 where
  pub parts : (more : List ℕ)
      → split_text mark ((before ++ old.held) ++ more) ≡ (after, new.held ++ more)
  pub unread : new.unread ≡ old.unread
  pub few : length after ≤ text_limit

-- all of what is held was moved after a text, and no line of it is the mark
pub record MovesHeld (mark : Option (List ℕ)) (old new : Reading) (before after : List ℕ)
    (search : Search) : Type 0 where
  pub text : after ≡ before ++ old.held
  pub held : new.held ≡ []
  pub unread : new.unread ≡ old.unread
  pub searched : IsSearched mark after search
  pub all : search.at ≡ length after
  pub few : length after ≤ text_limit + mark_length mark
