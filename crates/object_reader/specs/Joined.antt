-- How physical lines make joined lines (chapter "Object Configuration Overview").
use Rattle.std.specs.Prelude.{ℕ, ◌+◌, ◌-◌, Bool, false, not, nat_lt, List, [], ◌∷◌, ◌++◌, length, Result, Ok, Err, if◌then◌else◌}
use Rattle.std.specs.Str.{is_utf8}
use Rattle.due_model.specs.claims.Limits.{line_limit}
use Rattle.object_reader.specs.declared.fault.LineFault.{LineFault}
use Rattle.object_reader.specs.declared.fault.LineFault.TheVariants.{NotUtf8, LineTooLong}
use Rattle.object_reader.specs.claims.Blanks.{trim_start}
use Rattle.object_reader.specs.claims.Lines.{Line, content}
use Rattle.object_reader.specs.claims.Joined.{JoinedLine, ends_in_backslash, without_last}

-- What a physical line gives to its joined line, and whether that goes on in the next.
pub record Piece : Type 0 where
  pub bytes : List ℕ
  pub goes_on : Bool

unfoldable pub piece_of : List ℕ → Piece
piece_of bs = if ends_in_backslash bs
    then record { bytes = without_last bs; goes_on = not (ends_in_backslash (without_last bs)) }
    else record { bytes = bs; goes_on = false }

-- A physical line has at most 4,096 bytes without its newline and is UTF-8. Then its content is a piece.
unfoldable pub line_piece : Line → Result Piece LineFault
line_piece l = if nat_lt line_limit (length l.bytes) then Err LineTooLong
    else if not (is_utf8 l.bytes) then Err NotUtf8
    else Ok (piece_of (content l))

-- what is put after a piece
abbrev pub put_after : List ℕ → Result (List ℕ) LineFault → Result (List ℕ) LineFault
put_after piece (Ok more) = Ok (piece ++ trim_start more)
put_after piece (Err fault) = Err fault

-- a piece, with the number of its line, before the joined lines
abbrev pub onto_first : ℕ → List ℕ → List JoinedLine → List JoinedLine
onto_first n piece [] = (record { line = n; text = Ok piece }) ∷ []
onto_first n piece (j ∷ js) = (record { line = n; text = put_after piece j.text }) ∷ js

-- a physical line, with its number, before the joined lines after it
abbrev pub joined_with : ℕ → Result Piece LineFault → List JoinedLine → List JoinedLine
joined_with n (Err fault) js = (record { line = n; text = Err fault }) ∷ js
joined_with n (Ok piece) js = if piece.goes_on then onto_first n piece.bytes js
    else (record { line = n; text = Ok piece.bytes }) ∷ js

-- The joined lines of the physical lines, of which the first has the number n.
unfoldable pub joined_from : ℕ → List Line → List JoinedLine
joined_from n [] = []
joined_from n (l ∷ ls) = joined_with n (line_piece l) (joined_from (n + 1) ls)
