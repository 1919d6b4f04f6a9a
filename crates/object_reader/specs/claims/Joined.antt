-- How physical lines make joined lines (chapter "Object Configuration Overview").
use Rattle.std.specs.Prelude.{◌≡◌, ℕ, ◌+◌, ◌-◌, ◌<◌, ◌≤◌, ◌⊎◌, Bool, ◌==◌, List, [], ◌∷◌, ◌++◌, length, take, slice_index, Result, Ok, Err}
use Rattle.std.specs.Str.{IsUtf8}
use Rattle.due_model.specs.claims.Limits.{line_limit}
use Rattle.object_reader.specs.declared.fault.LineFault.{LineFault}
use Rattle.object_reader.specs.declared.fault.LineFault.TheVariants.{NotUtf8, LineTooLong}
use Rattle.object_reader.specs.claims.Blanks.{AreBlanks, BeginsTight}
use Rattle.object_reader.specs.claims.Lines.{Line, content}

-- A joined line: the number of its first physical line, and its bytes, or the fault of the first of its physical lines
-- that has one.
pub record JoinedLine : Type 0 where
  pub line : ℕ
  pub text : Result (List ℕ) LineFault

-- The fault is that of a physical line by itself: it has more than 4,096 bytes, or else it isn't UTF-8.
abbrev pub IsFaultOf : Line → LineFault → Type 0
IsFaultOf l f = ((line_limit < length l.bytes) × (f ≡ LineTooLong))
    ⊎ ((length l.bytes ≤ line_limit) × (IsUtf8 l.bytes → ⊥) × (f ≡ NotUtf8))

-- The physical line has no such fault.
abbrev pub HasNoFault : Line → Type 0
HasNoFault l = (length l.bytes ≤ line_limit) × IsUtf8 l.bytes

-- The last byte is a backslash.
abbrev pub EndsInBackslash : List ℕ → Type 0
EndsInBackslash bs = (front : List ℕ) × (bs ≡ front ++ 92 ∷ [])

-- A physical line that is joined with the next: it ends in a backslash, with none before that. The backslash goes.
abbrev pub GoesOn : List ℕ → List ℕ → Type 0
GoesOn bs piece = (bs ≡ piece ++ 92 ∷ []) × (EndsInBackslash piece → ⊥)

-- A physical line that ends its joined line: of two backslashes at its end the last goes; else it ends in none.
abbrev pub EndsHere : List ℕ → List ℕ → Type 0
EndsHere bs piece =
    ((bs ≡ piece ++ 92 ∷ []) × EndsInBackslash piece) ⊎ ((EndsInBackslash bs → ⊥) × (piece ≡ bs))

-- What the next lines say comes after the piece, without its leading blanks. A fault in them is that of the whole.
abbrev pub IsPutAfter : List ℕ → Result (List ℕ) LineFault → Result (List ℕ) LineFault → Type 0
IsPutAfter piece (Ok more) text = (blanks : List ℕ) × (left : List ℕ) × (more ≡ blanks ++ left)
    × AreBlanks blanks × BeginsTight left × (text ≡ Ok (piece ++ left))
IsPutAfter piece (Err f) text = text ≡ Err f

-- The physical lines are one joined line, and `rest` comes after them: each but the last is joined with the next. The
-- last ends the joined line, or it goes on and the text ends, or it has a fault.
abbrev pub IsJoined : List Line → List Line → Result (List ℕ) LineFault → Type 0
IsJoined [] rest text = ⊥
IsJoined (l ∷ []) rest text = ((f : LineFault) × IsFaultOf l f × (text ≡ Err f))
    ⊎ (HasNoFault l × ((bytes : List ℕ) × (text ≡ Ok bytes)
    × (EndsHere (content l) bytes ⊎ (GoesOn (content l) bytes × (rest ≡ [])))))
IsJoined (l ∷ m ∷ ls) rest text =
    HasNoFault l × ((piece : List ℕ) × (more : Result (List ℕ) LineFault)
    × GoesOn (content l) piece × IsJoined (m ∷ ls) rest more × IsPutAfter piece more text)

-- The physical lines, of which the first has the number n, are the joined lines, one after the other.
abbrev pub AreJoined : ℕ → List Line → List JoinedLine → Type 0
AreJoined n lines [] = lines ≡ []
AreJoined n lines (j ∷ js) =
    (first : List Line) × (rest : List Line) × (lines ≡ first ++ rest) × (j.line ≡ n)
    × IsJoined first rest j.text × AreJoined (n + length first) rest js

-- By a function.

-- whether the last byte is a backslash
abbrev pub ends_in_backslash : List ℕ → Bool
ends_in_backslash bs = slice_index bs (length bs - 1) == 92

-- the bytes without the last
abbrev pub without_last : List ℕ → List ℕ
without_last bs = take (length bs - 1) bs
