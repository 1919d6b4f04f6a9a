-- The lines of a text (chapter "Object Configuration Overview").
use Rattle.std.specs.List.{list_all}
use Rattle.std.specs.Prelude.{not, IsTrue, ℕ, ◌-◌, true, false, ◌==◌, List, [], ◌∷◌, if◌then◌else◌}
use Rattle.object_reader.specs.claims.Lines.{Line}

-- the lines with one more byte at the front of the first
abbrev pub onto_first_line : ℕ → List Line → List Line
onto_first_line b [] = (record { bytes = b ∷ []; ended = false }) ∷ []
onto_first_line b (l ∷ ls) = (record { bytes = b ∷ l.bytes; ended = l.ended }) ∷ ls

-- The lines of a text: each ends with a newline, and the last may lack it.
unfoldable pub lines_of : List ℕ → List Line
lines_of [] = []
lines_of (b ∷ bs) =
    if b == 10 then (record { bytes = []; ended = true }) ∷ lines_of bs
    else onto_first_line b (lines_of bs)

-- No byte is a semicolon.
abbrev pub HasNoSemicolon : List ℕ → Type 0
HasNoSemicolon bs = IsTrue (list_all (λ b. not (b == 59)) bs)
