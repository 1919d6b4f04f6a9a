-- The lines of a text (chapter "Object Configuration Overview").
use Rattle.std.specs.List.{list_all}
use Rattle.std.specs.Prelude.{◌≡◌, ◌<◌, ◌⊎◌, ◌++◌, not, IsTrue, ℕ, ◌-◌, Bool, true, false, ◌&&◌, ◌==◌, List, [], ◌∷◌, length, take, slice_index, if◌then◌else◌}

-- A line: its bytes without the newline, and whether a newline ends it.
pub record Line : Type 0 where
  pub bytes : List ℕ
  pub ended : Bool

-- What a line holds: its bytes, without a carriage return before the newline.
unfoldable pub content : Line → List ℕ
content l = if l.ended && (slice_index l.bytes (length l.bytes - 1) == 13)
    then take (length l.bytes - 1) l.bytes else l.bytes

-- The text is these lines, one after the other. No line holds a newline, and one follows each; the last may lack it,
-- and then it isn't empty.
abbrev pub AreLines : List ℕ → List Line → Type 0
AreLines text [] = text ≡ []
AreLines text (l ∷ ls) = IsTrue (list_all (λ b. not (b == 10)) l.bytes)
    × (((rest : List ℕ) × (l.ended ≡ true) × (text ≡ l.bytes ++ 10 ∷ rest) × AreLines rest ls)
    ⊎ ((l.ended ≡ false) × (0 < length l.bytes) × (text ≡ l.bytes) × (ls ≡ [])))
