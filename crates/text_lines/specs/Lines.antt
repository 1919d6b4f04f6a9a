-- Bytes as lines: each line ends at a newline.
use Rattle.std.specs.Prelude.{◌≡◌, ℕ, false, List, ◌∷◌, ◌++◌, All}
use Rattle.text_lines.specs.claims.Lines.{is_newline}

-- no newline is among the bytes
abbrev pub IsUnbroken : List ℕ → Type 0
IsUnbroken bytes = All (λ byte. is_newline byte ≡ false) bytes

-- the bytes begin with a line of this text and its newline, and then come the others
pub record BeginsWithLine (bytes text rest : List ℕ) : Type 0 where
  pub unbroken : IsUnbroken text
  pub whole : bytes ≡ text ++ 10 ∷ rest
