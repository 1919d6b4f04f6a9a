-- What a peer answers.
use Rattle.std.specs.Prelude.{◌≡◌, ◌≢◌, ℕ, ◌-◌, ◌≤◌, ◌↔◌, Bool, IsTrue, List, All, codes, length, take, Option}
use Rattle.std.specs.Io.KnownBytes.{Consumes}

-- a newline stands at the end, or nowhere
abbrev pub IsLine : List ℕ → Type 0
IsLine bytes = All (λ byte. byte ≢ 10) (take (length bytes - 1) bytes)

-- these bytes were taken from the reader, at most 64, and none after a newline
abbrev pub IsAnswer : (old new : Option (List ℕ)) → (answer : List ℕ) → Type 0
IsAnswer old new answer = Consumes old new answer × (length answer ≤ 64) × IsLine answer

-- the answer that means that the letter is taken
abbrev pub taken_answer : List ℕ
taken_answer = codes "OK\n"

-- an answer was heard, and this tells whether it means that the letter is taken
abbrev pub IsHeard : (old new : Option (List ℕ)) → Bool → Type 0
IsHeard old new is_taken =
    (answer : List ℕ) × IsAnswer old new answer × (IsTrue is_taken ↔ answer ≡ taken_answer)
