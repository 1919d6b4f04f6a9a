-- How lanes are found: by marks, one for each number.
use Rattle.std.specs.Prelude.{◌≡◌, ℕ, Bool, true, false, List, length, filter, slice_index_or, Contains, ◌⊎◌, ◌↔◌}
use Rattle.std.specs.List.{range_with_len}

-- the number is marked
abbrev pub IsMarked : List Bool → (number : ℕ) → Type 0
IsMarked marks number = slice_index_or marks number false ≡ true

-- these marks, and exactly those beside them of which `P` says so
abbrev pub Marks : (P : ℕ → Type 0) → (old new : List Bool) → Type 0
Marks P old new = (k : ℕ) → IsMarked new k ↔ (IsMarked old k ⊎ P k)

-- what one of the elements says of a number
abbrev pub OfSome : {X : Type 0} → (f : X → ℕ → Type 0) → List X → (number : ℕ) → Type 0
OfSome {X} f xs number = (x : X) × Contains xs x × f x number

-- the numbers that are marked, in order
abbrev pub marked : List Bool → List ℕ
marked marks =
    filter (λ number. slice_index_or marks number false) (range_with_len 0 (length marks))
