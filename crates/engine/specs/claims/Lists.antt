-- The front of a list.
use Rattle.std.specs.Prelude.{◌≡◌, List, ◌++◌}

-- one list is the front of another
abbrev pub IsFrontOf : {X : Type 0} → (front all : List X) → Type 0
IsFrontOf {X} front all = (rest : List X) × (all ≡ front ++ rest)
