-- What a writer takes of the bytes that it is given.
use Rattle.std.specs.Prelude.{◌≡◌, ℕ, List, ◌++◌, Option}
use Rattle.std.specs.Io.KnownBytes.{Appends}

-- the writer took all of these bytes and no others, where it tells what it holds
abbrev pub Writes : (old new : Option (List ℕ)) → (all : List ℕ) → Type 0
Writes old new all = Appends old new all

-- of all these bytes it took a front, and these are left
abbrev pub Leaves : (old new : Option (List ℕ)) → (all left : List ℕ) → Type 0
Leaves old new all left = (taken : List ℕ) × Writes old new taken × (taken ++ left ≡ all)

-- it took a front of them
abbrev pub WritesFront : (old new : Option (List ℕ)) → (all : List ℕ) → Type 0
WritesFront old new all = (left : List ℕ) × Leaves old new all left
