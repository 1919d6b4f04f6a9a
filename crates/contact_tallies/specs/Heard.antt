-- Who was told of the problems of objects, and when, as it is kept.
use Rattle.std.specs.Prelude.{ℕ, not, ◌==◌, List, [], ◌∷◌, ◌++◌, filter, find, replicate, slice_index_or, Option}
use Rattle.std.specs.Option.{option_map}
use Rattle.contact_tallies.specs.declared.heard.Told.{Told}

-- when contact k was last told
abbrev pub heard : List Told → (k : ℕ) → Option ℕ
heard told k = option_map (λ one. one.moment) (find (λ one. one.contact.0 == k) told)

-- the others
abbrev pub without : List Told → (k : ℕ) → List Told
without told k = filter (λ one. not (one.contact.0 == k)) told

-- a contact is told
abbrev pub told_after : List Told → Told → List Told
told_after told one = without told one.contact.0 ++ one ∷ []

-- of the objects' problems: who was told of that of object o
abbrev pub told_of : List (List Told) → (o : ℕ) → List Told
told_of problems o = slice_index_or problems o []

-- nobody was told of any
unfoldable pub no_problems : List (List Told)
no_problems = replicate 65536 []
