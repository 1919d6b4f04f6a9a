-- Names by their numbers, and lists of names (chapter "Object Definitions").
use Rattle.std.specs.Prelude.{◌≡◌, ℕ, ◌<◌, ◌==◌, Bool, true, false, not, ◌&&◌, List, [], ◌∷◌, filter_map, codes, is_none, position, Option, Contains, ◌⊎◌, length}
use Rattle.std.specs.List.{list_any}
use Rattle.std.specs.Str.{bytes_eq}

-- the number of a name: the place of the first that is the same
abbrev pub number_of : List (List ℕ) → List ℕ → Option ℕ
number_of names name = position (bytes_eq name) names

-- ---- lists of names

-- whether a list names all: it is `*` alone
abbrev pub is_all : List (List ℕ) → Bool
is_all (entry ∷ []) = bytes_eq entry (codes "*")
is_all entries = false

-- whether an entry leaves something out: it begins with !
abbrev pub is_exclusion : List ℕ → Bool
is_exclusion [] = false
is_exclusion (b ∷ bs) = b == 33

-- whether none of the names is the entry
abbrev pub lacks : (names : List (List ℕ)) → (entry : List ℕ) → Bool
lacks names entry = is_none (number_of names entry)

-- whether a list has an entry that none of the names is, where * is a name
abbrev pub lacks_any : (names entries : List (List ℕ)) → Bool
lacks_any names entries = list_any (lacks names) entries

-- the same of a list in which * alone is all names
abbrev pub has_unknown : (names entries : List (List ℕ)) → Bool
has_unknown names entries = not (is_all entries) && lacks_any names entries

-- the numbers of the names that a list has
abbrev pub numbers_of : (names entries : List (List ℕ)) → List ℕ
numbers_of names entries = filter_map (number_of names) entries

-- A list names what has one of its names; and all that there are, where it is * alone.
abbrev pub Lists : (names entries : List (List ℕ)) → ℕ → Type 0
Lists names entries number =
    ((is_all entries ≡ true) × (number < length names)) ⊎ Contains (numbers_of names entries) number
