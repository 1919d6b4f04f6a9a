-- What each block has for a directive (chapter "Object Inheritance").
use Rattle.std.specs.Prelude.{◌≡◌, ℕ, ◌≤◌, Bool, not, ◌==◌, ◌||◌, List, [], ◌∷◌, ◌++◌, length, map, unwrap_or, if◌then◌else◌}
use Rattle.std.specs.Option.{option_to_list}
use Rattle.object_reader.specs.declared.block.Block.{Block}
use Rattle.object_reader.specs.claims.Blanks.{is_blank}
use Rattle.object_values.specs.claims.Values.{entries, is_comma}
use Rattle.object_inheritance.specs.claims.Inherited.{own, sources, first_given, given_along, given, is_additive, own_entries, list}

-- whether there is any of the entries
abbrev pub has_any : List (List ℕ) → Bool
has_any found = not (length found == 0)

-- whether the block at the place has an entry for a directive that is a list of names
abbrev pub has_entries : List Block → List ℕ → ℕ → Bool
has_entries blocks directive place = has_any (unwrap_or (list blocks directive place) [])

-- whether a byte is of an entry: no comma, and no blank
abbrev pub is_of_entry : ℕ → Bool
is_of_entry b = not (is_comma b || is_blank b)

-- ---- a list that is added to another

-- the texts that are given beside an additive list, and none beside another
abbrev pub beside : List (List ℕ) → List (List ℕ)
beside [] = []
beside (text ∷ texts) = if is_additive text then texts else []

-- the entries of the nearest text alone
abbrev pub nearest_entries : List (List ℕ) → List (List ℕ)
nearest_entries [] = []
nearest_entries (text ∷ texts) = own_entries text

-- ---- of blocks whose templates have no fault

-- What is given to each block is what it gives itself, followed by what is given to the first of its
-- templates to which anything is given.
abbrev pub AreInherited : List Block → Type 0
AreInherited blocks = (directive : List ℕ) (place : ℕ) → given blocks directive place
    ≡ option_to_list (own blocks directive place)
    ++ first_given (map (given blocks directive) (sources blocks directive place))

-- No line is longer than there are blocks: to go further along it finds nothing more.
abbrev pub AreShort : List Block → Type 0
AreShort blocks = (directive : List ℕ) (place further : ℕ) → length blocks ≤ further
    → given_along further blocks directive place ≡ given blocks directive place
