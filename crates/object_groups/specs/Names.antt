-- Names by their numbers, and lists of names (chapter "Object Definitions").
use Rattle.std.specs.Prelude.{◌≡◌, ℕ, Bool, false, nat_lt, List, [], slice_index_or}
use Rattle.std.proofs.Common.{Bor}
use Rattle.std.specs.Map.{lookup}
use Rattle.std.specs.Option.{option_map_or}
use Rattle.std.specs.Str.{bytes_eq}
use Rattle.object_groups.specs.claims.Names.{number_of}

-- whether the name of that number stands before it too
abbrev pub is_doubled : List (List ℕ) → ℕ → Bool
is_doubled names number = option_map_or (λ first. nat_lt first number)
    (number_of names (slice_index_or names number [])) false

-- ---- how names are kept

-- whether two borrowed names are the same
abbrev pub name_eq : Bor (List ℕ) → Bor (List ℕ) → Bool
name_eq a b = bytes_eq a.now b.now

-- the entries say which number each name has
abbrev pub HasNumbers : List (List ℕ) → List (Bor (List ℕ) × ℕ) → Type 0
HasNumbers names entries =
    (name : Bor (List ℕ)) → lookup (name_eq name) entries ≡ number_of names name.now
