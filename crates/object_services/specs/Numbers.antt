-- Services by their hosts and descriptions (chapter "Object Definitions").
use Rattle.std.specs.Prelude.{◌≡◌, ℕ, Bool, ◌&&◌, ◌==◌, List, map}
use Rattle.std.proofs.Common.{Bor}
use Rattle.std.specs.Map.{lookup}
use Rattle.std.specs.Str.{bytes_eq}
use Rattle.object_services.specs.claims.Numbers.{Pair, service_number}

-- ---- how they are kept

abbrev pub Key : Type 0
Key = ℕ × Bor (List ℕ)

abbrev pub key_eq : Key → Key → Bool
key_eq a b = a.0 == b.0 && bytes_eq a.1.now b.1.now

-- what borrowed pairs are
abbrev pub pairs_in : List Key → List Pair
pairs_in keys = map (λ key. (key.0, key.1.now)) keys

-- the entries say which place each pair has
abbrev pub HasPlaces : List Pair → List (Key × ℕ) → Type 0
HasPlaces pairs entries =
    (key : Key) → lookup (key_eq key) entries ≡ service_number pairs key.0 key.1.now
