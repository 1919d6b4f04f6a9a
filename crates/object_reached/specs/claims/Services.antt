-- The services of each host, and how they are kept (chapter "Object Definitions").
use Rattle.std.specs.Prelude.{◌≡◌, ℕ, List, Some, slice_get}
use Rattle.object_services.specs.claims.Numbers.{Pair}

-- the service at that place is on the host, and has that description
abbrev pub IsServiceOf : List Pair → (service host : ℕ) → (description : List ℕ) → Type 0
IsServiceOf services service host description =
    slice_get services service ≡ Some (host, description)
