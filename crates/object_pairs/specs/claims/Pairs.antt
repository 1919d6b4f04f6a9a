-- Entries of a list, two by two.
use Rattle.std.specs.Prelude.{ℕ, List, [], ◌∷◌, Option, Some, None}
use Rattle.std.specs.Option.{option_map}

-- a host and a service, as they are named
abbrev pub NamedPair : Type 0
NamedPair = List ℕ × List ℕ

-- The entries two by two; none where one is left over.
abbrev pub by_two : List (List ℕ) → Option (List NamedPair)
by_two [] = Some []
by_two (entry ∷ []) = None
by_two (host ∷ service ∷ entries) = option_map (λ pairs. (host, service) ∷ pairs) (by_two entries)
