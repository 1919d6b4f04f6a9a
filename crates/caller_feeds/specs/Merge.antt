-- A list that is made of others.
use Rattle.std.specs.Prelude.{◌≡◌, ℕ, ◌<◌, ◌==◌, if◌then◌else◌, List, [], ◌∷◌, length, get_or}

module _ {X : Type 0} where
  -- what stands at the places that are given to list j, in order: `owners` says to which list each place is given
  abbrev pub given : (j : ℕ) → (owners : List ℕ) → List X → List X
  given j [] xs = []
  given j (owner ∷ owners) [] = []
  given j (owner ∷ owners) (x ∷ xs) = if owner == j then x ∷ given j owners xs else given j owners xs

  -- Each place of `whole` can be given to one of the lists, so that what stands at the places given to a list is that list, in
  -- its order.
  pub record Merge (whole : List X) (lists : List (List X)) : Type 0 where
    pub owners : List ℕ
    pub same : length owners ≡ length whole
    pub within : (i : ℕ) → i < length owners → get_or owners i 0 < length lists
    pub each : (j : ℕ) → j < length lists → given j owners whole ≡ get_or lists j []
