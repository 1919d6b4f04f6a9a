-- The entries of a list, of which one is missing or none is.
use Rattle.std.proofs.Common.{◌≡◌, ℕ, Bool, ◌||◌, List, [], ◌∷◌, map, refl, ap}
use Rattle.std.specs.List.{list_any}

-- an entry of what each entry gives
pub any-of_each : (p : List ℕ → Bool) (f : List ℕ → List ℕ) (xs : List (List ℕ)) → list_any (λ x. p (f x)) xs ≡ list_any p (map f xs)
any-of_each p f [] = refl
any-of_each p f (x ∷ xs) = ap (λ (b : Bool). p (f x) || b) (any-of_each p f xs)
