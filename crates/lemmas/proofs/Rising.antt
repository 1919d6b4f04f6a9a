-- Numbers that rise: two such lists of the same numbers are one.
use Rattle.std.proofs.Common.{[], ap, arith, inl, inr, List, refl, sym, ℕ, ⊎_elim, ◌<◌, ◌∙◌, ◌∷◌, ◌≡◌, ◌⊎◌}
use Rattle.std.specs.Prelude.{AllPairs, Contains, ◌↔◌}
use Rattle.std.proofs.lemmas.List.Elements.{All-contains}
use Rattle.lemmas.proofs.Lists.{AllPairs-head, AllPairs-tail}
use Rattle.lemmas.proofs.Elements.{Contains-cases, Contains-here, Contains-later, Contains-none}

abbrev pub Rises : List ℕ → Type 0
Rises xs = AllPairs (λ m n. m < n) xs

pub above : (x : ℕ) (xs : List ℕ) (k : ℕ) → Rises (x ∷ xs) → Contains xs k → x < k
above x xs k rising at = All-contains (λ n. x < n) xs k (AllPairs-head (λ m n. m < n) x xs rising) at

-- two lists of the same numbers that rise are one
pub rising-one : (xs ys : List ℕ) → Rises xs → Rises ys → ((k : ℕ) → Contains xs k ↔ Contains ys k) → xs ≡ ys
rising-one [] [] one other same = refl
rising-one [] (y ∷ ys) one other same = absurd (Contains-none y ((same y).1 (Contains-here y ys)))
rising-one (x ∷ xs) [] one other same = absurd (Contains-none x ((same x).0 (Contains-here x xs)))
rising-one (x ∷ xs) (y ∷ ys) one other same =
    ap (λ (n : ℕ). n ∷ xs) head ∙ ap (λ (ns : List ℕ). y ∷ ns)
    (rising-one xs ys (AllPairs-tail (λ m n. m < n) x xs one) (AllPairs-tail (λ m n. m < n) y ys other) (λ k. (to k, from k)))
  where
    head : x ≡ y
    head = by_both (Contains-cases y x ys ((same x).0 (Contains-here x xs))) (Contains-cases x y xs ((same y).1 (Contains-here y ys)))
      where
        by_both : (y ≡ x) ⊎ Contains ys x → (x ≡ y) ⊎ Contains xs y → x ≡ y
        by_both (inl here) there = sym here
        by_both (inr later) (inl here) = here
        by_both (inr later) (inr further) = let low = above y ys x other later in let high = above x xs y one further in absurd (omega (arith, low, high))

    to : (k : ℕ) → Contains xs k → Contains ys k
    to k at = ⊎_elim
        (λ (here : y ≡ k). let low = above x xs k one at in absurd (omega (arith, low, here, head)))
        (λ (later : Contains ys k). later)
        (Contains-cases y k ys ((same k).0 (Contains-later x k xs at)))

    from : (k : ℕ) → Contains ys k → Contains xs k
    from k at = ⊎_elim
        (λ (here : x ≡ k). let low = above y ys k other at in absurd (omega (arith, low, here, head)))
        (λ (later : Contains xs k). later)
        (Contains-cases x k xs ((same k).1 (Contains-later y k ys at)))
