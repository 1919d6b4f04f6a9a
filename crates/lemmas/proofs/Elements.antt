-- What lists contain, and numbers put in order.
use Rattle.std.proofs.Common.{◌≡◌, ℕ, zero, suc, ◌<◌, Bool, true, false, cond, List, [], ◌∷◌, map, refl, sym, ap, subst, eqb, ◌∙◌, ◌⊎◌, inl, inr, ⊎_elim, arith, Option, Some, None}
use Rattle.std.specs.Prelude.{Contains, filter, is_some, slice_get, ◌↔◌}
use Rattle.std.specs.List.{dedup, flat_map, range_with_len}
use Rattle.std.specs.List.Sorted.{IsPermutation, IsSorted, IsStrictlyIncreasing}
use Rattle.std.specs.Ordering.{nat_cmp}
use Rattle.std.proofs.lemmas.List.FromFn.{get_or-range_with_len, length-range_with_len}
use Rattle.std.proofs.lemmas.List.Kept.{Contains-dedup_nat, Contains-from_dedup}
use Rattle.std.proofs.lemmas.List.Sorted.{Contains-permutation, IsPermutation-sym}
use Rattle.std.proofs.lemmas.Map.Keys.{IsStrictlyIncreasing-dedup}
use Rattle.std.proofs.lemmas.List.Concat.{flat_map-cons}
use Rattle.std.proofs.lemmas.List.Elements.{Contains-append_cases, Contains-append_left, Contains-append_right}
use Rattle.std.proofs.lemmas.Bool.{false≢true}

-- ---- what a list contains

pub Contains-here : {X : Type 0} (x : X) (xs : List X) → Contains (x ∷ xs) x
Contains-here x xs = (0, omega arith, refl)

pub Contains-later : {X : Type 0} (x y : X) (xs : List X) → Contains xs y → Contains (x ∷ xs) y
Contains-later x y xs at = (suc at.0, omega (arith, at.1), at.2)

pub Contains-cases : {X : Type 0} (x y : X) (xs : List X) → Contains (x ∷ xs) y → (x ≡ y) ⊎ Contains xs y
Contains-cases x y xs (zero, within, at) = inl at
Contains-cases x y xs (suc k, within, at) = inr (k, omega arith, at)

pub Contains-none : {X : Type 0} (x : X) → Contains [] x → ⊥
Contains-none x at = omega (arith, at.1)

-- ---- what lists made of others contain

pub Contains-map : {X Y : Type 0} (f : X → Y) (xs : List X) (x : X) → Contains xs x → Contains (map f xs) (f x)
Contains-map f [] x at = absurd (Contains-none x at)
Contains-map f (y ∷ ys) x at = ⊎_elim
    (λ (here : y ≡ x). subst (λ z. Contains (map f (y ∷ ys)) (f z)) here (Contains-here (f y) (map f ys)))
    (λ (later : Contains ys x). Contains-later (f y) (f x) (map f ys) (Contains-map f ys x later))
    (Contains-cases y x ys at)

pub Contains-from_map : {X Y : Type 0} (f : X → Y) (xs : List X) (y : Y) → Contains (map f xs) y → (x : X) × Contains xs x × (f x ≡ y)
Contains-from_map f [] y at = absurd (Contains-none y at)
Contains-from_map f (x ∷ xs) y at = ⊎_elim
    (λ (here : f x ≡ y). (x, Contains-here x xs, here))
    (λ (later : Contains (map f xs) y). let more = Contains-from_map f xs y later in (more.0, Contains-later x more.0 xs more.1, more.2))
    (Contains-cases (f x) y (map f xs) at)

pub Contains-filter : (p : ℕ → Bool) (xs : List ℕ) (k : ℕ) → Contains xs k → p k ≡ true → Contains (filter p xs) k
Contains-filter p [] k at passes = absurd (Contains-none k at)
Contains-filter p (x ∷ xs) k at passes = elim (Contains-cases x k xs at) [
  | inl here ↦ let yes : p x ≡ true = ap p here ∙ passes in rw yes (subst (λ (y : ℕ). Contains (x ∷ filter p xs) y) here (Contains-here x (filter p xs)))
  | inr later ↦ elim (p x) as (λ b. Contains (cond b (x ∷ filter p xs) (filter p xs)) k) [
    | true ↦ Contains-later x k (filter p xs) (Contains-filter p xs k later passes)
    | false ↦ Contains-filter p xs k later passes
  ]
]

pub Contains-from_filter : (p : ℕ → Bool) (xs : List ℕ) (k : ℕ) → Contains (filter p xs) k → Contains xs k × (p k ≡ true)
Contains-from_filter p [] k at = absurd (Contains-none k at)
Contains-from_filter p (x ∷ xs) k at = by_test (p x) refl at (λ later. Contains-from_filter p xs k later)
  where
    by_test : (b : Bool) → p x ≡ b → Contains (cond b (x ∷ filter p xs) (filter p xs)) k → (Contains (filter p xs) k → Contains xs k × (p k ≡ true))
        → Contains (x ∷ xs) k × (p k ≡ true)
    by_test true passes on rest = ⊎_elim
        (λ (here : x ≡ k). (subst (λ y. Contains (x ∷ xs) y) here (Contains-here x xs), ap p (sym here) ∙ passes))
        (λ (later : Contains (filter p xs) k). (Contains-later x k xs (rest later).0, (rest later).1))
        (Contains-cases x k (filter p xs) on)
    by_test false fails on rest = (Contains-later x k xs (rest on).0, (rest on).1)

-- ---- the numbers below a bound

pub Contains-range : (n k : ℕ) → k < n → Contains (range_with_len 0 n) k
Contains-range n k low = (k, (let long = length-range_with_len 0 n in omega (arith, long, low)), (let at = get_or-range_with_len 0 n k k low in omega (arith, at)))

pub Contains-from_range : (n k : ℕ) → Contains (range_with_len 0 n) k → k < n
Contains-from_range n k at =
    let long = length-range_with_len 0 n in
    let low : at.0 < n = omega (arith, long, at.1) in
    let is = get_or-range_with_len 0 n at.0 k low in
    omega (arith, is, at.2, low)

-- ---- numbers in order, each once

module _ (xs ys zs : List ℕ) (moved : IsPermutation xs ys) (sorted : IsSorted nat_cmp ys) (is : zs ≡ dedup eqb ys) where
  pub in_order-rising : IsStrictlyIncreasing zs
  in_order-rising = subst IsStrictlyIncreasing (sym is) (IsStrictlyIncreasing-dedup ys sorted)

  pub in_order-same : (k : ℕ) → Contains zs k ↔ Contains xs k
  in_order-same k = (
    (λ here. Contains-permutation ys xs k (IsPermutation-sym xs ys moved) (Contains-from_dedup eqb ys k (subst (λ set. Contains set k) is here))),
    (λ there. subst (λ set. Contains set k) (sym is) (Contains-dedup_nat ys k (Contains-permutation xs ys k moved there))),
  )

pub Contains-flat_map : {X Y : Type 0} (f : X → List Y) (xs : List X) (x : X) (y : Y) → Contains xs x → Contains (f x) y → Contains (flat_map f xs) y
Contains-flat_map f [] x y at on = absurd (Contains-none x at)
Contains-flat_map f (z ∷ zs) x y at on = rw (flat_map-cons f z zs) (⊎_elim
    (λ (here : z ≡ x). Contains-append_left (f z) (flat_map f zs) y (subst (λ w. Contains (f w) y) (sym here) on))
    (λ (later : Contains zs x). Contains-append_right (f z) (flat_map f zs) y (Contains-flat_map f zs x y later on))
    (Contains-cases z x zs at))

pub Contains-from_flat_map : {X Y : Type 0} (f : X → List Y) (xs : List X) (y : Y) → Contains (flat_map f xs) y → (x : X) × Contains xs x × Contains (f x) y
Contains-from_flat_map f [] y at = absurd (Contains-none y at)
Contains-from_flat_map f (x ∷ xs) y at = ⊎_elim
    (λ (here : Contains (f x) y). (x, Contains-here x xs, here))
    (λ (later : Contains (flat_map f xs) y). let more = Contains-from_flat_map f xs y later in (more.0, Contains-later x more.0 xs more.1, more.2))
    (Contains-append_cases (f x) (flat_map f xs) y (subst (λ ys. Contains ys y) (flat_map-cons f x xs) at))

pub at-Contains : {X : Type 0} (xs : List X) (i : ℕ) (x : X) → slice_get xs i ≡ Some x → Contains xs x
at-Contains [] i x none = absurd (false≢true (ap is_some none))
at-Contains {X} (y ∷ ys) zero x is = subst (λ (z : X). Contains (y ∷ ys) z) (some-same y x is) (Contains-here y ys)
  where
    or_else : Option X → X → X
    or_else None z = z
    or_else (Some w) z = w

    some-same : (v w : X) → Some v ≡ Some w → v ≡ w
    some-same v w same = ap (λ found. or_else found v) same
at-Contains (y ∷ ys) (suc i) x is = Contains-later y x ys (at-Contains ys i x is)
