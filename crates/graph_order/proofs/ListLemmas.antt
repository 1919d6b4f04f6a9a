-- Lists by what stands at each place.
use Rattle.std.proofs.Common.{◌≡◌, ℕ, zero, suc, ◌+◌, ◌-◌, ◌<◌, drop, replicate, take, List, [], ◌∷◌, ◌++◌, length, get_or, set, Some, refl, sym, ap, ◌∙◌, ◌⊎◌, inl, inr, ⊎_elim, arith}
use Rattle.std.specs.Prelude.{Contains, AllPairs, slice_get}
use Rattle.std.proofs.lemmas.Option.{slice_get_within, get_or_from_slice_get, slice_get-get_or}
use Rattle.std.proofs.lemmas.List.{length-drop, take_all, take_more, length-append, get_or_append_left, get_or_push}

pub set_same : {X : Type 0} (xs : List X) (i : ℕ) (x : X) → i < length xs → slice_get (set xs i x) i ≡ Some x
set_same [] i x within = absurd (omega arith)
set_same (y ∷ xs) zero x within = refl
set_same (y ∷ xs) (suc i) x within = set_same xs i x (omega arith)

pub set_other : {X : Type 0} (xs : List X) (i k : ℕ) (x : X) → (k ≡ i → ⊥) → slice_get (set xs i x) k ≡ slice_get xs k
set_other [] i k x other = refl
set_other (y ∷ xs) zero zero x other = absurd (other refl)
set_other (y ∷ xs) zero (suc k) x other = refl
set_other (y ∷ xs) (suc i) zero x other = refl
set_other (y ∷ xs) (suc i) (suc k) x other = set_other xs i k x (λ same. other (ap (λ (n : ℕ). suc n) same))

pub Contains-at : {X : Type 0} (xs : List X) (x : X) → Contains xs x → (k : ℕ) × (slice_get xs k ≡ Some x)
Contains-at {X} xs x at = (at.0, slice_get-get_or xs at.0 x at.1 ∙ ap (λ (y : X). Some y) at.2)

-- two elements at one place are one
pub one_at : {X : Type 0} (xs : List X) (k : ℕ) (x y : X) → slice_get xs k ≡ Some x → slice_get xs k ≡ Some y → x ≡ y
one_at xs k x y first second = sym (get_or_from_slice_get xs k x x first) ∙ get_or_from_slice_get xs k y x second

pub at_left : {X : Type 0} (xs ys : List X) (i : ℕ) (y : X) → slice_get xs i ≡ Some y → slice_get (xs ++ ys) i ≡ Some y
at_left [] ys i y at = cc
at_left (x ∷ xs) ys zero y at = at
at_left (x ∷ xs) ys (suc i) y at = at_left xs ys i y at

pub at_right : {X : Type 0} (xs ys : List X) (j : ℕ) (y : X) → slice_get ys j ≡ Some y → slice_get (xs ++ ys) (length xs + j) ≡ Some y
at_right [] ys j y at = let none : 0 + j ≡ j = omega arith in rw none at
at_right (x ∷ xs) ys j y at = let shift : length (x ∷ xs) + j ≡ suc (length xs + j) = omega arith in rw shift (at_right xs ys j y at)

pub at_cases : {X : Type 0} (xs ys : List X) (i : ℕ) (y : X) → slice_get (xs ++ ys) i ≡ Some y
    → (slice_get xs i ≡ Some y) ⊎ ((j : ℕ) × (i ≡ length xs + j) × (slice_get ys j ≡ Some y))
at_cases [] ys i y at = inr (i, omega arith, at)
at_cases (x ∷ xs) ys zero y at = inl at
at_cases (x ∷ xs) ys (suc i) y at = ⊎_elim
    (λ (left : slice_get xs i ≡ Some y). inl left)
    (λ (right : (j : ℕ) × (i ≡ length xs + j) × (slice_get ys j ≡ Some y)). inr (right.0, omega (arith, right.1), right.2))
    (at_cases xs ys i y at)

pub at_end : {X : Type 0} (xs : List X) (x : X) → slice_get (xs ++ x ∷ []) (length xs) ≡ Some x
at_end [] x = refl
at_end (y ∷ xs) x = at_end xs x

pub at_push_cases : {X : Type 0} (xs : List X) (x : X) (i : ℕ) (y : X) → slice_get (xs ++ x ∷ []) i ≡ Some y
    → (slice_get xs i ≡ Some y) ⊎ ((i ≡ length xs) × (x ≡ y))
at_push_cases [] x zero y at = inr (refl, cc)
at_push_cases [] x (suc i) y at = cc
at_push_cases (z ∷ xs) x zero y at = inl at
at_push_cases (z ∷ xs) x (suc i) y at = ⊎_elim
    (λ (left : slice_get xs i ≡ Some y). inl left)
    (λ (right : (i ≡ length xs) × (x ≡ y)). inr (omega (arith, right.0), right.1))
    (at_push_cases xs x i y at)

-- each element stands before the last one
pub last_after : {X : Type 0} (R : X → X → Type 0) (front : List X) (x k : X) → AllPairs R (front ++ x ∷ []) → Contains front k → R k x
last_after {X} R front x k pairs at =
    let long : length (front ++ x ∷ []) ≡ length front + 1 = length-append front (x ∷ []) in
    let first : get_or (front ++ x ∷ []) at.0 k ≡ k = get_or_append_left front (x ∷ []) k at.0 at.1 ∙ at.2 in
    let last : get_or (front ++ x ∷ []) (length front) k ≡ x = get_or_push front x k (length front) refl in
    rw (first, last) at (pairs at.0 (length front) k at.1 (omega (arith, long)))

pub pairs_front : {X : Type 0} (R : X → X → Type 0) (front back : List X) → AllPairs R (front ++ back) → AllPairs R front
pairs_front {X} R front back pairs i j d before low =
    let long : length (front ++ back) ≡ length front + length back = length-append front back in
    rw (get_or_append_left front back d i (omega arith), get_or_append_left front back d j low) at (pairs i j d before (omega (arith, long)))

-- the last element is taken off
pub last_off : {X : Type 0} (xs ys : List X) (x : X) (count : ℕ) → slice_get xs (length xs - 1) ≡ Some x → count ≡ length xs → ys ≡ take (count - 1) xs → xs ≡ ys ++ x ∷ []
last_off {X} xs ys x count at long rest =
    let low : length xs - 1 < length xs = slice_get_within xs (length xs - 1) x at in
    let all : length xs - 1 + 1 ≡ length xs = omega (arith, low) in
    sym (take_all (length xs) xs (omega arith)) ∙ ap (λ (n : ℕ). take n xs) (sym all) ∙ take_more xs (length xs - 1) x low
    ∙ ap (λ (y : X). take (length xs - 1) xs ++ y ∷ []) (get_or_from_slice_get xs (length xs - 1) x x at)
    ∙ ap (λ (front : List X). front ++ x ∷ []) (sym (rest ∙ ap (λ (n : ℕ). take (n - 1) xs) long))

pub zeros : (count k : ℕ) → get_or (replicate {A = ℕ} count 0) k 0 ≡ 0
zeros zero k = refl
zeros (suc count) zero = refl
zeros (suc count) (suc k) = zeros count k

-- the elements from a place on
pub rest_from : {X : Type 0} (xs now : List X) (place : ℕ) → now ≡ xs → take (length now - place) (drop place now) ≡ drop place xs
rest_from {X} xs now place is =
    take_all (length now - place) (drop place now) (rw length-drop (omega arith)) ∙ ap (λ (all : List X). drop place all) is
