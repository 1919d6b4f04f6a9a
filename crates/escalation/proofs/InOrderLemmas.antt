-- Contacts that were sorted and freed of doubles, or that stand so already, as the numbers below a count that are among them.
use Rattle.std.proofs.Common.{◌≡◌, ℕ, ◌+◌, ◌<◌, ◌≤◌, Bool, true, false, cond, eqb, ltb, List, [], ◌∷◌, ◌++◌, length, map, get_or, Result, Ok, Err, OnOk, is_ok, refl, sym, ap, subst, ◌∙◌, inl, inr, arith}
use Rattle.std.specs.Prelude.{◌↔◌, All, AllPairs, Contains, IsTrue, filter}
use Rattle.std.specs.List.{AllAdjacentBelow, IsAllAdjacentAnswer, dedup, dedup_from, range_with_len}
use Rattle.std.specs.List.Sorted.{IsNonDecreasingBy, IsPermutation, IsSorted}
use Rattle.std.specs.Ordering.{nat_cmp, is_lt}
use Rattle.std.proofs.lemmas.Bool.Decides.{nat_tests}
use Rattle.std.proofs.lemmas.Bool.{cases_eq, eq-eqb, false≢true, ltb-false, ltb-true, ne_eqb, or_right}
use Rattle.std.proofs.lemmas.List.{get_or-map, length-map}
use Rattle.std.proofs.lemmas.List.Elements.{All-contains, All-map}
use Rattle.std.proofs.lemmas.List.Kept.{AllPairs-filter, AllPairs-from_increasing, Contains-dedup_nat, Contains-from_dedup}
use Rattle.std.proofs.lemmas.List.Sorted.{Contains-permutation, IsNonDecreasingBy-from_all_adjacent, IsPermutation-map, IsPermutation-sym}
use Rattle.std.proofs.lemmas.Map.Keys.{IsStrictlyIncreasing-dedup}
use Rattle.lemmas.proofs.Elements.{Contains-cases, Contains-filter, Contains-from_filter, Contains-here, Contains-later, Contains-none, Contains-range}
use Rattle.lemmas.proofs.Lists.{AllPairs-head, AllPairs-tail, range_increases}
use Rattle.due_model.specs.declared.config.ContactId.{ContactId}
use Rattle.due_model.specs.claims.Escalations.{has_contact}
use Rattle.escalation.specs.Named.{contact_ids}

-- ---- rising numbers are determined by which they are

above : (x k : ℕ) (xs : List ℕ) → AllPairs (λ x y. x < y) (x ∷ xs) → Contains xs k → x < k
above x k xs rising at = All-contains (λ y. x < y) xs k (AllPairs-head (λ x y. x < y) x xs rising) at

-- the first of the one is not above that of the other
first_low : (x y : ℕ) (xs ys : List ℕ) → AllPairs (λ x y. x < y) (y ∷ ys) → Contains (y ∷ ys) x → y ≤ x
first_low x y xs ys rising at = elim (Contains-cases y x ys at) [
  | inl same ↦ omega (arith, same)
  | inr later ↦ omega (arith, above y x ys rising later)
]

-- what is in the rest of the one is in the rest of the other
rest_in : (x y : ℕ) (xs ys : List ℕ) → x ≡ y → AllPairs (λ x y. x < y) (x ∷ xs) → ((k : ℕ) → Contains (x ∷ xs) k → Contains (y ∷ ys) k)
    → (k : ℕ) → Contains xs k → Contains ys k
rest_in x y xs ys same rising to k at = elim (Contains-cases y k ys (to k (Contains-later x k xs at))) [
  | inl here ↦ absurd (omega (arith, above x k xs rising at, same, here))
  | inr later ↦ later
]

pub same_rising : (xs ys : List ℕ) → AllPairs (λ x y. x < y) xs → AllPairs (λ x y. x < y) ys
    → ((k : ℕ) → Contains xs k → Contains ys k) → ((k : ℕ) → Contains ys k → Contains xs k) → xs ≡ ys
same_rising [] [] rising rising' to from = refl
same_rising [] (y ∷ ys) rising rising' to from = absurd (Contains-none y (from y (Contains-here y ys)))
same_rising (x ∷ xs) [] rising rising' to from = absurd (Contains-none x (to x (Contains-here x xs)))
same_rising (x ∷ xs) (y ∷ ys) rising rising' to from =
    let low : y ≤ x = first_low x y xs ys rising' (to x (Contains-here x xs)) in
    let high : x ≤ y = first_low y x ys xs rising (from y (Contains-here y ys)) in
    let same : x ≡ y = omega arith in
    let rest : xs ≡ ys = same_rising xs ys (AllPairs-tail (λ x y. x < y) x xs rising) (AllPairs-tail (λ x y. x < y) y ys rising')
    (rest_in x y xs ys same rising to) (rest_in y x ys xs (sym same) rising' from) in
    ap (λ (z : ℕ). z ∷ xs) same ∙ ap (λ (zs : List ℕ). y ∷ zs) rest

-- ---- contacts by their numbers

abbrev pub number : ContactId → ℕ
number contact = contact.0

pub ids_numbers : (contacts : List ContactId) → contacts ≡ contact_ids (map number contacts)
ids_numbers [] = refl
ids_numbers (k ∷ ks) = ap (λ (rest : List ContactId). k ∷ rest) (ids_numbers ks)

has-Contains : (contacts : List ContactId) (k : ℕ) → has_contact contacts k ≡ true → Contains (map number contacts) k
has-Contains [] k has = cc
has-Contains (x ∷ xs) k has = elim (cases_eq x.0 k) [
  | inl same ↦ subst (λ (y : ℕ). Contains (x.0 ∷ map number xs) y) same (Contains-here x.0 (map number xs))
  | inr other ↦
      let no : eqb x.0 k ≡ false = ne_eqb x.0 k other in
      Contains-later x.0 k (map number xs) (has-Contains xs k (rw no at has))
]

Contains-has : (contacts : List ContactId) (k : ℕ) → Contains (map number contacts) k → has_contact contacts k ≡ true
Contains-has [] k at = absurd (Contains-none k at)
Contains-has (x ∷ xs) k at = elim (Contains-cases x.0 k (map number xs) at) [
  | inl same ↦ let yes : eqb x.0 k ≡ true = eq-eqb x.0 k same in rw yes refl
  | inr later ↦ or_right (eqb x.0 k) (has_contact xs k) (Contains-has xs k later)
]

-- ---- sorted, and freed of doubles

dedup_from_numbers : (E : ContactId → ContactId → Bool) → ((a b : ContactId) → E a b ≡ eqb a.0 b.0) → (k : ContactId) (xs : List ContactId)
    → map number (dedup_from E k xs) ≡ dedup_from eqb k.0 (map number xs)
dedup_from_numbers E ties k [] = refl
dedup_from_numbers E ties k (x ∷ xs) =
    rw (ties x k) (elim (eqb x.0 k.0) as (λ b. map number (cond b (dedup_from E k xs) (k ∷ dedup_from E x xs)) ≡ cond b (dedup_from eqb k.0 (map number xs)) (k.0 ∷ dedup_from eqb x.0 (map number xs))) [
      | true ↦ dedup_from_numbers E ties k xs
      | false ↦ ap (λ (rest : List ℕ). k.0 ∷ rest) (dedup_from_numbers E ties x xs)
    ])

dedup_numbers : (E : ContactId → ContactId → Bool) → ((a b : ContactId) → E a b ≡ eqb a.0 b.0) → (xs : List ContactId)
    → map number (dedup E xs) ≡ dedup eqb (map number xs)
dedup_numbers E ties [] = refl
dedup_numbers E ties (x ∷ xs) = dedup_from_numbers E ties x xs

not_lower : (a b : ℕ) → b ≤ a → is_lt (nat_cmp a b) ≡ false
not_lower a b low = grind (arith, nat_tests)

sorted_numbers : (xs : List ContactId) → IsNonDecreasingBy number xs → IsSorted nat_cmp (map number xs)
sorted_numbers xs rising = λ k d low high.
    let long : length (map number xs) ≡ length xs = length-map xs number in
    let e : ContactId = record { 0 = d } in
    rw (get_or-map number xs (k + 1) e d (omega (arith, long, high)), get_or-map number xs k e d (omega (arith, long, high)))
    (not_lower (get_or xs (k + 1) e).0 (get_or xs k e).0 (rising k (k + 1) e (omega arith) (omega (arith, long, high))))

-- rising numbers that are those of the contacts are the numbers below the count that are among the contacts
among_them : (xs : List ContactId) (ms : List ℕ) → AllPairs (λ x y. x < y) ms
    → ((k : ℕ) → Contains ms k → Contains (map number xs) k) → ((k : ℕ) → Contains (map number xs) k → Contains ms k)
    → (count : ℕ) → All (λ contact. contact.0 < count) xs → ms ≡ filter (has_contact xs) (range_with_len 0 count)
among_them xs ms rising to from count few =
    let ns : List ℕ = map number xs in
    let below : All (λ k. k < count) ns = All-map (λ k. k < count) number xs few in
    same_rising ms (filter (has_contact xs) (range_with_len 0 count)) rising
    (AllPairs-filter (λ x y. x < y) (has_contact xs) (range_with_len 0 count) (range_increases 0 count))
    (λ k at.
    let among : Contains ns k = to k at in
    Contains-filter (has_contact xs) (range_with_len 0 count) k (Contains-range count k (All-contains (λ k. k < count) ns k below among)) (Contains-has xs k among))
    (λ k at. from k (has-Contains xs k ((Contains-from_filter (has_contact xs) (range_with_len 0 count) k at).1)))

-- the numbers below the count that are among the contacts
pub in_order : (E : ContactId → ContactId → Bool) → ((a b : ContactId) → E a b ≡ eqb a.0 b.0) → (xs ys zs : List ContactId)
    → IsPermutation xs ys → IsNonDecreasingBy number ys → zs ≡ dedup E ys
    → (count : ℕ) → All (λ contact. contact.0 < count) xs → zs ≡ contact_ids (filter (has_contact xs) (range_with_len 0 count))
in_order E ties xs ys zs moved rising is count few =
    let ns : List ℕ = map number xs in
    let ms : List ℕ = map number ys in
    let moves : IsPermutation ns ms = IsPermutation-map number xs ys moved in
    let same : dedup eqb ms ≡ filter (has_contact xs) (range_with_len 0 count) =
    among_them xs (dedup eqb ms) (AllPairs-from_increasing (dedup eqb ms) (IsStrictlyIncreasing-dedup ms (sorted_numbers ys rising)))
    (λ k at. Contains-permutation ms ns k (IsPermutation-sym ns ms moves) (Contains-from_dedup eqb ms k at))
    (λ k at. Contains-dedup_nat ms k (Contains-permutation ns ms k moves at))
    count few in
    ids_numbers zs ∙ ap contact_ids (ap (map number) is ∙ dedup_numbers E ties ys ∙ same)

-- ---- contacts that stand in order as they are

-- each number is below that of each later contact
abbrev pub AreRising : List ContactId → Type 0
AreRising xs = AllPairs (λ a b. a.0 < b.0) xs

rising_numbers : (xs : List ContactId) → AreRising xs → AllPairs (λ x y. x < y) (map number xs)
rising_numbers xs rising = λ i j d before within.
    let long : length (map number xs) ≡ length xs = length-map xs number in
    let e : ContactId = record { 0 = d } in
    rw (get_or-map number xs i e d (omega (arith, long, before, within)), get_or-map number xs j e d (omega (arith, long, within)))
    (rising i j e before (omega (arith, long, within)))

pub already_in_order : (xs : List ContactId) → AreRising xs
    → (count : ℕ) → All (λ contact. contact.0 < count) xs → xs ≡ contact_ids (filter (has_contact xs) (range_with_len 0 count))
already_in_order xs rising count few =
    ids_numbers xs ∙ ap contact_ids (among_them xs (map number xs) (rising_numbers xs rising) (λ k at. at) (λ k at. at) count few)

-- from neighbours to each later contact
neighbours_rise : (xs : List ContactId) → AllAdjacentBelow (λ a b. a.0 < b.0) xs (length xs) → AreRising xs
neighbours_rise xs next = λ i j d before within.
    let low : number (get_or xs i d) < number (get_or xs (i + 1) d) = next i d (omega (arith, before, within)) in
    let far : number (get_or xs (i + 1) d) ≤ number (get_or xs j d) =
    IsNonDecreasingBy-from_all_adjacent number xs (λ k d within. let less : number (get_or xs k d) < number (get_or xs (k + 1) d) = next k d within in omega (arith, less)) (i + 1) j d (omega (arith, before)) within in
    omega (arith, low, far)

-- what a scan of neighbours tells
pub rising_is : (xs : List ContactId) (r : Bool) → IsAllAdjacentAnswer (λ a b r. r ≡ ltb a.0 b.0) xs r → IsTrue r ↔ AreRising xs
rising_is xs true answer = (λ yes. neighbours_rise xs (λ k d within. ltb-true (get_or xs k d).0 (get_or xs (k + 1) d).0 (sym (answer k d within))), λ rising. refl)
rising_is xs false answer =
    let k : ℕ = answer.0 in
    let e : ContactId = record { 0 = 0 } in (
      λ no. absurd (false≢true no),
      λ rising.
          let less : (get_or xs k e).0 < (get_or xs (k + 1) e).0 = rising k (k + 1) e (omega arith) answer.1 in
          let other : (get_or xs (k + 1) e).0 ≤ (get_or xs k e).0 = ltb-false (get_or xs k e).0 (get_or xs (k + 1) e).0 (sym (answer.2 e)) in
          absurd (omega (arith, less, other)),
    )

-- what is appended where there was room
pub appended : {I T E X : Type 0} (r : Result T E) (P : I → Type 0) (f : I → List X) (new old more : List X)
    → new ≡ cond (is_ok r) (old ++ more) old → ((i : I) → P i → more ≡ f i) → OnOk r ((i : I) → P i → new ≡ old ++ f i)
appended {X} (Ok x) P f new old more is same = λ i p. is ∙ ap (λ (rest : List X). old ++ rest) (same i p)
appended (Err e) P f new old more is same = tt
