-- Two logs as one.
use Rattle.std.proofs.Common.{◌≡◌, ℕ, suc, ◌+◌, ◌<◌, All, slice_index_or, Bool, true, false, true≢false, if◌then◌else◌, List, [], ◌∷◌, ◌++◌, filter, length, refl, sym, ap, ◌∙◌, append_assoc, append-nil, ◌⊎◌, inl, inr, ◌≤◌, arith, nat_lt}
use Rattle.std.proofs.lemmas.Bool.Decides.{nat_tests}
use mathlib.Core.List.{cons-ne-nil}
use Rattle.std.proofs.lemmas.List.Elements.{All-nil, All-cons}
use Rattle.std.proofs.lemmas.List.Kept.{AllPairs-cons}
use Rattle.due_model.specs.declared.notice.Suppression.{Suppression}
use Rattle.engine_threads.specs.Merge.{HasBoth, merge_into, merged}
use Rattle.decider_thread.specs.claims.Order.{IsInOrder, place}
use Rattle.decider_thread.specs.Order.{stands_before}

pub none_second : (xs : List Suppression) → merged xs [] ≡ xs
none_second [] = refl
none_second (x ∷ xs) = ap (λ (r : List Suppression). x ∷ r) (none_second xs)

-- ---- one line more

pub takes_second : (first second all : List Suppression) (x y : Suppression) (xs ys : List Suppression) (whole : List Suppression) → first ≡ x ∷ xs → second ≡ y ∷ ys → stands_before y x ≡ true
    → all ++ merged first second ≡ whole → (all ++ y ∷ []) ++ merged first ys ≡ whole
takes_second first second all x y xs ys whole a b test e =
    append_assoc all (y ∷ []) (merged first ys)
    ∙ ap (λ (r : List Suppression). all ++ y ∷ merged r ys) a
    ∙ ap (λ (t : Bool). all ++ (if t then y ∷ merge_into x (merged xs) ys else x ∷ merged xs (y ∷ ys))) (sym test)
    ∙ ap (λ (r : List Suppression). all ++ merged (x ∷ xs) r) (sym b)
    ∙ ap (λ (r : List Suppression). all ++ merged r second) (sym a)
    ∙ e

pub takes_first : (first second all : List Suppression) (x y : Suppression) (xs ys : List Suppression) (whole : List Suppression) → first ≡ x ∷ xs → second ≡ y ∷ ys → stands_before y x ≡ false
    → all ++ merged first second ≡ whole → (all ++ x ∷ []) ++ merged xs second ≡ whole
takes_first first second all x y xs ys whole a b test e =
    append_assoc all (x ∷ []) (merged xs second)
    ∙ ap (λ (r : List Suppression). all ++ x ∷ merged xs r) b
    ∙ ap (λ (t : Bool). all ++ (if t then y ∷ merge_into x (merged xs) ys else x ∷ merged xs (y ∷ ys))) (sym test)
    ∙ ap (λ (r : List Suppression). all ++ merged (x ∷ xs) r) (sym b)
    ∙ ap (λ (r : List Suppression). all ++ merged r second) (sym a)
    ∙ e

-- ---- the lines that a test keeps, where it keeps none of the one log

keep_one : (b c : Bool) (y : Suppression) (s t : List Suppression) → c ≡ false → s ≡ t → (if b then (if c then y ∷ s else s) else s) ≡ t
keep_one true true y s t e same = absurd (true≢false e)
keep_one true false y s t e same = same
keep_one false c y s t e same = same

pub rest_is : (xs ys : List Suppression) → (xs ≡ []) ⊎ (ys ≡ []) → merged xs ys ≡ xs ++ ys
rest_is xs ys (inl e) = ap (λ (r : List Suppression). merged r ys) e ∙ ap (λ (r : List Suppression). r ++ ys) (sym e)
rest_is xs ys (inr e) = ap (merged xs) e ∙ none_second xs ∙ sym (append-nil xs) ∙ ap (λ (r : List Suppression). xs ++ r) (sym e)

-- ---- what a test keeps

module _ (p : Suppression → Bool) where
  by_test : (b c : Bool) (x y : Suppression) (rest : List Suppression → List Suppression) (ys kept : List Suppression) → p y ≡ c → (filter p ys ≡ [] → filter p (merge_into x rest ys) ≡ kept)
      → (filter p (y ∷ ys) ≡ [] → filter p (x ∷ rest (y ∷ ys)) ≡ kept) → (if c then y ∷ filter p ys else filter p ys) ≡ []
      → filter p (if b then y ∷ merge_into x rest ys else x ∷ rest (y ∷ ys)) ≡ kept
  by_test true true x y rest ys kept e later now n = absurd (cons-ne-nil y (filter p ys) n)
  by_test true false x y rest ys kept e later now n = ap (λ (t : Bool). if t then y ∷ filter p (merge_into x rest ys) else filter p (merge_into x rest ys)) e ∙ later n
  by_test false true x y rest ys kept e later now n = absurd (cons-ne-nil y (filter p ys) n)
  by_test false false x y rest ys kept e later now n = now (ap (λ (t : Bool). if t then y ∷ filter p ys else filter p ys) e ∙ n)

  keeps_into : (x : Suppression) (rest : List Suppression → List Suppression) (kept : List Suppression) → ((ys : List Suppression) → filter p ys ≡ [] → filter p (x ∷ rest ys) ≡ kept)
      → (ys : List Suppression) → filter p ys ≡ [] → filter p (merge_into x rest ys) ≡ kept
  keeps_into x rest kept each [] none = each [] none
  keeps_into x rest kept each (y ∷ ys) none = by_test (stands_before y x) (p y) x y rest ys kept refl (keeps_into x rest kept each ys) (each (y ∷ ys)) none

  -- it keeps the lines of the first log, where it keeps none of the second
  pub keeps_first : (xs ys : List Suppression) → filter p ys ≡ [] → filter p (merged xs ys) ≡ filter p xs
  keeps_first [] ys none = none
  keeps_first (x ∷ xs) ys none = keeps_into x (merged xs) (filter p (x ∷ xs)) (λ zs n. ap (λ (r : List Suppression). if p x then x ∷ r else r) (keeps_first xs zs n)) ys none

  -- and the lines of the second, where it keeps none of the first
  second_into : (x : Suppression) (rest : List Suppression → List Suppression) → p x ≡ false → ((ys : List Suppression) → filter p (rest ys) ≡ filter p ys) → (ys : List Suppression) → filter p (merge_into x rest ys) ≡ filter p ys
  second_into x rest off each [] = ap (λ (t : Bool). if t then x ∷ filter p (rest []) else filter p (rest [])) off ∙ each []
  second_into x rest off each (y ∷ ys) = second_by (stands_before y x) x y rest ys off (second_into x rest off each ys) (each (y ∷ ys))
    where
      second_by : (b : Bool) (x y : Suppression) (rest : List Suppression → List Suppression) (ys : List Suppression) → p x ≡ false → filter p (merge_into x rest ys) ≡ filter p ys → filter p (rest (y ∷ ys)) ≡ filter p (y ∷ ys)
          → filter p (if b then y ∷ merge_into x rest ys else x ∷ rest (y ∷ ys)) ≡ filter p (y ∷ ys)
      second_by true x y rest ys off later now = ap (λ r. if p y then y ∷ r else r) later
      second_by false x y rest ys off later now = ap (λ (t : Bool). if t then x ∷ filter p (rest (y ∷ ys)) else filter p (rest (y ∷ ys))) off ∙ now

  first_none : (b : Bool) (x : Suppression) (xs : List Suppression) → (if b then x ∷ filter p xs else filter p xs) ≡ [] → (b ≡ false) × (filter p xs ≡ [])
  first_none true x xs e = absurd (cons-ne-nil x (filter p xs) e)
  first_none false x xs e = (refl, e)

  pub keeps_second : (xs ys : List Suppression) → filter p xs ≡ [] → filter p (merged xs ys) ≡ filter p ys
  keeps_second [] ys none = refl
  keeps_second (x ∷ xs) ys none = let n = first_none (p x) x xs none in second_into x (merged xs) n.0 (λ zs. keeps_second xs zs n.1) ys

-- ---- order

-- none of these stands before this place
abbrev AreFrom : ℕ → List Suppression → Type 0
AreFrom k [] = Unit {0}
AreFrom k (y ∷ ys) = (k ≤ place y) × AreFrom k ys

-- no line stands before an earlier one
abbrev IsOrdered : List Suppression → Type 0
IsOrdered [] = Unit {0}
IsOrdered (x ∷ xs) = AreFrom (place x) xs × IsOrdered xs

from_weaker : (j k : ℕ) → j ≤ k → (xs : List Suppression) → AreFrom k xs → AreFrom j xs
from_weaker j k le [] from = tt
from_weaker j k le (x ∷ xs) from = (omega (arith, le, from.0), from_weaker j k le xs from.1)

from_if : (k : ℕ) (b : Bool) (xs ys : List Suppression) → AreFrom k xs → AreFrom k ys → AreFrom k (if b then xs else ys)
from_if k true xs ys a b = a
from_if k false xs ys a b = b

from_into : (k : ℕ) (x : Suppression) (rest : List Suppression → List Suppression) → k ≤ place x → ((ys : List Suppression) → AreFrom k ys → AreFrom k (rest ys)) → (ys : List Suppression) → AreFrom k ys → AreFrom k (merge_into x rest ys)
from_into k x rest le each [] from = (le, each [] tt)
from_into k x rest le each (y ∷ ys) from = from_if k (stands_before y x) (y ∷ merge_into x rest ys) (x ∷ rest (y ∷ ys)) (from.0, from_into k x rest le each ys from.1) (le, each (y ∷ ys) from)

from_merged : (k : ℕ) (xs ys : List Suppression) → AreFrom k xs → AreFrom k ys → AreFrom k (merged xs ys)
from_merged k [] ys a b = b
from_merged k (x ∷ xs) ys a b = from_into k x (merged xs) a.0 (λ zs from. from_merged k xs zs a.1 from) ys b

ordered_if : (b : Bool) (xs ys : List Suppression) → (b ≡ true → IsOrdered xs) → (b ≡ false → IsOrdered ys) → IsOrdered (if b then xs else ys)
ordered_if true xs ys a b = a refl
ordered_if false xs ys a b = b refl

is_before : (a b : ℕ) → nat_lt a b ≡ true → a < b
is_before a b test = grind (arith, nat_tests)

not_before : (a b : ℕ) → nat_lt a b ≡ false → b ≤ a
not_before a b test = grind (arith, nat_tests)

ordered_into : (x : Suppression) (xs : List Suppression) → AreFrom (place x) xs → ((ys : List Suppression) → IsOrdered ys → IsOrdered (merged xs ys)) → (ys : List Suppression) → IsOrdered ys → IsOrdered (merge_into x (merged xs) ys)
ordered_into x xs from each [] ordered = (from_merged (place x) xs [] from tt, each [] tt)
ordered_into x xs from each (y ∷ ys) ordered = ordered_if (stands_before y x) (y ∷ merge_into x (merged xs) ys) (x ∷ merged xs (y ∷ ys))
    (λ test.
    let lt = is_before (place y) (place x) test in
    (from_into (place y) x (merged xs) (omega (arith, lt)) (λ zs f. from_merged (place y) xs zs (from_weaker (place y) (place x) (omega (arith, lt)) xs from) f) ys ordered.0, ordered_into x xs from each ys ordered.1))
    (λ test.
    let le = not_before (place y) (place x) test in
    (from_merged (place x) xs (y ∷ ys) from (le, from_weaker (place x) (place y) le ys ordered.0), each (y ∷ ys) ordered))

pub merged_ordered : (xs ys : List Suppression) → IsOrdered xs → IsOrdered ys → IsOrdered (merged xs ys)
merged_ordered [] ys a b = b
merged_ordered (x ∷ xs) ys a b = ordered_into x xs a.0 (λ zs o. merged_ordered xs zs a.1 o) ys b

-- ---- the order as pairs

are_from : (k : ℕ) (xs : List Suppression) → ((j : ℕ) (d : Suppression) → j < length xs → k ≤ place (slice_index_or xs j d)) → AreFrom k xs
are_from k [] each = tt
are_from k (y ∷ ys) each = (each 0 y (omega arith), are_from k ys (λ j d low. each (suc j) d (omega (arith, low))))

is_ordered : (xs : List Suppression) → IsInOrder xs → IsOrdered xs
is_ordered [] pairs = tt
is_ordered (x ∷ xs) pairs = (
  are_from (place x) xs (λ j d low. pairs 0 (suc j) d (omega arith) (omega (arith, low))),
  is_ordered xs (λ i j d less low. pairs (suc i) (suc j) d (omega (arith, less)) (omega (arith, low))),
)

all_from : (k : ℕ) (xs : List Suppression) → AreFrom k xs → All (λ b. k ≤ place b) xs
all_from k [] from = All-nil (λ b. k ≤ place b)
all_from k (x ∷ xs) from = All-cons (λ b. k ≤ place b) x xs from.0 (all_from k xs from.1)

is_in_order : (xs : List Suppression) → IsOrdered xs → IsInOrder xs
is_in_order [] ordered = λ i j d less low. absurd (omega (arith, low))
is_in_order (x ∷ xs) ordered = AllPairs-cons (λ a b. place a ≤ place b) x xs (all_from (place x) xs ordered.0) (is_in_order xs ordered.1)

-- two logs in order are one in order
pub merged_in_order : (xs ys : List Suppression) → IsInOrder xs → IsInOrder ys → IsInOrder (merged xs ys)
merged_in_order xs ys a b = is_in_order (merged xs ys) (merged_ordered xs ys (is_ordered xs a) (is_ordered ys b))

-- ---- how many

length_if : (b : Bool) (xs ys : List Suppression) (n : ℕ) → length xs ≡ n → length ys ≡ n → length (if b then xs else ys) ≡ n
length_if true xs ys n first second = first
length_if false xs ys n first second = second

length_into : (x : Suppression) (rest : List Suppression → List Suppression) (n : ℕ) → ((ys : List Suppression) → length (rest ys) ≡ n + length ys) → (ys : List Suppression) → length (merge_into x rest ys) ≡ suc n + length ys
length_into x rest n each [] = let e = each [] in omega (arith, e)
length_into x rest n each (y ∷ ys) =
    let later = length_into x rest n each ys in
    let now = each (y ∷ ys) in
    length_if (stands_before y x) (y ∷ merge_into x rest ys) (x ∷ rest (y ∷ ys)) (suc n + length (y ∷ ys)) (omega (arith, later)) (omega (arith, now))

length_merged : (xs ys : List Suppression) → length (merged xs ys) ≡ length xs + length ys
length_merged [] ys = omega arith
length_merged (x ∷ xs) ys = length_into x (merged xs) (length xs) (length_merged xs) ys

pub merged_has_both : (xs ys : List Suppression) → HasBoth xs ys (merged xs ys)
merged_has_both xs ys = record {
  of_first = λ keeps none. keeps_first keeps xs ys none;
  of_second = λ keeps none. keeps_second keeps xs ys none;
  count = length_merged xs ys;
}
