-- Lists and counts that grow with one element more.
use Rattle.std.proofs.Common.{◌≡◌, ℕ, zero, suc, ◌+◌, ◌<◌, Bool, true, false, cond, List, [], ◌∷◌, ◌++◌, length, map, filter, get_or, take, Option, Some, None, refl, sym, ap, ◌∙◌, append_assoc, append-nil, arith}
use Rattle.std.specs.Prelude.{count_by, find, flat_map, is_some, sum_by}
use Rattle.std.specs.List.{range_with_len}
use Rattle.std.proofs.lemmas.Bool.{false≢true}
use Rattle.std.proofs.lemmas.Grind.{flat_map-append}
use Rattle.std.proofs.lemmas.List.{map-append, take_more}
use Rattle.std.proofs.lemmas.List.Sums.{count_by_more_no, count_by_more_yes, sum_by_more}
use Rattle.lemmas.proofs.Lists.{filter_range_more}

-- one number more that may pass
pub numbers-more : {X : Type 0} (f : ℕ → X) (p : ℕ → Bool) (n : ℕ) (base old new : List X) (flag : Bool) → old ≡ base ++ map f (filter p (range_with_len 0 n))
    → new ≡ old ++ cond flag (f n ∷ []) [] → flag ≡ p n → new ≡ base ++ map f (filter p (range_with_len 0 (n + 1)))
numbers-more f p n base old new flag before more is =
    let so_far = filter p (range_with_len 0 n) in
    more ∙ ap (λ (xs : List _). xs ++ cond flag (f n ∷ []) []) before
    ∙ append_assoc base (map f so_far) (cond flag (f n ∷ []) [])
    ∙ ap (λ (b : Bool). base ++ (map f so_far ++ cond b (f n ∷ []) [])) is
    ∙ ap (λ (xs : List _). base ++ (map f so_far ++ xs)) (one (p n))
    ∙ ap (λ (xs : List _). base ++ xs) (sym (map-append f so_far (cond (p n) (n ∷ []) [])))
    ∙ ap (λ (xs : List ℕ). base ++ map f xs) (sym (filter_range_more p n))
  where
    one : (b : Bool) → cond b (f n ∷ []) [] ≡ map f (cond b (n ∷ []) [])
    one true = refl
    one false = refl

-- one group more
pub groups-more : {X Y : Type 0} (f : X → List Y) (xs : List X) (i : ℕ) (d : X) (base old new : List Y) → i < length xs → old ≡ base ++ flat_map f (take i xs)
    → new ≡ old ++ f (get_or xs i d) → new ≡ base ++ flat_map f (take (i + 1) xs)
groups-more f xs i d base old new within before more =
    more ∙ ap (λ (ys : List _). ys ++ f (get_or xs i d)) before
    ∙ append_assoc base (flat_map f (take i xs)) (f (get_or xs i d))
    ∙ ap (λ (ys : List _). base ++ ys) (group ∙ sym (flat_map-append f (take i xs) (get_or xs i d ∷ [])) ∙ ap (flat_map f) (sym (take_more xs i d within)))
  where
    group : flat_map f (take i xs) ++ f (get_or xs i d) ≡ flat_map f (take i xs) ++ flat_map f (get_or xs i d ∷ [])
    group = ap (λ (ys : List _). flat_map f (take i xs) ++ ys) (sym (append-nil (f (get_or xs i d))))

-- one term more
pub sum-more : {X : Type 0} (f : X → ℕ) (xs : List X) (i : ℕ) (d : X) (base old new : ℕ) → i < length xs → old ≡ base + sum_by f (take i xs) → new ≡ old + f (get_or xs i d)
    → new ≡ base + sum_by f (take (i + 1) xs)
sum-more f xs i d base old new within before more = let step = sum_by_more f xs i d within in omega (arith, before, more, step)

-- one more that may count
pub count-more : {X : Type 0} (p : X → Bool) (xs : List X) (i : ℕ) (d : X) (base old new : ℕ) → i < length xs → old ≡ base + count_by p (take i xs)
    → new ≡ old + cond (p (get_or xs i d)) 1 0 → new ≡ base + count_by p (take (i + 1) xs)
count-more p xs i d base old new within before more = by_test (p (get_or xs i d)) refl more
  where
    by_test : (b : Bool) → p (get_or xs i d) ≡ b → new ≡ old + cond b 1 0 → new ≡ base + count_by p (take (i + 1) xs)
    by_test true passes step = let one = count_by_more_yes p xs i d within passes in omega (arith, before, step, one)
    by_test false fails step = let same = count_by_more_no p xs i d within fails in omega (arith, before, step, same)

-- what was found stands among them
pub found-some : {X : Type 0} (p : X → Bool) (xs : List X) → is_some (find p xs) ≡ true → 0 < length xs
found-some p [] none = absurd (false≢true none)
found-some p (x ∷ xs) some = omega arith
