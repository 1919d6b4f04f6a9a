-- Faults row by row and block by block.
use Rattle.std.proofs.Common.{◌≡◌, ℕ, ◌+◌, ◌<◌, Bool, true, false, cond, List, [], ◌∷◌, ◌++◌, append_assoc, length, map, filter, get_or, refl, sym, ap, ap₂, ◌∙◌}
use Rattle.std.specs.List.{flat_map, range_with_len}
use Rattle.std.proofs.lemmas.List.{get_or-map, map-append}
use Rattle.lemmas.proofs.Lists.{filter_range_more}
use Rattle.lemmas.proofs.Numbers.{below_more}
use Rattle.std.proofs.lemmas.Grind.{flat_map-append}
use Rattle.std.proofs.lemmas.List.{append-nil}
use Rattle.object_check.specs.Misfits.{is_marked, is_marked_in, misfits_at, misfits_in}
use Rattle.object_check.specs.declared.misfits.Misfit.{Misfit}

abbrev misfit : ℕ → ℕ → Misfit
misfit place row = record { place = place; row = row }

one-row : (place row : ℕ) (b : Bool) → map (misfit place) (cond b (row ∷ []) []) ≡ cond b (misfit place row ∷ []) []
one-row place row true = refl
one-row place row false = refl

-- one row more
pub row-more : (has : ℕ → ℕ → Bool) (rows place : ℕ) → misfits_at has (rows + 1) place ≡ misfits_at has rows place ++ cond (has rows place) (misfit place rows ∷ []) []
row-more has rows place =
    ap (map (misfit place)) (filter_range_more (λ row. has row place) rows)
    ∙ map-append (misfit place) (filter (λ row. has row place) (range_with_len 0 rows)) (cond (has rows place) (rows ∷ []) [])
    ∙ ap (λ more. misfits_at has rows place ++ more) (one-row place rows (has rows place))

-- one block more
pub block-more : (has : ℕ → ℕ → Bool) (rows count : ℕ) → misfits_in has rows (count + 1) ≡ misfits_in has rows count ++ misfits_at has rows count
block-more has rows count =
    ap (flat_map (misfits_at has rows)) (below_more count)
    ∙ flat_map-append (misfits_at has rows) (range_with_len 0 count) (count ∷ [])
    ∙ ap (λ more. misfits_in has rows count ++ more) (append-nil (misfits_at has rows count))

pub push-more : (has : ℕ → ℕ → Bool) (rows place : ℕ) (first old new : List Misfit) (flag : Bool) → old ≡ first ++ misfits_at has rows place
    → new ≡ old ++ cond flag (misfit place rows ∷ []) [] → flag ≡ has rows place → new ≡ first ++ misfits_at has (rows + 1) place
push-more has rows place first old new flag before more is =
    more ∙ ap (λ (xs : List Misfit). xs ++ cond flag (misfit place rows ∷ []) []) before
    ∙ append_assoc first (misfits_at has rows place) (cond flag (misfit place rows ∷ []) [])
    ∙ ap (λ (b : Bool). first ++ (misfits_at has rows place ++ cond b (misfit place rows ∷ []) [])) is
    ∙ ap (λ (xs : List Misfit). first ++ xs) (sym (row-more has rows place))

-- what the column of a row says
pub marked-in : {C : Type 0} (items : C → List Bool) (columns : List C) (row place : ℕ) (x : C) → row < length columns → x ≡ get_or columns row x
    → is_marked (items x) place ≡ is_marked_in (map items columns) row place
marked-in items columns row place x within is =
    ap (λ (column : List Bool). is_marked column place) (ap items is ∙ sym (get_or-map items columns row x [] within))

-- ---- the same faults

filter-same : (p q : ℕ → Bool) → ((k : ℕ) → p k ≡ q k) → (xs : List ℕ) → filter p xs ≡ filter q xs
filter-same p q same [] = refl
filter-same p q same (x ∷ xs) = ap₂ (λ (b : Bool) (rest : List ℕ). cond b (x ∷ rest) rest) (same x) (filter-same p q same xs)

flat_map-same : (f g : ℕ → List Misfit) → ((k : ℕ) → f k ≡ g k) → (xs : List ℕ) → flat_map f xs ≡ flat_map g xs
flat_map-same f g same [] = refl
flat_map-same f g same (x ∷ xs) = ap₂ (λ (one rest : List Misfit). one ++ rest) (same x) (flat_map-same f g same xs)

pub misfits-same : (has other : ℕ → ℕ → Bool) (rows count : ℕ) → ((row place : ℕ) → has row place ≡ other row place) → misfits_in has rows count ≡ misfits_in other rows count
misfits-same has other rows count same = flat_map-same (misfits_at has rows) (misfits_at other rows)
    (λ place. ap (map (misfit place)) (filter-same (λ row. has row place) (λ row. other row place) (λ row. same row place) (range_with_len 0 rows)))
    (range_with_len 0 count)
