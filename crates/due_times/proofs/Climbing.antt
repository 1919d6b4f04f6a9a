-- Levels that are made one above the other.
use Rattle.std.proofs.Common.{◌≡◌, ◌≢◌, ◌⊎◌, ℕ, ◌+◌, ◌-◌, ◌<◌, ◌≤◌, inl, inr, List, [], ◌∷◌, ◌++◌, length, Option, Some, arith, length-append}
use Rattle.std.proofs.lemmas.Bool.{cases_eq}
use Rattle.std.proofs.lemmas.Grind.{common_steps}
use Rattle.due_times.specs.claims.Index.{at}
use Rattle.due_times.specs.Levels.{ArePaired, IsAbove, level}

-- an entry is within its level
pub entry_within : (moments : List (Option ℕ)) (p m : ℕ) → at moments p ≡ Some m → p < length moments
entry_within moments p m e = grind (arith, common_steps)

-- each level is above the one before
abbrev pub Climbs : List (List (Option ℕ)) → Type 0
Climbs levels = (k : ℕ) → k + 1 < length levels → IsAbove (level levels k) (level levels (k + 1))

pub level-push_kept : (levels : List (List (Option ℕ))) (top : List (Option ℕ)) (k : ℕ) → k < length levels → level (levels ++ top ∷ []) k ≡ level levels k
level-push_kept levels top k h = grind (arith, common_steps)

pub level-push_last : (levels : List (List (Option ℕ))) (top : List (Option ℕ)) (k : ℕ) → k ≡ length levels → level (levels ++ top ∷ []) k ≡ top
level-push_last levels top k e = grind (arith, common_steps)

-- one more level on top
pub climbs-push : (levels : List (List (Option ℕ))) (last above : List (Option ℕ)) → Climbs (levels ++ last ∷ []) → IsAbove last above → Climbs ((levels ++ last ∷ []) ++ above ∷ [])
climbs-push levels last above climbs is k h = by_place (cases_eq k (length levels))
  where
    long : length (levels ++ last ∷ []) ≡ length levels + 1
    long = omega (arith, length-append levels (last ∷ []))

    within : k + 1 < length (levels ++ last ∷ []) + 1
    within = omega (arith, h, length-append (levels ++ last ∷ []) (above ∷ []))

    by_place : (k ≡ length levels) ⊎ (k ≢ length levels) → IsAbove (level ((levels ++ last ∷ []) ++ above ∷ []) k) (level ((levels ++ last ∷ []) ++ above ∷ []) (k + 1))
    by_place (inl e) = rw (level-push_kept (levels ++ last ∷ []) above k (omega (arith, long, e)), level-push_last levels last k e, level-push_last (levels ++ last ∷ []) above (k + 1) (omega (arith, long, e))) is
    by_place (inr ne) = rw (level-push_kept (levels ++ last ∷ []) above k (omega (arith, within)), level-push_kept (levels ++ last ∷ []) above (k + 1) (omega (arith, within, long, ne))) (climbs k (omega (arith, within, long, ne)))

-- levels that climb up to one place are paired
pub paired-top : (levels : List (List (Option ℕ))) (last : List (Option ℕ)) → Climbs (levels ++ last ∷ []) → length last ≤ 1 → ArePaired (levels ++ last ∷ [])
paired-top levels last climbs few = record {
  above = climbs;
  top = rw (level-push_last levels last (length (levels ++ last ∷ []) - 1) (omega (arith, length-append levels (last ∷ [])))) few;
}
