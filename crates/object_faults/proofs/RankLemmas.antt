-- Of two searches for a fault the one that counts, and lines of dates among the other faults.
use Rattle.std.proofs.Common.{◌≡◌, ℕ, ◌<◌, Bool, true, false, cond, Option, Some, None, refl, sym, ap, ◌∙◌, arith}
use Rattle.std.specs.Prelude.{nat_le, nat_lt, ◌&&◌, ◌||◌}
use Rattle.std.proofs.lemmas.Bool.{ltb-false, ltb-true}
use Rattle.object_faults.specs.Columns.{date_by, IsFirst, lower, lower_fault, rank}
use Rattle.object_faults.specs.declared.fault.ValueFault.{ValueFault}
use Rattle.object_faults.specs.declared.first.Found.{Found}
use Rattle.object_faults.specs.claims.Faults.{fault_by}

-- the fault of dates beside the others
pub merged : (m n o r v e p u t : Bool) → lower_fault (fault_by m n o r v e false) (cond p (date_by u t) None) ≡ fault_by m n o (r || (p && u)) v e (p && t)
merged true n o r v e false u t = refl
merged true n o r v e true true t = refl
merged true n o r v e true false true = refl
merged true n o r v e true false false = refl
merged false true o r v e false u t = refl
merged false true o r v e true true t = refl
merged false true o r v e true false true = refl
merged false true o r v e true false false = refl
merged false false true r v e false u t = refl
merged false false true r v e true true t = refl
merged false false true r v e true false true = refl
merged false false true r v e true false false = refl
merged false false false true v e false u t = refl
merged false false false true v e true true t = refl
merged false false false true v e true false true = refl
merged false false false true v e true false false = refl
merged false false false false true e false u t = refl
merged false false false false true e true true t = refl
merged false false false false true e true false true = refl
merged false false false false true e true false false = refl
merged false false false false false true false u t = refl
merged false false false false false true true true t = refl
merged false false false false false true true false true = refl
merged false false false false false true true false false = refl
merged false false false false false false false u t = refl
merged false false false false false false true true t = refl
merged false false false false false false true false true = refl
merged false false false false false false true false false = refl

lower-none : (fault : Option ValueFault) → lower_fault fault None ≡ fault
lower-none None = refl
lower-none (Some fault) = refl

left-some : (a b : Option ValueFault) (fault : ValueFault) → a ≡ Some fault → b ≡ None → lower_fault a b ≡ Some fault
left-some a b fault is none = ap (λ other. lower_fault a other) none ∙ lower-none a ∙ is

left-none : (a b : Option ValueFault) → a ≡ None → lower_fault a b ≡ b
left-none a b none = ap (λ one. lower_fault one b) none

module _ (count : ℕ) (a b : ℕ → Option ValueFault) where
  by_place : (one other : Found) → IsFirst count a (Some one) → IsFirst count b (Some other) → (c d : Bool) → nat_lt one.place other.place ≡ c → nat_lt other.place one.place ≡ d
      → IsFirst count (λ k. lower_fault (a k) (b k)) (cond c (Some one) (cond d (Some other) (cond (nat_le (rank one.fault) (rank other.fault)) (Some one) (Some other))))
  by_place one other fa fb true d is _ =
      let low = ltb-true one.place other.place is in
      (fa.0, left-some _ _ one.fault fa.1 (fb.2 one.place low), (λ k early. left-none _ _ (fa.2 k early) ∙ fb.2 k (omega (arith, low, early))))
  by_place one other fa fb false true is also =
      let low = ltb-true other.place one.place also in
      (fb.0, left-none _ _ (fa.2 other.place low) ∙ fb.1, (λ k early. left-none _ _ (fa.2 k (omega (arith, low, early))) ∙ fb.2 k early))
  by_place one other fa fb false false is also =
      let low = ltb-false one.place other.place is in
      let high = ltb-false other.place one.place also in
      let same : other.place ≡ one.place = omega (arith, low, high) in
      let there : b one.place ≡ Some other.fault = ap b (sym same) ∙ fb.1 in
      let both : lower_fault (a one.place) (b one.place) ≡ cond (nat_le (rank one.fault) (rank other.fault)) (Some one.fault) (Some other.fault) =
      ap (λ x. lower_fault x (b one.place)) fa.1 ∙ ap (λ y. lower_fault (Some one.fault) y) there in
      by_rank (nat_le (rank one.fault) (rank other.fault)) same both
    where
      before : (k : ℕ) → k < one.place → other.place ≡ one.place → lower_fault (a k) (b k) ≡ None
      before k early same = left-none _ _ (fa.2 k early) ∙ fb.2 k (omega (arith, early, same))

      by_rank : (c : Bool) → other.place ≡ one.place → lower_fault (a one.place) (b one.place) ≡ cond c (Some one.fault) (Some other.fault)
          → IsFirst count (λ k. lower_fault (a k) (b k)) (cond c (Some one) (Some other))
      by_rank true same both = (fa.0, both, (λ k early. before k early same))
      by_rank false same both = (fb.0, ap (λ (k : ℕ). lower_fault (a k) (b k)) same ∙ both, (λ k early. before k (omega (arith, early, same)) same))

  -- of the first by two tests that which counts is the first by both
  pub first-lower : (first second : Option Found) → IsFirst count a first → IsFirst count b second → IsFirst count (λ k. lower_fault (a k) (b k)) (lower first second)
  first-lower None None fa fb = λ k low. left-none _ _ (fa k low) ∙ fb k low
  first-lower None (Some other) fa fb = (fb.0, left-none _ _ (fa other.place fb.0) ∙ fb.1, (λ k early. let low = fb.0 in left-none _ _ (fa k (omega (arith, low, early))) ∙ fb.2 k early))
  first-lower (Some one) None fa fb = (fa.0, left-some _ _ one.fault fa.1 (fb one.place fa.0), (λ k early. let low = fa.0 in left-none _ _ (fa.2 k early) ∙ fb k (omega (arith, low, early))))
  first-lower (Some one) (Some other) fa fb = by_place one other fa fb (nat_lt one.place other.place) (nat_lt other.place one.place) refl refl
