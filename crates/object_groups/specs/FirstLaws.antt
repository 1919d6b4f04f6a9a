-- The first place of which something is said, and of which one or another thing is said.
use Rattle.std.proofs.Common.{◌≡◌, ℕ, ◌<◌, ◌≤◌, Bool, true, false, cond, Option, Some, None, refl, sym, subst, ⊎_elim, ◌⊎◌, inl, inr, arith, leb-false, leb-true}
use Rattle.std.specs.Prelude.{nat_le}
use Rattle.object_groups.specs.claims.First.{IsFirst}
use Rattle.object_groups.specs.First.{lower}

module _ (P Q : ℕ → Type 0) where
  by_order : (one other : ℕ) → IsFirst P (Some one) → IsFirst Q (Some other) → (c : Bool) → nat_le one other ≡ c → IsFirst (λ n. P n ⊎ Q n) (cond c (Some one) (Some other))
  by_order one other fp fq true is =
      let low : one ≤ other = leb-true one other is in
      (inl fp.0, (λ k early either. ⊎_elim (λ (p : P k). fp.1 k early p) (λ (q : Q k). fq.1 k (omega (arith, low, early)) q) either))
  by_order one other fp fq false is =
      let high : other < one = leb-false one other is in
      (inr fq.0, (λ k early either. ⊎_elim (λ (p : P k). fp.1 k (omega (arith, high, early)) p) (λ (q : Q k). fq.1 k early q) either))

  pub first-lower : (first second : Option ℕ) → IsFirst P first → IsFirst Q second → IsFirst (λ n. P n ⊎ Q n) (lower first second)
  first-lower None None fp fq = λ n either. ⊎_elim (λ (p : P n). fp n p) (λ (q : Q n). fq n q) either
  first-lower None (Some other) fp fq = (inr fq.0, (λ k early either. ⊎_elim (λ (p : P k). fp k p) (λ (q : Q k). fq.1 k early q) either))
  first-lower (Some one) None fp fq = (inl fp.0, (λ k early either. ⊎_elim (λ (p : P k). fp.1 k early p) (λ (q : Q k). fq k q) either))
  first-lower (Some one) (Some other) fp fq = by_order one other fp fq (nat_le one other) refl

  -- the same of what says the same
  pub first-same : (found : Option ℕ) → ((n : ℕ) → P n → Q n) → ((n : ℕ) → Q n → P n) → IsFirst P found → IsFirst Q found
  first-same None to from fp = λ n q. fp n (from n q)
  first-same (Some one) to from fp = (to one fp.0, (λ k early q. fp.1 k early (from k q)))

-- the first of which one or the other is said, by the lower of the two
pub first-either : (P Q R : ℕ → Type 0) (first second found : Option ℕ) → found ≡ lower first second → ((n : ℕ) → P n ⊎ Q n → R n) → ((n : ℕ) → R n → P n ⊎ Q n)
    → IsFirst P first → IsFirst Q second → IsFirst R found
first-either P Q R first second found is to from fp fq =
    subst (λ (f : Option ℕ). IsFirst R f) (sym is) (first-same (λ n. P n ⊎ Q n) R (lower first second) to from (first-lower P Q first second fp fq))
