-- How long a pause is.
use Rattle.std.proofs.Common.{◌≡◌, ◌∙◌, ℕ, ◌+◌, ◌*◌, ◌^◌, min, suc, ap, sym, arith}
use Rattle.std.proofs.Math.Nat.{pow-succ'}

twice_min : (x : ℕ) → min (2 * min x 60) 60 ≡ min (2 * x) 60
twice_min x = omega arith

plus_one : (n : ℕ) → n + 1 ≡ suc n
plus_one n = omega arith

power : (n : ℕ) → 2 ^ (n + 1) ≡ 2 * 2 ^ n
power n = ap (λ (k : ℕ). 2 ^ k) (plus_one n) ∙ pow-succ' 2 n

once_more : (first p : ℕ) → 2 * (first * p) ≡ first * (2 * p)
once_more first p = omega arith

pub next : (first n : ℕ) → min (2 * min (first * 2 ^ n) 60) 60 ≡ min (first * 2 ^ (n + 1)) 60
next first n = twice_min (first * 2 ^ n) ∙ ap (λ (x : ℕ). min x 60) (once_more first (2 ^ n)) ∙ ap (λ (p : ℕ). min (first * p) 60) (sym (power n))
