-- Chains of steps, and what is reached by them.
use Rattle.std.proofs.Common.{arith, subst, suc, sym, zero, ℕ, ◌+◌, ◌≡◌}
use Rattle.graph.specs.claims.Chains.{Chain, Reaches}

pub Chain-join : (R : ℕ → ℕ → Type 0) (a b p q r : ℕ) → Chain R a p q → Chain R b q r → Chain R (a + b) p r
Chain-join R zero b p q r same chain = let none : 0 + b ≡ b = omega arith in rw none (subst (λ (x : ℕ). Chain R b x r) (sym same) chain)
Chain-join R (suc a) b p q r first chain = let shift : suc a + b ≡ suc (a + b) = omega arith in rw shift (first.0, first.1, Chain-join R a b first.0 q r first.2 chain)

pub Chain-map : (R S : ℕ → ℕ → Type 0) → ((p q : ℕ) → R p q → S p q) → (steps p q : ℕ) → Chain R steps p q → Chain S steps p q
Chain-map R S f zero p q chain = chain
Chain-map R S f (suc steps) p q chain = (chain.0, f p chain.0 chain.1, Chain-map R S f steps chain.0 q chain.2)

pub Reaches-join : (R : ℕ → ℕ → Type 0) (p q r : ℕ) → Reaches R p q → Reaches R q r → Reaches R p r
Reaches-join R p q r first second = (first.0 + second.0, Chain-join R first.0 second.0 p q r first.1 second.1)
