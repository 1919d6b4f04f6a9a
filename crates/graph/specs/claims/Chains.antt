-- Chains of steps, for any relation between numbers that says which number leads to which.
use Rattle.std.specs.Prelude.{◌≡◌, ℕ, zero, suc}

-- a chain of so many steps from p to q
abbrev pub Chain : (Leads : ℕ → ℕ → Type 0) → (steps p q : ℕ) → Type 0
Chain Leads zero p q = p ≡ q
Chain Leads (suc steps) p q = (middle : ℕ) × Leads p middle × Chain Leads steps middle q

-- zero or more steps lead from p to q
abbrev pub Reaches : (Leads : ℕ → ℕ → Type 0) → (p q : ℕ) → Type 0
Reaches Leads p q = (steps : ℕ) × Chain Leads steps p q

-- one or more steps lead from p back to p
abbrev pub IsOnLoop : (Leads : ℕ → ℕ → Type 0) → (p : ℕ) → Type 0
IsOnLoop Leads p = (steps : ℕ) × Chain Leads (suc steps) p p

-- no chain of one or more steps comes back to where it began
abbrev pub HasNoLoop : (Leads : ℕ → ℕ → Type 0) → Type 0
HasNoLoop Leads = (steps p : ℕ) → Chain Leads (suc steps) p p → ⊥
