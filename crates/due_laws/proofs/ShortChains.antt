-- A chain of steps between numbers below n, where no step leads back, has fewer than n steps.
use Rattle.std.proofs.Common.{◌≡◌, ℕ, zero, suc, ◌<◌, ◌≤◌, Bool, true, false, eqb, ◌||◌, List, [], ◌∷◌, length, refl, sym, ap, subst, arith, eqb-true}
use Rattle.std.specs.List.{list_any, IsDistinct}
use Rattle.std.proofs.lemmas.Bool.{false_from_ne_true}
use Rattle.std.proofs.lemmas.Map.Steps.{length-le_from_distinct_below}
use Rattle.due_model.specs.claims.Accepted.{Chain, HasNoLoop}
use Rattle.lemmas.proofs.Dependencies.{each_fails}

module _ (Step : ℕ → ℕ → Type 0) (n : ℕ) (from_below : (p q : ℕ) → Step p q → p < n) (to_below : (p q : ℕ) → Step p q → q < n) (free : HasNoLoop Step) where
  -- the numbers that a chain goes through
  abbrev passed : (k p q : ℕ) → Chain Step k p q → List ℕ
  passed zero p q h = p ∷ []
  passed (suc k) p q h = p ∷ passed k h.0 q h.2

  length-passed : (k p q : ℕ) (h : Chain Step k p q) → length (passed k p q h) ≡ suc k
  length-passed zero p q h = refl
  length-passed (suc k) p q h = ap suc (length-passed k h.0 q h.2)

  -- a chain leads to each of them
  led_here : (p x : ℕ) → eqb x p ≡ true → (steps : ℕ) × Chain Step steps p x
  led_here p x is = (0, sym (eqb-true x p is))

  led_on : (p x middle : ℕ) → Step p middle → (rest : List ℕ) → (list_any (eqb x) rest ≡ true → (steps : ℕ) × Chain Step steps middle x)
      → (b : Bool) → eqb x p ≡ b → (b || list_any (eqb x) rest) ≡ true → (steps : ℕ) × Chain Step steps p x
  led_on p x middle step rest further true is found = led_here p x is
  led_on p x middle step rest further false is found = let to = further found in (suc to.0, (middle, step, to.1))

  led_to : (k p q : ℕ) (h : Chain Step k p q) (x : ℕ) → list_any (eqb x) (passed k p q h) ≡ true → (steps : ℕ) × Chain Step steps p x
  led_to zero p q h x found = led_here p x (alone (eqb x p) found)
    where
      alone : (b : Bool) → (b || false) ≡ true → b ≡ true
      alone true e = refl
      alone false e = e
  led_to (suc k) p q h x found = led_on p x h.0 h.1 (passed k h.0 q h.2) (led_to k h.0 q h.2 x) (eqb x p) refl found

  -- no number is passed twice
  distinct : (k p q : ℕ) (h : Chain Step k p q) → IsDistinct eqb (passed k p q h)
  unfolding IsDistinct
  distinct zero p q h = (tt, tt)
  distinct (suc k) p q h =
      (each_fails (eqb p) (passed k h.0 q h.2) (false_from_ne_true _ (λ found. let back = led_to k h.0 q h.2 p found in free back.0 p (h.0, h.1, back.1))), distinct k h.0 q h.2)

  end_below : (k p q : ℕ) → Chain Step (suc k) p q → q < n
  end_below zero p q h = subst (λ (x : ℕ). x < n) h.2 (to_below p h.0 h.1)
  end_below (suc k) p q h = end_below k h.0 q h.2

  led_below : (p x steps : ℕ) → p < n → Chain Step steps p x → x < n
  led_below p x zero low h = subst (λ (y : ℕ). y < n) h low
  led_below p x (suc k) low h = end_below k p x h

  pub short : (k p q : ℕ) → Chain Step (suc k) p q → suc k < n
  short k p q h =
      let most : length (passed (suc k) p q h) ≤ n =
      length-le_from_distinct_below (passed (suc k) p q h) n (distinct (suc k) p q h)
      (λ x found. let to = led_to (suc k) p q h x found in led_below p x to.0 (from_below p h.0 h.1) to.1)
      in
      omega (arith, most, length-passed (suc k) p q h)
