-- The order of moments, and how the least entry of a level lies in the level below.
use Rattle.std.proofs.Common.{◌≡◌, ℕ, zero, suc, ◌+◌, ◌*◌, ◌<◌, ◌≤◌, ◌⊎◌, inl, inr, Bool, true, false, List, Option, Some, None, nat_lt, refl, sym, ◌∙◌, arith}
use Rattle.std.proofs.lemmas.Bool.{cases_eq}
use Rattle.std.proofs.lemmas.Grind.{common_steps}
use Rattle.due_times.specs.claims.Index.{at}
use Rattle.due_times.specs.Index.{IsFirst, earlier, is_earlier}
use Rattle.due_times.specs.Levels.{IsAbove}

-- what comes after a moment that is the earlier of two comes after both
pub both_later : (m : ℕ) (a b : Option ℕ) → is_earlier (Some m) (earlier a b) ≡ true → (is_earlier (Some m) a ≡ true) × (is_earlier (Some m) b ≡ true)
both_later m None None h = (refl, refl)
both_later m None (Some b) h = (refl, h)
both_later m (Some a) None h = (h, refl)
both_later m (Some a) (Some b) h = grind (arith, common_steps)

-- neither of two is earlier than a moment that the earlier of them isn't earlier than
pub neither_earlier : (m : ℕ) (a b : Option ℕ) → is_earlier (earlier a b) (Some m) ≡ false → (is_earlier a (Some m) ≡ false) × (is_earlier b (Some m) ≡ false)
neither_earlier m None None h = (refl, refl)
neither_earlier m None (Some b) h = (refl, h)
neither_earlier m (Some a) None h = (h, refl)
neither_earlier m (Some a) (Some b) h = grind (arith, common_steps)

-- of two of which the earlier is this moment, the first is it, or comes after it and the second is it
pub which : (m : ℕ) (a b : Option ℕ) → earlier a b ≡ Some m → (a ≡ Some m) ⊎ ((is_earlier (Some m) a ≡ true) × (b ≡ Some m))
which m None None h = inl h
which m None (Some b) h = inr (refl, h)
which m (Some a) None h = inl h
which m (Some a) (Some b) h = by_test (nat_lt b a) refl
  where
    by_test : (t : Bool) → nat_lt b a ≡ t → (Some a ≡ Some m) ⊎ ((nat_lt m a ≡ true) × (Some b ≡ Some m))
    by_test true e = let is : Some b ≡ Some m = grind (arith, common_steps) in inr (grind (arith, common_steps), is)
    by_test false e = inl (grind (arith, common_steps))

-- a number is twice another, or one more
pub halves : (i : ℕ) → (h : ℕ) × ((i ≡ 2 * h) ⊎ (i ≡ 2 * h + 1))
halves zero = (0, inl refl)
halves (suc i) = next (halves i)
  where
    next : (h : ℕ) × ((i ≡ 2 * h) ⊎ (i ≡ 2 * h + 1)) → (h : ℕ) × ((suc i ≡ 2 * h) ⊎ (suc i ≡ 2 * h + 1))
    next (h, inl e) = (h, inr (omega (arith, e)))
    next (h, inr e) = (h + 1, inl (omega (arith, e)))

-- the least entry of a level lies, in the level below, at the first of its two places or at the second
pub first_below : (below above : List (Option ℕ)) (p m : ℕ) → IsAbove below above → IsFirst above p m → at below (2 * p) ≡ Some m → IsFirst below (2 * p) m
first_below below above p m is first here = record {
  entry = here;
  before = λ i h. before_half i h (halves i);
  after = λ i h. after_half i h (halves i);
}
  where
    before_half : (i : ℕ) → i < 2 * p → (h : ℕ) × ((i ≡ 2 * h) ⊎ (i ≡ 2 * h + 1)) → is_earlier (Some m) (at below i) ≡ true
    before_half i less (h, inl e) = rw e ((both_later m (at below (2 * h)) (at below (2 * h + 1)) (rw (← is.pairs h) (first.before h (omega (arith, less, e))))).0)
    before_half i less (h, inr e) = rw e ((both_later m (at below (2 * h)) (at below (2 * h + 1)) (rw (← is.pairs h) (first.before h (omega (arith, less, e))))).1)

    after_half : (i : ℕ) → 2 * p ≤ i → (h : ℕ) × ((i ≡ 2 * h) ⊎ (i ≡ 2 * h + 1)) → is_earlier (at below i) (Some m) ≡ false
    after_half i more (h, inl e) = rw e ((neither_earlier m (at below (2 * h)) (at below (2 * h + 1)) (rw (← is.pairs h) (first.after h (omega (arith, more, e))))).0)
    after_half i more (h, inr e) = rw e ((neither_earlier m (at below (2 * h)) (at below (2 * h + 1)) (rw (← is.pairs h) (first.after h (omega (arith, more, e))))).1)

pub second_below : (below above : List (Option ℕ)) (p m : ℕ) → IsAbove below above → IsFirst above p m → (at below (2 * p) ≡ Some m → ⊥) → IsFirst below (2 * p + 1) m
second_below below above p m is first other = by_which (which m (at below (2 * p)) (at below (2 * p + 1)) (sym (is.pairs p) ∙ first.entry))
  where
    before_half : is_earlier (Some m) (at below (2 * p)) ≡ true → (i : ℕ) → i < 2 * p + 1 → (h : ℕ) × ((i ≡ 2 * h) ⊎ (i ≡ 2 * h + 1)) → is_earlier (Some m) (at below i) ≡ true
    before_half later i less (h, inl e) = elim (cases_eq h p) [
      | inl same ↦ rw (e, same) later
      | inr apart ↦ rw e ((both_later m (at below (2 * h)) (at below (2 * h + 1)) (rw (← is.pairs h) (first.before h (omega (arith, less, e, apart))))).0)
    ]
    before_half later i less (h, inr e) = rw e ((both_later m (at below (2 * h)) (at below (2 * h + 1)) (rw (← is.pairs h) (first.before h (omega (arith, less, e))))).1)

    after_half : (i : ℕ) → 2 * p + 1 ≤ i → (h : ℕ) × ((i ≡ 2 * h) ⊎ (i ≡ 2 * h + 1)) → is_earlier (at below i) (Some m) ≡ false
    after_half i more (h, inl e) = rw e ((neither_earlier m (at below (2 * h)) (at below (2 * h + 1)) (rw (← is.pairs h) (first.after h (omega (arith, more, e))))).0)
    after_half i more (h, inr e) = rw e ((neither_earlier m (at below (2 * h)) (at below (2 * h + 1)) (rw (← is.pairs h) (first.after h (omega (arith, more, e))))).1)

    by_which : (at below (2 * p) ≡ Some m) ⊎ ((is_earlier (Some m) (at below (2 * p)) ≡ true) × (at below (2 * p + 1) ≡ Some m)) → IsFirst below (2 * p + 1) m
    by_which (inl here) = absurd (other here)
    by_which (inr found) = record {
      entry = found.1;
      before = λ i h. before_half found.0 i h (halves i);
      after = λ i h. after_half i h (halves i);
    }
