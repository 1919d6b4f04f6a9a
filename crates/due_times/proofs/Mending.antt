-- How the levels are mended, one after the other, once a place of the lowest was set.
use Rattle.std.proofs.Common.{◌≡◌, ◌≢◌, ◌⊎◌, ℕ, ◌+◌, ◌-◌, ◌*◌, ◌/◌, ◌<◌, ◌≤◌, inl, inr, List, length, Option, refl, sym, ap, subst, ◌∙◌, arith, length-set}
use Rattle.std.specs.Prelude.{slice_set}
use Rattle.std.proofs.lemmas.Bool.{cases_eq, cases_lt}
use Rattle.std.proofs.lemmas.Grind.{common_steps}
use Rattle.due_times.specs.claims.Index.{at}
use Rattle.due_times.specs.Index.{Sets, earlier}
use Rattle.due_times.specs.Levels.{ArePaired, IsAbove, level}

-- a moment was put at a place
pub at-set_here : (moments : List (Option ℕ)) (p : ℕ) (m : Option ℕ) → p < length moments → at (slice_set moments p m) p ≡ m
at-set_here moments p m h = grind (arith, common_steps)

pub at-set_there : (moments : List (Option ℕ)) (p i : ℕ) (m : Option ℕ) → i ≢ p → at (slice_set moments p m) i ≡ at moments i
at-set_there moments p i m ne = grind (arith, common_steps)

-- a level was put at a place
pub level-set_here : (levels : List (List (Option ℕ))) (k : ℕ) (it : List (Option ℕ)) → k < length levels → level (slice_set levels k it) k ≡ it
level-set_here levels k it h = grind (arith, common_steps)

pub level-set_there : (levels : List (List (Option ℕ))) (k i : ℕ) (it : List (Option ℕ)) → i ≢ k → level (slice_set levels k it) i ≡ level levels i
level-set_there levels k i it ne = grind (arith, common_steps)

half : (p : ℕ) → (2 * (p / 2) ≤ p) × (p ≤ 2 * (p / 2) + 1)
half p = (omega arith, omega arith)

-- The levels of an index in which moment `moment0` was put at `place0`, mended up to level `number`: there moment m is to be put
-- at place p.
pub record IsMendedUpTo (old : List (List (Option ℕ))) (place0 : ℕ) (moment0 : Option ℕ) (number : ℕ) (new : List (List (Option ℕ))) (p : ℕ) (m : Option ℕ) : Type 0 where
  pub count : length new ≡ length old
  pub sizes : (k : ℕ) → length (level new k) ≡ length (level old k)
  pub rest : (k : ℕ) → number ≤ k → level new k ≡ level old k
  pub done : (k : ℕ) → k + 1 < number → IsAbove (level new k) (level new (k + 1))
  pub start : number ≡ 0 → (p ≡ place0) × (m ≡ moment0)
  pub lowest : 0 < number → Sets (level old 0) (level new 0) place0 moment0
  -- the pairs of the last level that was mended are those of the next one, but for what is to be put there
  pub here : (below : ℕ) → number ≡ below + 1 → m ≡ earlier (at (level new below) (2 * p)) (at (level new below) (2 * p + 1))
  pub others : (below i : ℕ) → number ≡ below + 1 → number < length old → i ≢ p
      → at (level old number) i ≡ earlier (at (level new below) (2 * i)) (at (level new below) (2 * i + 1))
  pub within : number < length old → p < length (level old number)

-- nothing is mended yet
pub unmended : (old : List (List (Option ℕ))) (p : ℕ) (m : Option ℕ) → p < length (level old 0) → IsMendedUpTo old p m 0 old p m
unmended old p m h = record {
  count = refl;
  sizes = λ k. refl;
  rest = λ k _. refl;
  done = λ k less. absurd (omega (arith, less));
  start = λ _. (refl, refl);
  lowest = λ less. absurd (omega (arith, less));
  here = λ below e. absurd (omega (arith, e));
  others = λ below i e. absurd (omega (arith, e));
  within = λ _. h;
}

-- one level more: moment m is put at its place, and the place above is the next
module _ (old : List (List (Option ℕ))) (place0 : ℕ) (moment0 : Option ℕ) (number : ℕ) (new : List (List (Option ℕ))) (p : ℕ) (m : Option ℕ)
    (paired : ArePaired old) (was : IsMendedUpTo old place0 moment0 number new p m) (more : number < length old)
    (changed : List (Option ℕ)) (is : changed ≡ slice_set (level new number) p m) where
  abbrev then_levels : List (List (Option ℕ))
  then_levels = slice_set new number changed

  same : level new number ≡ level old number
  same = was.rest number (omega arith)

  mended : level then_levels number ≡ changed
  mended = level-set_here new number changed (omega (arith, was.count, more))

  inside : p < length (level new number)
  inside = omega (arith, was.within more, ap length same)

  long : length changed ≡ length (level old number)
  long = ap length is ∙ length-set (level new number) p m ∙ ap length same

  changed_here : at changed p ≡ m
  changed_here = ap (λ xs. at xs p) is ∙ at-set_here (level new number) p m inside

  changed_there : (i : ℕ) → i ≢ p → at changed i ≡ at (level old number) i
  changed_there i ne = ap (λ xs. at xs i) is ∙ at-set_there (level new number) p i m ne ∙ ap (λ xs. at xs i) same

  at_number : (k : ℕ) → k ≡ number → level then_levels k ≡ changed
  at_number k e = ap (level then_levels) e ∙ mended

  sizes_at : (k : ℕ) → (k ≡ number) ⊎ (k ≢ number) → length (level then_levels k) ≡ length (level old k)
  sizes_at k (inl e) = ap length (at_number k e) ∙ long ∙ sym (ap (λ j. length (level old j)) e)
  sizes_at k (inr ne) = ap length (level-set_there new number k changed ne) ∙ was.sizes k

  pair_at : (k i : ℕ) → number ≡ k + 1 → (i ≡ p) ⊎ (i ≢ p) → at changed i ≡ earlier (at (level new k) (2 * i)) (at (level new k) (2 * i + 1))
  pair_at k i e (inl here) = rw here (changed_here ∙ was.here k e)
  pair_at k i e (inr there) = changed_there i there ∙ was.others k i e more there

  above_at : (k : ℕ) → number ≡ k + 1 → IsAbove (level new k) changed
  above_at k e =
      let before = paired.above k (omega (arith, e, more)) in
      let size : length (level old (k + 1)) ≡ length changed = ap (λ j. length (level old j)) (sym e) ∙ sym long in
      record {
        enough = omega (arith, before.enough, was.sizes k, size);
        few = omega (arith, before.few, was.sizes k, size);
        pairs = λ i. pair_at k i e (cases_eq i p);
      }

  done_at : (k : ℕ) → k + 1 < number + 1 → (k + 1 ≡ number) ⊎ (k + 1 ≢ number) → IsAbove (level then_levels k) (level then_levels (k + 1))
  done_at k h (inl e) = rw (level-set_there new number k changed (omega (arith, e)), at_number (k + 1) e) (above_at k (sym e))
  done_at k h (inr ne) = rw (level-set_there new number k changed (omega (arith, h)), level-set_there new number (k + 1) changed ne) (was.done k (omega (arith, h, ne)))

  first_set : (number ≡ 0) → Sets (level old 0) changed place0 moment0
  first_set e =
      let begins = was.start e in
      let low : level old number ≡ level old 0 = ap (level old) e in
      record {
        set = ap (at changed) (sym begins.0) ∙ changed_here ∙ begins.1;
        others = λ i ne. changed_there i (λ is_p. ne (is_p ∙ begins.0)) ∙ ap (λ xs. at xs i) low;
      }

  lowest_at : (number ≡ 0) ⊎ (number ≢ 0) → Sets (level old 0) (level then_levels 0) place0 moment0
  lowest_at (inl e) = rw (at_number 0 (sym e)) (first_set e)
  lowest_at (inr ne) = rw (level-set_there new number 0 changed (λ e. ne (sym e))) (was.lowest (omega (arith, ne)))

  next_others : (below i : ℕ) → number + 1 ≡ below + 1 → number + 1 < length old → i ≢ p / 2
      → at (level old (number + 1)) i ≡ earlier (at (level then_levels below) (2 * i)) (at (level then_levels below) (2 * i + 1))
  next_others below i e h ne =
      let even : 2 * i ≢ p = λ same_p. ne (omega (arith, same_p, half p)) in
      let odd : 2 * i + 1 ≢ p = λ same_p. ne (omega (arith, same_p, half p)) in
      rw (at_number below (omega (arith, e)), changed_there (2 * i) even, changed_there (2 * i + 1) odd) ((paired.above number h).pairs i)

  pub mended_more : IsMendedUpTo old place0 moment0 (number + 1) then_levels (p / 2) (earlier (at changed (2 * (p / 2))) (at changed (2 * (p / 2) + 1)))
  mended_more = record {
    count = length-set new number changed ∙ was.count;
    sizes = λ k. sizes_at k (cases_eq k number);
    rest = λ k h. level-set_there new number k changed (omega (arith, h)) ∙ was.rest k (omega (arith, h));
    done = λ k h. done_at k h (cases_eq (k + 1) number);
    start = λ e. absurd (omega (arith, e));
    lowest = λ _. lowest_at (cases_eq number 0);
    here = λ below e. ap (λ xs. earlier (at xs (2 * (p / 2))) (at xs (2 * (p / 2) + 1))) (sym (at_number below (omega (arith, e))));
    others = next_others;
    within = λ h. omega (arith, (paired.above number h).enough, was.within more, half p);
  }

-- all levels are mended
pub mended_whole : (old : List (List (Option ℕ))) (place0 : ℕ) (moment0 : Option ℕ) (number : ℕ) (new : List (List (Option ℕ))) (p : ℕ) (m : Option ℕ)
    → ArePaired old → IsMendedUpTo old place0 moment0 number new p m → number ≡ length old → ArePaired new
mended_whole old place0 moment0 number new p m paired was whole = record {
  above = λ k h. was.done k (omega (arith, h, was.count, whole));
  top = rw (was.count) (rw (was.sizes (length old - 1)) paired.top);
}

-- the moment that is to be put stands there already: with that all is mended
module _ (old : List (List (Option ℕ))) (place0 : ℕ) (moment0 : Option ℕ) (number : ℕ) (new : List (List (Option ℕ))) (p : ℕ) (m : Option ℕ)
    (paired : ArePaired old) (was : IsMendedUpTo old place0 moment0 number new p m) (more : number < length old)
    (there : at (level new number) p ≡ m) where
  pair_there : (k i : ℕ) → number ≡ k + 1 → (i ≡ p) ⊎ (i ≢ p) → at (level new number) i ≡ earlier (at (level new k) (2 * i)) (at (level new k) (2 * i + 1))
  pair_there k i e (inl here) = rw here (there ∙ was.here k e)
  pair_there k i e (inr other) = ap (λ xs. at xs i) (was.rest number (omega arith)) ∙ was.others k i e more other

  above_there : (k : ℕ) → number ≡ k + 1 → IsAbove (level new k) (level new number)
  above_there k e =
      let before = paired.above k (omega (arith, e, more)) in
      let size : length (level old (k + 1)) ≡ length (level new number) = ap (λ j. length (level old j)) (sym e) ∙ sym (was.sizes number) in
      record {
        enough = omega (arith, before.enough, was.sizes k, size);
        few = omega (arith, before.few, was.sizes k, size);
        pairs = λ i. pair_there k i e (cases_eq i p);
      }

  climbs_there : (k : ℕ) → k + 1 < length old → (k + 1 < number) ⊎ (number ≤ k + 1) → (k + 1 ≡ number) ⊎ (k + 1 ≢ number) → IsAbove (level new k) (level new (k + 1))
  climbs_there k h (inl low) same = was.done k low
  climbs_there k h (inr high) (inl e) = subst (λ (j : ℕ). IsAbove (level new k) (level new j)) (sym e) (above_there k (sym e))
  climbs_there k h (inr high) (inr ne) = rw (was.rest k (omega (arith, high, ne)), was.rest (k + 1) (omega (arith, high))) (paired.above k h)

  pub mended_there : ArePaired new
  mended_there = record {
    above = λ k h. climbs_there k (omega (arith, h, was.count)) (cases_lt (k + 1) number) (cases_eq (k + 1) number);
    top = rw (was.count) (rw (was.sizes (length old - 1)) paired.top);
  }

  lowest_there : (number ≡ 0) ⊎ (number ≢ 0) → Sets (level old 0) (level new 0) place0 moment0
  lowest_there (inl e) =
      let begins = was.start e in
      let low : level new 0 ≡ level old 0 = was.rest 0 (omega (arith, e)) in
      record {
        set = ap (at (level new 0)) (sym begins.0) ∙ ap (λ j. at (level new j) p) (sym e) ∙ there ∙ begins.1;
        others = λ i ne. ap (λ xs. at xs i) low;
      }
  lowest_there (inr ne) = was.lowest (omega (arith, ne))

  pub set_there : Sets (level old 0) (level new 0) place0 moment0
  set_there = lowest_there (cases_eq number 0)
