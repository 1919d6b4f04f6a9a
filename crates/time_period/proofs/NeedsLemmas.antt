-- The numbers of the periods that a period needs.
use Rattle.std.proofs.Common.{◌≡◌, ℕ, ◌+◌, ◌<◌, ◌≤◌, Bool, true, false, cond, List, [], ◌∷◌, ◌++◌, length, drop, take, get_or, All, refl, sym, ap, ap₂, subst, ◌∙◌, ◌⊎◌, inl, inr, arith}
use Rattle.std.specs.Prelude.{Contains, reverse, ◌==◌}
use Rattle.std.proofs.lemmas.Bool.{false≢true}
use Rattle.std.proofs.lemmas.List.{drop_more, length-drop, map-append, reverse-append, take_more}
use Rattle.std.proofs.lemmas.List.Elements.{All-cons, All-contains, All-head, All-nil, All-tail, Contains-append_cases}
use Rattle.lemmas.proofs.Elements.{Contains-cases, Contains-here, Contains-later, Contains-map, Contains-none}
use Rattle.due_model.specs.declared.config.Config.{Config}
use Rattle.due_model.specs.declared.config.PeriodId.{PeriodId}
use Rattle.time_period.specs.claims.Days.{IsCompiled}
use Rattle.time_period.specs.Days.{IsRight, IsTable, worked_by}
use Rattle.time_period.specs.Needs.{AreClosedBy, AreClosedNeeds, IsAwaited, picked}
use Rattle.time_period.specs.claims.Steps.{Own, with_flag}
use Rattle.time_period.specs.Steps.{AreClosed, is_plain, IsStepOf, nothing, numbers, own_at}
use Rattle.time_period.proofs.DayLemmas.{found_at}
use Rattle.time_period.proofs.StepLemmas.{eq-from, eq-refl, plain-compiled, right-steps}

-- ---- a sweep over the order

closed-weaker : (table : List Own) (K L : ℕ → Type 0) (needs : List ℕ) → ((n : ℕ) → K n → L n) → AreClosedBy table K needs → AreClosedBy table L needs
closed-weaker table K L [] more closed = tt
closed-weaker table K L (n ∷ needs) more closed =
    ((λ x found. more x.0 (closed.0 x found)), closed-weaker table (λ m. (n ≡ m) ⊎ K m) (λ m. (n ≡ m) ⊎ L m) needs also closed.1)
  where
    also : (m : ℕ) → (n ≡ m) ⊎ K m → (n ≡ m) ⊎ L m
    also m (inl here) = inl here
    also m (inr at) = inr (more m at)

-- how far a sweep has come
pub record HasSwept (table : List Own) (order : List ℕ) (number i : ℕ) (flags : ℕ → Bool) (needs : List ℕ) : Type 0 where
  pub within : All (λ n. n < length table) (reverse needs)
  pub closed : AreClosedBy table (IsAwaited flags (drop i order)) (reverse needs)
  pub has : Contains (reverse needs) number ⊎ IsAwaited flags (drop i order) number

pub sweep-begins : (table : List Own) (order : List ℕ) (number : ℕ) (flags : ℕ → Bool) → Contains order number → flags number ≡ true → HasSwept table order number 0 flags []
sweep-begins table order number flags there set = record {
  within = All-nil (λ n. n < length table);
  closed = tt;
  has = inr (there, set);
}

module _ (table : List Own) (order : List ℕ) (number i next : ℕ) (old new : ℕ → Bool) (needs : List ℕ) (inside : i < length order) (is : next ≡ get_or order i 0)
    (kept : (n : ℕ) → old n ≡ true → new n ≡ true) (so_far : HasSwept table order number i old needs) where
  left : drop i order ≡ next ∷ drop (i + 1) order
  left = drop_more order i 0 inside ∙ ap (λ (n : ℕ). n ∷ drop (i + 1) order) (sym is)

  awaited : (m : ℕ) → IsAwaited old (drop i order) m → (next ≡ m) ⊎ IsAwaited new (drop (i + 1) order) m
  awaited m at = by_case (Contains-cases next m (drop (i + 1) order) (subst (λ (ns : List ℕ). Contains ns m) left at.0))
    where
      by_case : (next ≡ m) ⊎ Contains (drop (i + 1) order) m → (next ≡ m) ⊎ IsAwaited new (drop (i + 1) order) m
      by_case (inl here) = inl here
      by_case (inr later) = inr (later, kept m at.1)

  pub sweep-takes : (more : List ℕ) → more ≡ needs ++ next ∷ [] → next < length table
      → ((x : PeriodId) → Contains (own_at table next).excludes x → Contains (drop (i + 1) order) x.0) → ((x : PeriodId) → Contains (own_at table next).excludes x → new x.0 ≡ true)
      → HasSwept table order number (i + 1) new more
  sweep-takes more are low forward set = subst (λ (ns : List ℕ). HasSwept table order number (i + 1) new ns) (sym are) (record {
    within = subst (All (λ n. n < length table)) (sym back) (All-cons (λ n. n < length table) next (reverse needs) low so_far.within);
    closed = subst (AreClosedBy table (IsAwaited new (drop (i + 1) order))) (sym back)
        ((λ x found. (forward x found, set x found)), closed-weaker table (IsAwaited old (drop i order)) (λ m. (next ≡ m) ⊎ IsAwaited new (drop (i + 1) order) m) (reverse needs) awaited so_far.closed);
    has = subst (λ (ns : List ℕ). Contains ns number ⊎ IsAwaited new (drop (i + 1) order) number) (sym back) (has so_far.has);
  })
    where
      back : reverse (needs ++ next ∷ []) ≡ next ∷ reverse needs
      back = reverse-append needs (next ∷ [])

      found_so : (next ≡ number) ⊎ IsAwaited new (drop (i + 1) order) number → Contains (next ∷ reverse needs) number ⊎ IsAwaited new (drop (i + 1) order) number
      found_so (inl here) = inl (subst (λ (n : ℕ). Contains (next ∷ reverse needs) n) here (Contains-here next (reverse needs)))
      found_so (inr later) = inr later

      has : Contains (reverse needs) number ⊎ IsAwaited old (drop i order) number → Contains (next ∷ reverse needs) number ⊎ IsAwaited new (drop (i + 1) order) number
      has (inl early) = inl (Contains-later next number (reverse needs) early)
      has (inr at) = found_so (awaited number at)

  pub sweep-passes : old next ≡ false → HasSwept table order number (i + 1) new needs
  sweep-passes off = record {
    within = so_far.within;
    closed = closed-weaker table (IsAwaited old (drop i order)) (IsAwaited new (drop (i + 1) order)) (reverse needs) still so_far.closed;
    has = has so_far.has;
  }
    where
      still : (m : ℕ) → IsAwaited old (drop i order) m → IsAwaited new (drop (i + 1) order) m
      still m at = by_case (awaited m at)
        where
          by_case : (next ≡ m) ⊎ IsAwaited new (drop (i + 1) order) m → IsAwaited new (drop (i + 1) order) m
          by_case (inl here) = absurd (false≢true (sym off ∙ ap old here ∙ at.1))
          by_case (inr later) = later

      has : Contains (reverse needs) number ⊎ IsAwaited old (drop i order) number → Contains (reverse needs) number ⊎ IsAwaited new (drop (i + 1) order) number
      has (inl early) = inl early
      has (inr at) = inr (still number at)

module _ (table : List Own) (order : List ℕ) (number i : ℕ) (flags : ℕ → Bool) (needs : List ℕ) (past : length order ≤ i) (so_far : HasSwept table order number i flags needs) where
  none : (n : ℕ) → IsAwaited flags (drop i order) n → ⊥
  none n at =
      let inside = at.0.1 in
      omega (arith, inside, length-drop i order, past)

  pub swept-closed : AreClosedNeeds table (reverse needs)
  swept-closed = closed-weaker table (IsAwaited flags (drop i order)) (λ n. ⊥) (reverse needs) none so_far.closed

  pub swept-has : Contains (reverse needs) number
  swept-has = by_case so_far.has
    where
      by_case : Contains (reverse needs) number ⊎ IsAwaited flags (drop i order) number → Contains (reverse needs) number
      by_case (inl early) = early
      by_case (inr at) = absurd (none number at)

-- ---- flags that are set

pub set-here : (flags : ℕ → Bool) (m : ℕ) → with_flag flags m true m ≡ true
set-here flags m = ap (λ b. cond b true (flags m)) (eq-refl m)

pub set-kept : (flags : ℕ → Bool) (m n : ℕ) → flags n ≡ true → with_flag flags m true n ≡ true
set-kept flags m n set = by_case (m == n)
  where
    by_case : (b : Bool) → cond b true (flags n) ≡ true
    by_case true = refl
    by_case false = set

pub set-others : (flags : ℕ → Bool) (m n : ℕ) → with_flag flags m true n ≡ true → (flags n ≡ true) ⊎ (m ≡ n)
set-others flags m n set = by_case (m == n) refl
  where
    by_case : (b : Bool) → (m == n) ≡ b → (flags n ≡ true) ⊎ (m ≡ n)
    by_case true same = inr (eq-from m n same)
    by_case false other = inl (sym (ap (λ b. cond b true (flags n)) other) ∙ set)

-- the periods so far, and one more
pub more-there : (periods : List PeriodId) (i : ℕ) (d x : PeriodId) → i < length periods → d ≡ get_or periods i d → Contains (take (i + 1) periods) x → Contains (take i periods) x ⊎ (d ≡ x)
more-there periods i d x within is at = by_case (Contains-append_cases (take i periods) (d ∷ []) x (subst (λ (xs : List PeriodId). Contains xs x) taken at))
  where
    taken : take (i + 1) periods ≡ take i periods ++ d ∷ []
    taken = take_more periods i d within ∙ ap (λ (y : PeriodId). take i periods ++ y ∷ []) (sym is)

    by_case : Contains (take i periods) x ⊎ Contains (d ∷ []) x → Contains (take i periods) x ⊎ (d ≡ x)
    by_case (inl early) = inl early
    by_case (inr late) = by_last (Contains-cases d x [] late)
      where
        by_last : (d ≡ x) ⊎ Contains [] x → Contains (take i periods) x ⊎ (d ≡ x)
        by_last (inl here) = inr here
        by_last (inr none) = absurd (Contains-none x none)

-- ---- a period by the numbers that it needs

module _ (c : Config) (table : List Own) (are : IsTable c table) where
  right : (n : ℕ) → n < length table → IsRight c n (own_at table n)
  right n within = are.right n (omega (arith, within, are.as_many))

  each-step : (needs : List ℕ) → All (λ n. n < length table) needs → All (IsStepOf c) (picked table needs)
  each-step [] within = All-nil (IsStepOf c)
  each-step (n ∷ needs) within =
      All-cons (IsStepOf c) (own_at table n) (picked table needs) (right n (All-head (λ m. m < length table) n needs within)).step (each-step needs (All-tail (λ m. m < length table) n needs within))

  closed-picked : (needs : List ℕ) (K : ℕ → Type 0) (known : List ℕ) → ((n : ℕ) → K n → Contains known n) → All (λ n. n < length table) needs → AreClosedBy table K needs
      → AreClosed known (picked table needs)
  closed-picked [] K known there within closed = tt
  closed-picked (n ∷ needs) K known there within closed =
      ((λ x found. there x.0 (closed.0 x found)), closed-picked needs (λ m. (n ≡ m) ⊎ K m) ((own_at table n).number ∷ known) also (All-tail (λ m. m < length table) n needs within) closed.1)
    where
      also : (m : ℕ) → (n ≡ m) ⊎ K m → Contains ((own_at table n).number ∷ known) m
      also m (inl here) = subst (λ (k : ℕ). Contains ((own_at table n).number ∷ known) k) ((right n (All-head (λ k. k < length table) n needs within)).number ∙ here) (Contains-here (own_at table n).number known)
      also m (inr at) = Contains-later (own_at table n).number m known (there m at)

  pub needed-compiled : (number : ℕ) (needs : List ℕ) → All (λ n. n < length table) needs → AreClosedNeeds table needs → Contains needs number
      → IsCompiled c (record { 0 = number }) (worked_by number table needs)
  needed-compiled number needs within closed has =
      right-steps c number (own_at table number).days (picked table needs)
      (record { each = each-step needs within; closed = closed-picked needs (λ n. ⊥) [] (λ n none. absurd none) within closed })
      (subst (λ (n : ℕ). Contains (numbers (picked table needs)) n) (right number (All-contains (λ n. n < length table) needs number within has)).number
      (Contains-map (λ (own : Own). own.number) (picked table needs) (own_at table number) (Contains-map (own_at table) needs number has)))

  pub weekly-compiled : (number : ℕ) → number < length table → is_plain (own_at table number) ≡ true → IsCompiled c (record { 0 = number }) (worked_by number table [])
  weekly-compiled number within plain = plain-compiled c number (own_at table number) (right number within) plain

-- ---- one step more of those that are needed

-- what is kept at a place
pub kept-at : (kept table : List Own) (n m : ℕ) (own : Own) → kept ≡ table → n ≡ m → m < length table → own ≡ get_or kept n own → own ≡ own_at table m
kept-at kept table n m own same is within here = found_at kept n own nothing low here ∙ ap₂ own_at same is
  where
    low : n < length kept
    low = subst (λ (k : ℕ). k < length kept) (sym is) (subst (λ (owns : List Own). m < length owns) (sym same) within)

pub picked-more : (table : List Own) (needs : List ℕ) (i n : ℕ) (own : Own) → i < length needs → n ≡ get_or needs i 0 → All (λ m. m < length table) needs → own ≡ get_or table n own
    → picked table (take (i + 1) needs) ≡ picked table (take i needs) ++ own ∷ []
picked-more table needs i n own inside is within here =
    ap (picked table) (take_more needs i 0 inside)
    ∙ map-append (own_at table) (take i needs) (get_or needs i 0 ∷ [])
    ∙ ap (λ (x : Own). picked table (take i needs) ++ x ∷ []) (sym (kept-at table table n (get_or needs i 0) own refl is (within i 0 inside) here))

-- what is read of a list is in it
pub read-there : {X : Type 0} (xs : List X) (i : ℕ) (x : X) → i < length xs → x ≡ get_or xs i x → Contains xs x
read-there xs i x inside is = (i, inside, sym is)
