-- Stretches of a day's ranges.
use Rattle.std.proofs.Common.{◌≡◌, ◌≢◌, ℕ, zero, suc, ◌<◌, ◌≤◌, Bool, true, false, ◌||◌, nat_le, List, [], ◌∷◌, length, get_or, All, refl, sym, subst, ap, ◌∙◌, arith, inl, inr, le-leb, leb-false}
use Rattle.std.specs.List.{list_any, AllWithin}
use Rattle.std.proofs.lemmas.Bool.Decides.{leb_tells, nat_tests}
use Rattle.std.proofs.lemmas.List.Folds.{list_any_none}
use Rattle.due_model.specs.declared.config.Range.{Range}
use Rattle.due_model.specs.claims.Periods.{in_range}
use Rattle.time_period.specs.claims.Days.{holds_at}
use Rattle.time_period.specs.Days.{IsDay, in_ranges}
use Rattle.time_period.specs.Stretches.{Stays}

-- the same stretch, of a test that agrees
pub Stays-same : (f g : ℕ → Bool) (from : ℕ) (holds : Bool) (end : ℕ) → ((k : ℕ) → f k ≡ g k) → Stays g from holds end → Stays f from holds end
Stays-same f g from holds end same h = record { later = h.later; alike = λ k low high. same k ∙ h.alike k low high }

-- an element that alone may pass settles whether some element passes
pub only_one : {X : Type 0} (p : X → Bool) (xs : List X) (i : ℕ) (x : X) → i < length xs → x ≡ get_or xs i x
    → ((j : ℕ) (d : X) → j < length xs → j ≢ i → p (get_or xs j d) ≡ false) → list_any p xs ≡ p x
only_one p [] i x h is others = absurd (omega (arith, h))
only_one p (y ∷ ys) zero x h is others =
    ap (λ b. p y || b) (list_any_none p ys (λ k d within. others (suc k) d (omega (arith, within)) (omega arith)))
    ∙ last (p y) ∙ ap p (sym is)
  where
    last : (b : Bool) → (b || false) ≡ b
    last true = refl
    last false = refl
only_one p (y ∷ ys) (suc i) x h is others =
    ap (λ b. b || list_any p ys) (others 0 y (omega arith) (omega arith))
    ∙ only_one p ys i x (omega (arith, h)) is (λ j d within other. others (suc j) d (omega (arith, within)) (λ same. other (omega (arith, same))))

pub not_begun : (k : ℕ) (r : Range) → k < r.start → in_range k r ≡ false
not_begun k r h = grind (arith, nat_tests)

pub ended : (k : ℕ) (r : Range) → r.end ≤ k → in_range k r ≡ false
ended k r h = grind (arith, nat_tests)

le_end : (r : Range) (second k : ℕ) → nat_le r.end second ≡ true → second ≤ k → r.end ≤ k
le_end r second k e low = elim (leb_tells r.end second) [
  | inl is ↦ omega (arith, is.1, low)
  | inr not ↦ absurd (differ (sym e ∙ not.0))
]
  where
    differ : true ≡ false → ⊥
    differ e = cc

same_at : {X : Type 0} (xs : List X) (i : ℕ) (x d : X) → i < length xs → x ≡ get_or xs i x → get_or xs i d ≡ x
same_at [] i x d h e = absurd (omega (arith, h))
same_at (y ∷ ys) zero x d h e = sym e
same_at (y ∷ ys) (suc i) x d h e = same_at ys i x d (omega (arith, h)) e

-- a range that comes before another ends before it
pub ends_rise : (day : List Range) (second : ℕ) → IsDay day → (i j : ℕ) (d : Range) → i ≤ j → j < length day
    → nat_le (get_or day j d).end second ≡ true → nat_le (get_or day i d).end second ≡ true
ends_rise day second sorted i j d low within e = elim (leb_tells j i) [
  | inl same ↦ let is : i ≡ j = omega (arith, low, same.1) in ap (λ m. nat_le (get_or day m d).end second) is ∙ e
  | inr less ↦ le-leb (get_or day i d).end second
      (rise (sorted.apart i j d less.1 within) (sorted.some j d within) (le_end (get_or day j d) second second e (omega arith)))
]
  where
    rise : (get_or day i d).end < (get_or day j d).start → (get_or day j d).start < (get_or day j d).end → (get_or day j d).end ≤ second → (get_or day i d).end ≤ second
    rise a b c = omega (arith, a, b, c)

module _ (day : List Range) (second i : ℕ) (range : Range) (end : ℕ) (sorted : IsDay day) (within : i < length day) (is : range ≡ get_or day i range)
    (before : AllWithin (λ r. nat_le r.end second ≡ true) day 0 i) (inside : end ≤ range.end) where
  gap : (k j : ℕ) (d : Range) → k < end → i < j → j < length day → k < (get_or day j d).start
  gap k j d high after place =
      let apart : (get_or day i d).end < (get_or day j d).start = sorted.apart i j d after place in
      let same : (get_or day i d).end ≡ range.end = ap (λ (r : Range). r.end) (same_at day i range d within is) in
      omega (arith, apart, same, high, inside)

  off : (k j : ℕ) (d : Range) → second ≤ k → k < end → j < length day → j ≢ i → in_range k (get_or day j d) ≡ false
  off k j d low high place other = elim (leb_tells j i) [
    | inl up ↦ ended k (get_or day j d) (le_end (get_or day j d) second k (before j d (omega arith) (omega (arith, up.1, other))) low)
    | inr down ↦ not_begun k (get_or day j d) (gap k j d high down.1 place)
  ]

  -- among ranges in order, the first that hasn't ended tells
  stretch_at : (holds : Bool) → Stays (λ k. in_range k range) second holds end → Stays (in_ranges day) second holds end
  stretch_at holds stays = record {
    later = stays.later;
    alike = λ k low high. only_one (in_range k) day i range within is (λ j d place other. off k j d low high place other) ∙ stays.alike k low high;
  }

pub stretch_found : (day : List Range) (second i : ℕ) (range : Range) (holds : Bool) (end : ℕ) → IsDay day → i < length day → range ≡ get_or day i range
    → AllWithin (λ r. nat_le r.end second ≡ true) day 0 i × AllWithin (λ r. nat_le r.end second ≡ false) day i (length day)
    → Stays (λ k. in_range k range) second holds end → (range.start ≤ range.end → second < range.end → end ≤ range.end) → Stays (in_ranges day) second holds end
stretch_found day second i range holds end sorted within is point stays ends =
    let some : range.start < range.end = subst (λ (r : Range). r.start < r.end) (sym is) (sorted.some i range within) in
    let open_end : nat_le range.end second ≡ false = ap (λ (r : Range). nat_le r.end second) is ∙ point.1 i range (omega arith) within in
    stretch_at day second i range end sorted within is point.0 (ends (omega (arith, some)) (leb-false range.end second open_end)) holds stays

-- where all have ended none holds
pub stretch_past : (day : List Range) (second i end : ℕ) → length day ≤ i → AllWithin (λ r. nat_le r.end second ≡ true) day 0 i → second < end → Stays (in_ranges day) second false end
stretch_past day second i end past before later = record {
  later = later;
  alike = λ k low high. list_any_none (in_range k) day
      (λ j d within. ended k (get_or day j d) (le_end (get_or day j d) second k (before j d (omega arith) (omega (arith, past, within))) low));
}

pub never_holds : (test : ℕ → Bool) (from end : ℕ) {holds : Bool} → holds ≡ false → Stays test from false end → Stays test from holds end
never_holds test from end e stays = subst (λ b. Stays test from b end) (sym e) stays

pub day_found : (days : List (List Range)) (i : ℕ) (day : List Range) → All IsDay days → i < length days → day ≡ get_or days i day → IsDay day
day_found days i day all within is = subst IsDay (sym is) (all i day within)

pub at_same : (days : List (List Range)) (w w' s s' end : ℕ) (holds : Bool) → w ≡ w' → s ≡ s' → Stays (holds_at days w) s holds end → Stays (holds_at days w') s' holds end
at_same days w w' s s' end holds same also stays =
    subst (λ x. Stays (holds_at days w') x holds end) also (subst (λ x. Stays (holds_at days x) s holds end) same stays)
