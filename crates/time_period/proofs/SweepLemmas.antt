-- How ranges that stand in the order of their starts are joined.
use Rattle.std.proofs.Common.{◌≡◌, ℕ, zero, suc, ◌+◌, ◌<◌, ◌≤◌, Bool, true, false, ◌||◌, cond, List, [], ◌∷◌, ◌++◌, length, get_or, take, All, refl, sym, ap, ap₂, subst, ◌∙◌, arith, inl, inr, min, max}
use Rattle.std.specs.List.Sorted.{IsNonDecreasingBy, IsPermutation}
use Rattle.std.proofs.lemmas.Bool.Decides.{leb_tells}
use Rattle.std.proofs.lemmas.List.Folds.{list_any-append, list_any_more}
use Rattle.std.proofs.lemmas.List.Quantifiers.{all_pairs_push}
use Rattle.std.proofs.lemmas.List.Sorted.{list_any-IsPermutation}
use Rattle.due_model.specs.declared.config.Range.{Range}
use Rattle.due_model.specs.claims.Limits.{day}
use Rattle.due_model.specs.claims.Periods.{in_range}
use Rattle.time_period.specs.Days.{closed, IsDay, IsDayOf, IsSwept, in_ranges}
use Rattle.time_period.proofs.DayLemmas.{All-push, inside, or_false}
use Rattle.time_period.proofs.StretchLemmas.{ended, not_begun}

abbrev pub start_of : Range → ℕ
start_of r = r.start

or_assoc : (a b c : Bool) → ((a || b) || c) ≡ (a || (b || c))
or_assoc true b c = refl
or_assoc false b c = refl

any_default : (xs : List Range) (i : ℕ) (d e : Range) → i < length xs → get_or xs i d ≡ get_or xs i e
any_default [] i d e h = absurd (omega (arith, h))
any_default (x ∷ xs) zero d e h = refl
any_default (x ∷ xs) (suc i) d e h = any_default xs i d e (omega (arith, h))

take_all : (xs : List Range) (i : ℕ) → length xs ≤ i → take i xs ≡ xs
take_all [] zero h = refl
take_all [] (suc i) h = refl
take_all (x ∷ xs) zero h = absurd (omega (arith, h))
take_all (x ∷ xs) (suc i) h = ap (λ (ys : List Range). x ∷ ys) (take_all xs i (omega (arith, h)))

-- ---- one second

module _ (k start end high last : ℕ) (r : Range) (within : k < day) (is_high : high ≡ min r.end day) where
  cut : in_range k (record { start = r.start; end = high }) ≡ in_range k r
  cut = elim (leb_tells r.start k) [
    | inr early ↦ not_begun k (record { start = r.start; end = high }) early.1 ∙ sym (not_begun k r early.1)
    | inl late ↦ elim (leb_tells r.end k) [
      | inl past ↦ ended k (record { start = r.start; end = high }) (omega (arith, past.1, is_high)) ∙ sym (ended k r past.1)
      | inr on ↦ inside k (record { start = r.start; end = high }) late.1 (omega (arith, on.1, is_high, within)) ∙ sym (inside k r late.1 on.1)
    ]
  ]

  nothing : high ≤ r.start → in_range k r ≡ false
  nothing h = elim (leb_tells r.start k) [
    | inr early ↦ not_begun k r early.1
    | inl late ↦ ended k r (omega (arith, late.1, h, is_high, within))
  ]

  grown : start ≤ r.start → r.start ≤ end → last ≡ max end high
      → in_range k (record { start = start; end = last }) ≡ (in_range k (record { start = start; end = end }) || in_range k r)
  grown up on is_last = elim (leb_tells start k) [
    | inr early ↦ not_begun k (record { start = start; end = last }) early.1
        ∙ sym (ap₂ (λ a b. a || b) (not_begun k (record { start = start; end = end }) early.1) (not_begun k r (omega (arith, early.1, up))))
    | inl late ↦ elim (leb_tells end k) [
      | inr here ↦ inside k (record { start = start; end = last }) late.1 (omega (arith, here.1, is_last))
          ∙ sym (ap (λ a. a || in_range k r) (inside k (record { start = start; end = end }) late.1 here.1))
      | inl past ↦ elim (leb_tells r.end k) [
        | inr also ↦ inside k (record { start = start; end = last }) late.1 (omega (arith, also.1, is_last, is_high, within))
            ∙ sym (ap₂ (λ a b. a || b) (ended k (record { start = start; end = end }) past.1) (inside k r (omega (arith, on, past.1)) also.1))
        | inl over ↦ ended k (record { start = start; end = last }) (omega (arith, over.1, past.1, is_last, is_high))
            ∙ sym (ap₂ (λ a b. a || b) (ended k (record { start = start; end = end }) past.1) (ended k r over.1))
      ]
    ]
  ]

-- ---- a range that is closed

closed-alike : (ranges : List Range) (start end k : ℕ) → in_ranges (closed ranges start end) k ≡ (in_ranges ranges k || in_range k (record { start = start; end = end }))
closed-alike ranges start end k = elim (leb_tells (suc start) end) [
  | inl some ↦ ap (λ b. in_ranges (cond b (ranges ++ record { start = start; end = end } ∷ []) ranges) k) some.0
      ∙ list_any-append (in_range k) ranges (record { start = start; end = end } ∷ [])
      ∙ ap (λ b. in_ranges ranges k || b) (or_false (in_range k (record { start = start; end = end })))
  | inr none ↦ ap (λ b. in_ranges (cond b (ranges ++ record { start = start; end = end } ∷ []) ranges) k) none.0
      ∙ sym (or_false (in_ranges ranges k)) ∙ ap (λ b. in_ranges ranges k || b) (sym (gone none.1))
]
  where
    gone : end < suc start → in_range k (record { start = start; end = end }) ≡ false
    gone h = elim (leb_tells start k) [
      | inr early ↦ not_begun k (record { start = start; end = end }) early.1
      | inl late ↦ ended k (record { start = start; end = end }) (omega (arith, late.1, h))
    ]

closed-day : (ranges : List Range) (start end : ℕ) → IsDay ranges → All (λ r. r.end < start) ranges → end ≤ day → IsDay (closed ranges start end)
closed-day ranges start end is before high = elim (leb_tells (suc start) end) [
  | inl some ↦ subst (λ b. IsDay (cond b (ranges ++ record { start = start; end = end } ∷ []) ranges)) (sym some.0) record {
    some = All-push (λ r. r.start < r.end) ranges (record { start = start; end = end }) is.some (omega (arith, some.1));
    apart = all_pairs_push (λ a b. a.end < b.start) ranges (record { start = start; end = end }) is.apart (λ k d within. before k d within);
    within = All-push (λ r. r.end ≤ day) ranges (record { start = start; end = end }) is.within high;
  }
  | inr none ↦ subst (λ b. IsDay (cond b (ranges ++ record { start = start; end = end } ∷ []) ranges)) (sym none.0) is
]

closed-before : (ranges : List Range) (start end next : ℕ) → All (λ r. r.end < start) ranges → start ≤ end → end < next → All (λ r. r.end < next) (closed ranges start end)
closed-before ranges start end next before up less = elim (leb_tells (suc start) end) [
  | inl some ↦ subst (λ b. All (λ r. r.end < next) (cond b (ranges ++ record { start = start; end = end } ∷ []) ranges)) (sym some.0)
      (All-push (λ r. r.end < next) ranges (record { start = start; end = end }) old less)
  | inr none ↦ subst (λ b. All (λ r. r.end < next) (cond b (ranges ++ record { start = start; end = end } ∷ []) ranges)) (sym none.0) old
]
  where
    late : {m : ℕ} → m < start → m < next
    late h = omega (arith, h, up, less)

    old : All (λ r. r.end < next) ranges
    old j d within = late (before j d within)

-- ---- range by range

pub sweep_begins : (sorted : List Range) → IsSwept sorted 0 0 0 []
sweep_begins sorted = record {
  low = omega arith;
  high = omega arith;
  is_day = record { some = λ j d within. absurd (omega (arith, within)); apart = λ i j d less within. absurd (omega (arith, within)); within = λ j d within. absurd (omega (arith, within)) };
  before = λ j d within. absurd (omega (arith, within));
  later = λ j d from within. omega arith;
  alike = λ k within. ended k (record { start = 0; end = 0 }) (omega arith);
}

module _ (sorted ranges : List Range) (i start end high : ℕ) (d : Range) (rises : IsNonDecreasingBy start_of sorted) (within : i < length sorted)
    (swept : IsSwept sorted i start end ranges) (is_high : high ≡ min (get_or sorted i d).end day) where
  more : (k : ℕ) → in_ranges (take (i + 1) sorted) k ≡ (in_ranges (take i sorted) k || in_range k (get_or sorted i d))
  more k = list_any_more (in_range k) sorted i d within

  also : (k : ℕ) → k < day → ((in_ranges ranges k || in_range k (record { start = start; end = end })) || in_range k (get_or sorted i d)) ≡ in_ranges (take (i + 1) sorted) k
  also k in_day = ap (λ b. b || in_range k (get_or sorted i d)) (swept.alike k in_day) ∙ sym (more k)

  onwards : (j : ℕ) (e : Range) → i + 1 ≤ j → j < length sorted → start ≤ (get_or sorted j e).start
  onwards j e from place = swept.later j e (omega (arith, from)) place

  pub sweep_grows : (last : ℕ) → last ≡ max end high → (get_or sorted i d).start ≤ end → IsSwept sorted (i + 1) start last ranges
  sweep_grows last is_last on = record {
    low = omega (arith, swept.low, is_last);
    high = omega (arith, swept.high, is_last, is_high);
    is_day = swept.is_day;
    before = swept.before;
    later = onwards;
    alike = λ k in_day. ap (λ b. in_ranges ranges k || b) (grown k start end high last (get_or sorted i d) in_day is_high (swept.later i d (omega arith) within) on is_last)
        ∙ sym (or_assoc (in_ranges ranges k) (in_range k (record { start = start; end = end })) (in_range k (get_or sorted i d))) ∙ also k in_day;
  }

  pub sweep_begins_anew : end < (get_or sorted i d).start → (get_or sorted i d).start < high → IsSwept sorted (i + 1) (get_or sorted i d).start high (closed ranges start end)
  sweep_begins_anew after some = record {
    low = omega (arith, some);
    high = omega (arith, is_high);
    is_day = closed-day ranges start end swept.is_day swept.before swept.high;
    before = closed-before ranges start end (get_or sorted i d).start swept.before swept.low after;
    later = λ j e from place. subst (λ (r : Range). r.start ≤ (get_or sorted j e).start) (any_default sorted i e d within) (rises i j e (omega (arith, from)) place);
    alike = λ k in_day. ap₂ (λ a b. a || b) (closed-alike ranges start end k) (cut k start end high end (get_or sorted i d) in_day is_high) ∙ also k in_day;
  }

  pub sweep_skips : high ≤ (get_or sorted i d).start → IsSwept sorted (i + 1) start end ranges
  sweep_skips none = record {
    low = swept.low;
    high = swept.high;
    is_day = swept.is_day;
    before = swept.before;
    later = onwards;
    alike = λ k in_day. sym (or_false (in_ranges ranges k || in_range k (record { start = start; end = end })))
        ∙ ap (λ b. (in_ranges ranges k || in_range k (record { start = start; end = end })) || b) (sym (nothing k start end high end (get_or sorted i d) in_day is_high none)) ∙ also k in_day;
  }

pub sweep_ends : (sorted ranges : List Range) (i start end : ℕ) → length sorted ≤ i → IsSwept sorted i start end ranges → IsDayOf (in_ranges sorted) (closed ranges start end)
sweep_ends sorted ranges i start end past swept = record {
  is_day = closed-day ranges start end swept.is_day swept.before swept.high;
  alike = λ k in_day. closed-alike ranges start end k ∙ swept.alike k in_day ∙ ap (λ (rs : List Range). in_ranges rs k) (take_all sorted i past);
}

pub same_day : (own sorted ranges : List Range) → IsPermutation own sorted → IsDayOf (in_ranges sorted) ranges → IsDayOf (in_ranges own) ranges
same_day own sorted ranges moved is = record {
  is_day = is.is_day;
  alike = λ k in_day. is.alike k in_day ∙ sym (list_any-IsPermutation (in_range k) own sorted moved);
}
