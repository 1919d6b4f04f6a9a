-- How a day's ranges are made, one after the other.
use Rattle.std.proofs.Common.{◌≡◌, ℕ, zero, suc, ◌+◌, ◌<◌, ◌≤◌, Bool, true, false, ◌||◌, List, [], ◌∷◌, ◌++◌, length, get_or, take, All, Option, None, Some, refl, sym, ap, ap₂, ◌∙◌, arith, inl, inr}
use Rattle.std.proofs.lemmas.Bool.Decides.{leb_tells, nat_tests}
use Rattle.std.proofs.lemmas.List.{get_or_append_left, length-append}
use Rattle.std.proofs.Math.Seq.{get_or-append_seam}
use Rattle.std.proofs.lemmas.List.Elements.{All-append, All-cons, All-nil}
use Rattle.std.proofs.lemmas.List.Folds.{list_any-append, list_any_more, list_any_none}
use Rattle.std.proofs.lemmas.List.Quantifiers.{all_pairs_push}
use Rattle.lemmas.proofs.Lists.{slice_get_read}
use Rattle.due_model.specs.declared.config.Period.{Period}
use Rattle.due_model.specs.declared.config.PeriodId.{PeriodId}
use Rattle.due_model.specs.declared.config.Range.{Range}
use Rattle.due_model.specs.claims.Limits.{day}
use Rattle.due_model.specs.claims.Periods.{in_range, weekly_ranges}
use Rattle.time_period.specs.claims.Days.{holds_at}
use Rattle.time_period.specs.Days.{AreWorkedOut, IsDay, IsDayOf, IsMade, holds_any, holds_without, in_ranges}
use Rattle.time_period.specs.claims.Steps.{Own}
use Rattle.time_period.specs.Steps.{own_at}
use Rattle.time_period.specs.Stretches.{Stays}
use Rattle.time_period.proofs.StretchLemmas.{Stays-same, ended, not_begun}

pub All-push : {X : Type 0} (P : X → Type 0) (xs : List X) (x : X) → All P xs → P x → All P (xs ++ x ∷ [])
All-push P xs x all also = All-append P xs (x ∷ []) all (All-cons P x [] also (All-nil P))

pub or_false : (b : Bool) → (b || false) ≡ b
or_false true = refl
or_false false = refl

differ : true ≡ false → ⊥
differ e = cc

pub inside : (k : ℕ) (r : Range) → r.start ≤ k → k < r.end → in_range k r ≡ true
inside k r low high = grind (arith, nat_tests)

module _ (test : ℕ → Bool) (start end next : ℕ) (ranges : List Range) (made : IsMade test start ranges) (some : start < day)
    (up : start ≤ end) (on : (k : ℕ) → start ≤ k → k < end → test k ≡ true) (in_day : end ≤ day) (over : end < day → test end ≡ false)
    (on_up : end ≤ next) (off : (k : ℕ) → end ≤ k → k < next → test k ≡ false) (next_in_day : next ≤ day) (begins : next < day → test next ≡ true) where
  the_range : Range
  the_range = record { start = start; end = end }

  -- the range isn't empty, since the test passes at its start
  is_some : start < end
  is_some = elim (leb_tells end start) [
    | inl under ↦ let same : end ≡ start = omega (arith, up, under.1) in
        absurd (differ (sym (made.holds some) ∙ ap test (sym same) ∙ over (omega (arith, same, some))))
    | inr above ↦ above.1
  ]

  -- and a gap is before the next one
  gap : next < day → end < next
  gap less = elim (leb_tells next end) [
    | inl under ↦ let same : next ≡ end = omega (arith, on_up, under.1) in
        absurd (differ (sym (begins less) ∙ ap test same ∙ over (omega (arith, same, less))))
    | inr above ↦ above.1
  ]

  past : (k : ℕ) → start ≤ k → in_ranges ranges k ≡ false
  past k low = list_any_none (in_range k) ranges (λ j d within. ended k (get_or ranges j d) (late (made.before some j d within)))
    where
      late : {m : ℕ} → m < start → m ≤ k
      late h = omega (arith, h, low)

  more : (k : ℕ) → k < next → in_ranges (ranges ++ the_range ∷ []) k ≡ test k
  unfolding the_range
  more k high = list_any-append (in_range k) ranges (the_range ∷ []) ∙ elim (leb_tells start k) [
    | inr early ↦ ap₂ (λ a b. a || (b || false)) (made.alike k early.1) (not_begun k the_range early.1) ∙ or_false (test k)
    | inl late ↦ ap (λ a. a || (in_range k the_range || false)) (past k late.1) ∙ or_false (in_range k the_range) ∙ elim (leb_tells end k) [
      | inr within ↦ inside k the_range late.1 within.1 ∙ sym (on k late.1 within.1)
      | inl after ↦ ended k the_range after.1 ∙ sym (off k after.1 high)
    ]
  ]

  pub made_more : IsMade test next (ranges ++ record { start = start; end = end } ∷ [])
  unfolding the_range
  made_more = record {
    low = next_in_day;
    is_day = record {
      some = All-push (λ r. r.start < r.end) ranges the_range made.is_day.some is_some;
      apart = all_pairs_push (λ a b. a.end < b.start) ranges the_range made.is_day.apart (λ k d within. made.before some k d within);
      within = All-push (λ r. r.end ≤ day) ranges the_range made.is_day.within in_day;
    };
    before = λ less. All-push (λ r. r.end < next) ranges the_range (λ k d within. later (made.before some k d within)) (gap less);
    holds = begins;
    alike = more;
  }
    where
      later : {m : ℕ} → m < start → m < next
      later h = omega (arith, h, up, on_up)

-- one weekday more
pub worked_out_more : (period : Period) (done : List Own) (count : ℕ) (days : List (List Range)) (day : List Range)
    → AreWorkedOut period done count days → IsDayOf (holds_without (weekly_ranges period count) period.excludes done count) day → AreWorkedOut period done (count + 1) (days ++ day ∷ [])
worked_out_more period done count days day out is = record {
  as_many = length-append days (day ∷ []) ∙ ap (λ n. n + 1) out.as_many;
  each = All-push IsDay days day out.each is.is_day;
  alike = λ weekday second within in_day. elim (leb_tells count weekday) [
    | inr early ↦ ap (λ ranges. in_ranges ranges second) (get_or_append_left days (day ∷ []) [] weekday (omega (arith, early.1, out.as_many)))
        ∙ out.alike weekday second early.1 in_day
    | inl last ↦ let same : weekday ≡ length days = omega (arith, last.1, within, out.as_many) in
        let now : count ≡ weekday = omega (arith, last.1, within) in
        ap (λ n. in_ranges (get_or (days ++ day ∷ []) n []) second) same
        ∙ ap (λ ranges. in_ranges ranges second) (get_or-append_seam days day [] [])
        ∙ is.alike second in_day ∙ ap (λ n. holds_without (weekly_ranges period n) period.excludes done n second) now
  ];
}

-- one excluded period more
pub any_more : (excludes : List PeriodId) (done : List Own) (weekday i : ℕ) (d : PeriodId) (from : ℕ) (holds : Bool) (end : ℕ) → i < length excludes
    → Stays (λ k. holds_any (take i excludes) done weekday k || holds_at (own_at done (get_or excludes i d).0).days weekday k) from holds end
    → Stays (λ k. holds_any (take (i + 1) excludes) done weekday k) from holds end
any_more excludes done weekday i d from holds end h stays =
    Stays-same (λ k. holds_any (take (i + 1) excludes) done weekday k) _ from holds end
    (λ k. list_any_more (λ (x : PeriodId). holds_at (own_at done x.0).days weekday k) excludes i d h) stays

-- what is read of a list, with any default
pub found_at : {X : Type 0} (xs : List X) (i : ℕ) (x d : X) → i < length xs → x ≡ get_or xs i x → x ≡ get_or xs i d
found_at [] i x d h e = absurd (omega (arith, h))
found_at (y ∷ ys) zero x d h e = e
found_at (y ∷ ys) (suc i) x d h e = found_at ys i x d (omega (arith, h)) e

pub on_weekday : (period : Period) (weekday : ℕ) (ranges : List Range) → weekday < length period.days → ranges ≡ get_or period.days weekday ranges → weekly_ranges period weekday ≡ ranges
on_weekday period weekday ranges h is =
    ap (λ (o : Option (List Range)). elim o as (λ _. List Range) [ None ↦ [] | Some found ↦ found ]) (slice_get_read period.days weekday ranges h is)
