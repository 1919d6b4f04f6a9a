-- Days and lines with their ranges in order.
use Rattle.std.proofs.Common.{◌≡◌, ℕ, zero, suc, ◌<◌, ◌≤◌, true, cond, List, [], ◌∷◌, ◌++◌, get_or, All, nat_lt, refl, sym, ap, ap₂, subst, ◌∙◌, ◌⊎◌, inl, inr}
use Rattle.std.specs.Prelude.{Contains, ◌&&◌, ◌||◌, ◌==◌, None, Some, slice_get}
use Rattle.std.specs.List.{list_any}
use Rattle.std.proofs.lemmas.List.Elements.{All-cons, All-nil}
use Rattle.lemmas.proofs.Elements.{Contains-cases, Contains-here, Contains-later, Contains-none}
use Rattle.due_model.specs.declared.config.Dated.{Dated}
use Rattle.due_model.specs.declared.config.Range.{Range}
use Rattle.due_model.specs.claims.Days.{class_of, names_day, ranges_on}
use Rattle.due_model.specs.claims.Limits.{day}
use Rattle.due_model.specs.claims.Local.{Local}
use Rattle.due_model.specs.claims.Periods.{in_range}
use Rattle.time_period.specs.Classes.{IsLeast}
use Rattle.time_period.specs.Days.{IsDayOf}
use Rattle.time_period.specs.claims.Ranges.{in_ranges}
use Rattle.time_period.specs.Ranges.{IsDay}
use Rattle.time_period.specs.Steps.{AreMerged, AreMergedLines, IsMerged}
use Rattle.time_period.proofs.ClassLemmas.{day-by-class}

-- a day that is made of ranges alone
pub is-merged : (ranges merged : List Range) → IsDayOf (in_ranges ranges) merged → IsMerged ranges merged
is-merged ranges merged is = record { is_day = is.is_day; alike = is.alike }

-- ---- days

pub merged-more : (rs ms : List (List Range)) (r m : List Range) → AreMerged rs ms → IsMerged r m → AreMerged (rs ++ r ∷ []) (ms ++ m ∷ [])
merged-more [] [] r m are is = (is, tt)
merged-more [] (x ∷ xs) r m are is = absurd are
merged-more (y ∷ ys) [] r m are is = absurd are
merged-more (y ∷ ys) (x ∷ xs) r m are is = (are.0, merged-more ys xs r m are.1 is)

pub all-days : (rs ms : List (List Range)) → AreMerged rs ms → All IsDay ms
all-days [] [] are = All-nil IsDay
all-days [] (m ∷ ms) are = absurd are
all-days (r ∷ rs) [] are = absurd are
all-days (r ∷ rs) (m ∷ ms) are = All-cons IsDay m ms are.0.is_day (all-days rs ms are.1)

pub day-alike : (rs ms : List (List Range)) → AreMerged rs ms → (weekday second : ℕ) → second < day → in_ranges (get_or ms weekday []) second ≡ in_ranges (get_or rs weekday []) second
day-alike [] [] are weekday second within = refl
day-alike [] (m ∷ ms) are weekday second within = absurd are
day-alike (r ∷ rs) [] are weekday second within = absurd are
day-alike (r ∷ rs) (m ∷ ms) are zero second within = are.0.alike second within
day-alike (r ∷ rs) (m ∷ ms) are (suc weekday) second within = day-alike rs ms are.1 weekday second within

pub weekly-is : (days : List (List Range)) (weekday : ℕ) → elim (slice_get days weekday) as (λ _. List Range) [ None ↦ [] | Some ranges ↦ ranges ] ≡ get_or days weekday []
weekly-is [] weekday = refl
weekly-is (d ∷ ds) zero = refl
weekly-is (d ∷ ds) (suc weekday) = weekly-is ds weekday

-- ---- dated lines

pub lines-more : (rs ms : List Dated) (r m : Dated) → AreMergedLines rs ms → m.day ≡ r.day → IsMerged r.ranges m.ranges → AreMergedLines (rs ++ r ∷ []) (ms ++ m ∷ [])
lines-more [] [] r m are same is = (same, is, tt)
lines-more [] (x ∷ xs) r m are same is = absurd are
lines-more (y ∷ ys) [] r m are same is = absurd are
lines-more (y ∷ ys) (x ∷ xs) r m are same is = (are.0, are.1, lines-more ys xs r m are.2 same is)

pub all-lines : (rs ms : List Dated) → AreMergedLines rs ms → All (λ line. IsDay line.ranges) ms
all-lines [] [] are = All-nil (λ line. IsDay line.ranges)
all-lines [] (m ∷ ms) are = absurd are
all-lines (r ∷ rs) [] are = absurd are
all-lines (r ∷ rs) (m ∷ ms) are = All-cons (λ line. IsDay line.ranges) m ms are.1.is_day (all-lines rs ms are.2)

-- a line of the one list has its like in the other
like-in : (rs ms : List Dated) → AreMergedLines rs ms → (r : Dated) → Contains rs r → (m : Dated) × Contains ms m × (m.day ≡ r.day)
like-in [] ms are r at = absurd (Contains-none r at)
like-in (x ∷ xs) [] are r at = absurd are
like-in (x ∷ xs) (y ∷ ys) are r at = by_case (λ later. like-in xs ys are.2 r later) (Contains-cases x r xs at)
  where
    by_case : (Contains xs r → (m : Dated) × Contains ys m × (m.day ≡ r.day)) → (x ≡ r) ⊎ Contains xs r → (m : Dated) × Contains (y ∷ ys) m × (m.day ≡ r.day)
    by_case rest (inl here) = (y, Contains-here y ys, are.0 ∙ ap (λ (d : Dated). d.day) here)
    by_case rest (inr later) = let more = rest later in (more.0, Contains-later y more.0 ys more.1, more.2)

like-out : (rs ms : List Dated) → AreMergedLines rs ms → (m : Dated) → Contains ms m → (r : Dated) × Contains rs r × (m.day ≡ r.day)
like-out rs [] are m at = absurd (Contains-none m at)
like-out [] (y ∷ ys) are m at = absurd are
like-out (x ∷ xs) (y ∷ ys) are m at = by_case (λ later. like-out xs ys are.2 m later) (Contains-cases y m ys at)
  where
    by_case : (Contains ys m → (r : Dated) × Contains xs r × (m.day ≡ r.day)) → (y ≡ m) ⊎ Contains ys m → (r : Dated) × Contains (x ∷ xs) r × (m.day ≡ r.day)
    by_case rest (inl here) = (x, Contains-here x xs, sym (ap (λ (d : Dated). d.day) here) ∙ are.0)
    by_case rest (inr later) = let more = rest later in (more.0, Contains-later x more.0 xs more.1, more.2)

least-like : (rs ms : List Dated) (time : Local) (class : ℕ) → AreMergedLines rs ms → IsLeast (λ line. names_day time line.day) ms class → IsLeast (λ line. names_day time line.day) rs class
least-like rs ms time class are least = record {
  low = λ r at is. let m = like-in rs ms are r at in
      subst (λ d. class ≤ class_of d) m.2 (least.low m.0 m.1 (ap (names_day time) m.2 ∙ is));
  is = by_is least.is;
}
  where
    by_is : (class ≡ 6) ⊎ ((m : Dated) × Contains ms m × (names_day time m.day ≡ true) × (class_of m.day ≡ class))
        → (class ≡ 6) ⊎ ((r : Dated) × Contains rs r × (names_day time r.day ≡ true) × (class_of r.day ≡ class))
    by_is (inl none) = inl none
    by_is (inr (m, at, is, same)) = let r = like-out rs ms are m at in inr (r.0, r.1, ap (names_day time) (sym r.2) ∙ is, ap class_of (sym r.2) ∙ same)

lines-alike : (rs ms : List Dated) (time : Local) (class second : ℕ) → second < day → AreMergedLines rs ms
    → list_any (λ line. (class_of line.day == class && names_day time line.day) && in_ranges line.ranges second) ms
    ≡ list_any (λ line. (class_of line.day == class && names_day time line.day) && in_ranges line.ranges second) rs
lines-alike [] [] time class second within are = refl
lines-alike [] (m ∷ ms) time class second within are = absurd are
lines-alike (r ∷ rs) [] time class second within are = absurd are
lines-alike (r ∷ rs) (m ∷ ms) time class second within are =
    ap₂ (λ a b. a || b)
    (ap₂ (λ d b. (class_of d == class && names_day time d) && b) are.0 (are.1.alike second within))
    (lines-alike rs ms time class second within are.2)

-- the ranges of a day hold the same seconds
pub own-alike : (weekly merged : List Range) (dated lines : List Dated) (time : Local) (class : ℕ) → time.second < day → IsLeast (λ line. names_day time line.day) lines class
    → AreMergedLines dated lines → in_ranges merged time.second ≡ in_ranges weekly time.second
    → in_ranges (ranges_on merged lines time) time.second ≡ in_ranges (ranges_on weekly dated time) time.second
own-alike weekly merged dated lines time class within least are same =
    day-by-class lines time class least (in_range time.second) merged
    ∙ ap₂ (λ a b. cond (nat_lt class 6) a b) (lines-alike dated lines time class time.second within are) same
    ∙ sym (day-by-class dated time class (least-like dated lines time class are least) (in_range time.second) weekly)
