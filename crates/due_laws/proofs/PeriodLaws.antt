-- When a period of an accepted configuration holds: as the definition says, but with no depth.
use Rattle.std.proofs.Common.{◌≡◌, ◌↔◌, ℕ, zero, suc, ◌<◌, ◌≤◌, Bool, true, false, not, ◌&&◌, nat_le, nat_lt, List, length, slice_get, All, Any, Option, None, Some, refl, sym, ap, ◌∙◌, arith, leb-true, ltb-true, le-leb, lt-ltb}
use Rattle.std.specs.List.{list_any}
use Rattle.std.proofs.lemmas.Bool.{and_parts, and_from}
use Rattle.std.proofs.lemmas.List.Elements.{All-contains, All-from_recursion}
use Rattle.std.proofs.lemmas.List.Folds.{Any-from_list_any, list_any-from_Any, list_any_none}
use Rattle.std.proofs.lemmas.Option.{slice_get_within}
use Rattle.due_model.specs.declared.config.Config.{Config}
use Rattle.due_model.specs.declared.config.Period.{Period}
use Rattle.due_model.specs.declared.config.PeriodId.{PeriodId}
use Rattle.due_model.specs.declared.config.Range.{Range}
use Rattle.due_model.specs.declared.zone.Zone.{Zone}
use Rattle.due_model.specs.claims.Accepted.{Chain, Excludes, IsAccepted, PeriodFits}
use Rattle.due_model.specs.claims.Local.{Local, local}
use Rattle.due_model.specs.claims.Periods.{holds, in_period, in_range, ranges_at}
use Rattle.lemmas.proofs.Lists.{any_alike, All-slice_get}
use Rattle.due_laws.specs.Periods.{HoldsByRanges}
use Rattle.lemmas.proofs.Dependencies.{each_fails}
use Rattle.due_laws.proofs.ShortChains.{short}

-- what a period's definition says of it, where `inner` says which periods hold
abbrev holds_by : (PeriodId → Bool) → Local → Period → Bool
holds_by inner time period = list_any (in_range time.second) (ranges_at period time) && not (list_any inner period.excludes)

abbrev holds_if : (PeriodId → Bool) → Local → Option Period → Bool
holds_if inner time None = false
holds_if inner time (Some period) = holds_by inner time period

module _ (c : Config) (time : Local) where
  same_found : (d p : ℕ) → ((x : ℕ) → ((q : ℕ) → Chain (Excludes c) d x q → ⊥) → holds d c.periods x time ≡ holds (suc d) c.periods x time)
      → ((q : ℕ) → Chain (Excludes c) (suc d) p q → ⊥) → (found : Option Period) → slice_get c.periods p ≡ found
      → holds_if (λ q. holds d c.periods q.0 time) time found ≡ holds_if (λ q. holds (suc d) c.periods q.0 time) time found
  same_found d p further none None is = refl
  same_found d p further none (Some period) is =
      ap (λ b. list_any (in_range time.second) (ranges_at period time) && not b)
      (any_alike (λ q. holds d c.periods q.0 time) (λ q. holds (suc d) c.periods q.0 time) period.excludes
      (λ x found. further x.0 (λ q chain. none q (x.0, (period, is, found), chain))))

  -- one depth more says the same, where no chain of exclusions goes so deep
  same_depth : (d p : ℕ) → ((q : ℕ) → Chain (Excludes c) d p q → ⊥) → holds d c.periods p time ≡ holds (suc d) c.periods p time
  same_depth zero p none = absurd (none p refl)
  same_depth (suc d) p none = same_found d p (same_depth d) none (slice_get c.periods p) refl

  module _ (accepted : IsAccepted c) where
    from_below : (p q : ℕ) → Excludes c p q → p < length c.periods
    from_below p q h = slice_get_within c.periods p h.0 h.1

    to_below : (p q : ℕ) → Excludes c p q → q < length c.periods
    to_below p q h =
        let fits : PeriodFits c h.0 = All-slice_get (PeriodFits c) c.periods p h.0 accepted.periods h.1 in
        All-contains (λ (x : PeriodId). x.0 < length c.periods) h.0.excludes (record { 0 = q }) fits.excludes h.2

    -- a period that another excludes is found with one depth less
    same_excluded : (d p x : ℕ) → length c.periods ≡ suc d → Excludes c p x → holds d c.periods x time ≡ holds (suc d) c.periods x time
    same_excluded d p x n step =
        same_depth d x (λ q chain. absurd (omega (arith, n, short (Excludes c) (length c.periods) from_below to_below accepted.no_period_loop d p q (x, step, chain))))

    with_depth : (n p : ℕ) (period : Period) → length c.periods ≡ n → slice_get c.periods p ≡ Some period
        → holds n c.periods p time ≡ holds_by (λ q. holds n c.periods q.0 time) time period
    with_depth zero p period n at = let within = slice_get_within c.periods p period at in absurd (omega (arith, n, within))
    with_depth (suc d) p period n at =
        ap (holds_if (λ q. holds d c.periods q.0 time) time) at
        ∙ ap (λ b. list_any (in_range time.second) (ranges_at period time) && not b)
        (any_alike (λ q. holds d c.periods q.0 time) (λ q. holds (suc d) c.periods q.0 time) period.excludes
        (λ x found. same_excluded d p x.0 n (period, at, found)))

-- a range has a second where the test says so
range_from : (s : ℕ) (ranges : List Range) → list_any (in_range s) ranges ≡ true → Any (λ range. (range.start ≤ s) × (s < range.end)) ranges
range_from s ranges h =
    let (k, range, within, at, test) = Any-from_list_any (in_range s) ranges h in
    let parts = and_parts (nat_le range.start s) (nat_lt s range.end) test in
    (k, range, within, at, (leb-true range.start s parts.0, ltb-true s range.end parts.1))

range_to : (s : ℕ) (ranges : List Range) → Any (λ range. (range.start ≤ s) × (s < range.end)) ranges → list_any (in_range s) ranges ≡ true
range_to s ranges (k, range, within, at, (low, high)) =
    list_any-from_Any (in_range s) ranges (k, range, within, at, and_from (nat_le range.start s) (nat_lt s range.end) (le-leb range.start s low) (lt-ltb s range.end high))

none_from : {X : Type 0} (test : X → Bool) (xs : List X) → list_any test xs ≡ false → All (λ x. test x ≡ false) xs
none_from test xs h = All-from_recursion (λ x. test x ≡ false) xs (each_fails test xs h)

pub holds_by_ranges : (c : Config) (zone : Zone) (p : PeriodId) (period : Period) (t : ℕ) → IsAccepted c → slice_get c.periods p.0 ≡ Some period
    → (in_period c zone (Some p) t ≡ true) ↔ HoldsByRanges c zone t period
holds_by_ranges c zone p period t accepted at =
    let time = local zone t in
    let inner : PeriodId → Bool = λ q. in_period c zone (Some q) t in
    let ranges = ranges_at period time in
    let same : in_period c zone (Some p) t ≡ holds_by inner time period = with_depth c time accepted (length c.periods) p.0 period refl at in (
      λ h.
          let parts = and_parts (list_any (in_range time.second) ranges) (not (list_any inner period.excludes)) (sym same ∙ h) in
          record { in_a_range = range_from time.second ranges parts.0; not_excluded = none_from inner period.excludes (false_from_not (list_any inner period.excludes) parts.1) },
      λ h. same ∙ and_from (list_any (in_range time.second) ranges) (not (list_any inner period.excludes)) (range_to time.second ranges h.in_a_range)
          (ap not (list_any_none inner period.excludes h.not_excluded)),
    )
  where
    false_from_not : (b : Bool) → not b ≡ true → b ≡ false
    false_from_not true e = sym e
    false_from_not false e = refl
