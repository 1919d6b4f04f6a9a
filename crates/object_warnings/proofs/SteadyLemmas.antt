-- Moments between which no range begins or ends.
use Rattle.std.proofs.Common.{◌≡◌, ℕ, zero, suc, Bool, false, not, ◌&&◌, List, length, map, All, Option, Some, None, refl, sym, ap, ap₂, subst, ◌∙◌}
use Rattle.std.specs.Prelude.{slice_get}
use Rattle.std.specs.List.{list_any, range_with_len}
use Rattle.std.proofs.lemmas.List.Elements.{All-map}
use Rattle.lemmas.proofs.Lists.{All-slice_get}
use Rattle.due_model.specs.claims.Days.{lines_on, ranges_by}
use Rattle.due_model.specs.claims.Local.{Local, local, weekday_at}
use Rattle.due_model.specs.claims.Periods.{holds, in_range, ranges_at, weekly_ranges}
use Rattle.due_model.specs.declared.config.Config.{Config}
use Rattle.due_model.specs.declared.config.Dated.{Dated}
use Rattle.due_model.specs.declared.config.Period.{Period}
use Rattle.due_model.specs.declared.config.PeriodId.{PeriodId}
use Rattle.due_model.specs.declared.zone.Zone.{Zone}
use Rattle.due_model.specs.declared.zone.Zone.TheVariants.{Utc}
use Rattle.object_warnings.specs.Hours.{IsUndated, flags_at, moment_of, plain, weekly}
use Rattle.object_warnings.specs.Steady.{IsSteady, Keeps}

-- without dated lines the ranges are the weekday's
undated-ranges : (period : Period) (time : Local) → IsUndated period → ranges_at period time ≡ weekly_ranges period (weekday_at time)
undated-ranges period time none = ap (λ (dated : List Dated). ranges_by (weekly_ranges period (weekday_at time)) (lines_on dated time)) none

module _ (periods : List Period) (one other : Local) (undated : All IsUndated periods) (same : weekday_at one ≡ weekday_at other)
    (own : All (Keeps (weekday_at other) one.second other.second) periods) where
  own-same : (period : Period) (number : ℕ) → slice_get periods number ≡ Some period
      → list_any (in_range one.second) (ranges_at period one) ≡ list_any (in_range other.second) (ranges_at period other)
  own-same period number here =
      ap (list_any (in_range one.second)) (undated-ranges period one (All-slice_get IsUndated periods number period undated here) ∙ ap (weekly_ranges period) same)
      ∙ All-slice_get (Keeps (weekday_at other) one.second other.second) periods number period own here
      ∙ sym (ap (list_any (in_range other.second)) (undated-ranges period other (All-slice_get IsUndated periods number period undated here)))

  holds-found : (depth number : ℕ) (found : Option Period) → ((n : ℕ) → holds depth periods n one ≡ holds depth periods n other) → slice_get periods number ≡ found
      → (elim found as (λ _. Bool) [
        | None ↦ false
        | Some period ↦ list_any (in_range one.second) (ranges_at period one) && not (list_any (λ excluded. holds depth periods excluded.0 one) period.excludes)
      ])
      ≡ (elim found as (λ _. Bool) [
        | None ↦ false
        | Some period ↦ list_any (in_range other.second) (ranges_at period other) && not (list_any (λ excluded. holds depth periods excluded.0 other) period.excludes)
      ])
  holds-found depth number None before here = refl
  holds-found depth number (Some period) before here =
      ap₂ (λ (own_one others : Bool). own_one && not others) (own-same period number here)
      (ap (λ (test : PeriodId → Bool). list_any test period.excludes) (λ i excluded. before excluded.0 i))

  pub holds-same : (depth number : ℕ) → holds depth periods number one ≡ holds depth periods number other
  holds-same zero number = refl
  holds-same (suc depth) number = holds-found depth number (slice_get periods number) (holds-same depth) refl

-- the flags of two such moments
pub flags-same : (c : Config) (plain_periods : List Period) (minute before : ℕ) (zone : Zone) (one other : ℕ) → zone ≡ Utc → c.periods ≡ plain_periods → All IsUndated plain_periods
    → one ≡ moment_of before → other ≡ moment_of minute → IsSteady plain_periods zone one other → flags_at c before ≡ flags_at c minute
flags-same c plain_periods minute before zone one other zone_is periods_are undated one_is other_is steady =
    let undated_too : All IsUndated c.periods = subst (All IsUndated) (sym periods_are) undated in
    let moved : IsSteady c.periods Utc (moment_of before) (moment_of minute) =
    subst (λ (z : Zone). IsSteady c.periods z (moment_of before) (moment_of minute)) zone_is
    (subst (λ (t : ℕ). IsSteady c.periods zone t (moment_of minute)) one_is
    (subst (λ (t : ℕ). IsSteady c.periods zone one t) other_is
    (subst (λ (ps : List Period). IsSteady ps zone one other) (sym periods_are) steady))) in
    ap (λ (f : ℕ → Bool). map f (range_with_len 0 (length c.periods)))
    (λ i number. holds-same c.periods (local Utc (moment_of before)) (local Utc (moment_of minute)) undated_too moved.weekday moved.own (length c.periods) number i)

-- what is told of seconds and weekdays that are the clock's
pub steady-is : (periods : List Period) (zone : Zone) (one other day_one day_other second_one second_other : ℕ) → day_one ≡ weekday_at (local zone one) → day_other ≡ weekday_at (local zone other)
    → second_one ≡ (local zone one).second → second_other ≡ (local zone other).second → day_one ≡ day_other → All (Keeps day_other second_one second_other) periods → IsSteady periods zone one other
steady-is periods zone one other day_one day_other second_one second_other day_one_is day_other_is one_is other_is same own = record {
  weekday = sym day_one_is ∙ same ∙ day_other_is;
  own = subst (λ (day : ℕ). All (Keeps day (local zone one).second (local zone other).second) periods) day_other_is
      (subst (λ (second : ℕ). All (Keeps day_other second (local zone other).second) periods) one_is
      (subst (λ (second : ℕ). All (Keeps day_other second_one second) periods) other_is own));
}

-- copies without dated lines
pub weekly-undated : (c : Config) → All IsUndated (weekly c).periods
weekly-undated c = All-map IsUndated plain c.periods (λ i d within. refl)
