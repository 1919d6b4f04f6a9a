-- What an accepted configuration asks of periods.
use Rattle.std.proofs.Common.{◌≡◌, ℕ, suc, ◌<◌, List, [], ◌∷◌, Option, None, length, map, get_or, Some, sym, ap, subst, ◌∙◌, arith}
use Rattle.std.specs.Prelude.{All, Contains, filter_map, slice_get}
use Rattle.std.specs.List.{cons_option}
use Rattle.std.specs.Option.{IfSome}
use Rattle.std.proofs.lemmas.List.{get_or-map, length-map}
use Rattle.std.proofs.lemmas.List.Elements.{All-cons, All-map, All-nil}
use Rattle.std.proofs.lemmas.Option.{slice_get-get_or, slice_get_within}
use Rattle.due_model.specs.claims.Accepted.{Excludes, HasNoLoop, PeriodFits, RangeFits}
use Rattle.due_model.specs.declared.config.Config.{Config}
use Rattle.due_model.specs.declared.config.Dated.{Dated}
use Rattle.due_model.specs.declared.config.Period.{Period}
use Rattle.due_model.specs.declared.config.PeriodId.{PeriodId}
use Rattle.due_model.specs.declared.config.Range.{Range}
use Rattle.lemmas.proofs.Elements.{Contains-map}
use Rattle.lemmas.proofs.Chains.{Chain-map}
use Rattle.object_groups.specs.claims.Objects.{names_in, objects_in}
use Rattle.object_inheritance.specs.claims.Inherited.{value}
use Rattle.object_periods.specs.Laws.{NoLoopIsLeft, PeriodsFit}
use Rattle.object_periods.specs.claims.Loops.{ExcludesNumber}
use Rattle.object_periods.specs.Loops.{HasNoPeriodLoop}
use Rattle.object_periods.specs.claims.Periods.{AreDatedOf, ArePeriodsOf, dated_by, dated_in, excluded_at, line_ranges, ranges_at}
use Rattle.object_periods.proofs.DayLemmas.{line-fits}
use Rattle.object_periods.proofs.ExcludeLemmas.{names-long, numbers-within}
use Rattle.object_reader.specs.declared.block.Block.{Block}
use Rattle.object_reader.specs.declared.block.BlockKind.TheVariants.{TimePeriod}
use Rattle.object_values.specs.claims.DayRules.{day_named}
use Rattle.object_values.specs.declared.day_rules.DayName.{DayName}
use Rattle.object_values.specs.declared.day_rules.DayName.TheVariants.{Day, NoDay, Other}
use Rattle.object_values.specs.claims.Ranges.{weekdays}

-- what holds of the image of each element
unmapped : (n : ℕ) (ids : List PeriodId) → All (λ k. k < n) (map (λ id. id.0) ids) → All (λ id. id.0 < n) ids
unmapped n ids all = λ i d low.
    let is = get_or-map (λ (id : PeriodId). id.0) ids i d 0 low in
    let at = all i 0 (let long = length-map ids (λ (id : PeriodId). id.0) in omega (arith, long, low)) in
    omega (arith, is, at)

-- the ranges of dated lines lie within a day
one-fits : (line : List ℕ × List ℕ) → IfSome (dated_in line) (λ dated. All RangeFits dated.ranges)
one-fits line = by_day (day_named line.0)
  where
    by_day : (day : DayName) → IfSome (dated_by day (line_ranges (Some line.1))) (λ dated. All RangeFits dated.ranges)
    by_day (Day rule) = line-fits (Some line.1)
    by_day NoDay = tt
    by_day Other = tt

all-fit : (lines : List (List ℕ × List ℕ)) → All (λ line. All RangeFits line.ranges) (filter_map dated_in lines)
all-fit [] = All-nil (λ line. All RangeFits line.ranges)
all-fit (line ∷ lines) = by_one (dated_in line) (one-fits line) (all-fit lines)
  where
    by_one : (one : Option Dated) → IfSome one (λ dated. All RangeFits dated.ranges) → All (λ line. All RangeFits line.ranges) (filter_map dated_in lines)
        → All (λ line. All RangeFits line.ranges) (cons_option one (filter_map dated_in lines))
    by_one None fits rest = rest
    by_one (Some dated) fits rest = All-cons (λ line. All RangeFits line.ranges) dated (filter_map dated_in lines) fits rest

module _ (blocks : List Block) (c : Config) (are : ArePeriodsOf blocks c.periods) where
  dated-fit : (place : ℕ) (dated : List Dated) → AreDatedOf blocks place dated → All (λ line. All RangeFits line.ranges) dated
  dated-fit place dated of = subst (λ (all : List Dated). All (λ line. All RangeFits line.ranges) all) (sym of.2) (all-fit of.0)

  -- the block of each period
  abbrev place_of : ℕ → ℕ
  place_of number = get_or (objects_in blocks TimePeriod) number 0

  numbered : (number : ℕ) → number < length c.periods → slice_get (objects_in blocks TimePeriod) number ≡ Some (place_of number)
  numbered number low = slice_get-get_or (objects_in blocks TimePeriod) number 0 (let long = are.count in omega (arith, long, low))

  fits-one : (number : ℕ) (period : Period) → number < length c.periods → slice_get c.periods number ≡ Some period → PeriodFits c period
  fits-one number period low at =
      let is = are.each number (place_of number) period (numbered number low) at in record {
        week = ap (λ (days : List (List Range)). length days) is.days;
        ranges = subst (λ (days : List (List Range)). All (All RangeFits) days) (sym is.days)
            (All-map (All RangeFits) (ranges_at blocks (place_of number)) weekdays (λ i d within. line-fits (value blocks (get_or weekdays i d) (place_of number))));
        dated = dated-fit (place_of number) period.dated is.dated;
        excludes = unmapped (length c.periods) period.excludes (subst (λ (ks : List ℕ). All (λ k. k < length c.periods) ks) (sym is.excludes)
            (subst (λ (n : ℕ). All (λ k. k < n) (excluded_at blocks (place_of number))) (names-long blocks ∙ sym are.count)
            (numbers-within (names_in blocks TimePeriod) _)));
      }

  pub fit : All (PeriodFits c) c.periods
  fit = λ number d low. fits-one number (get_or c.periods number d) low (slice_get-get_or c.periods number d low)

  -- what a period of the configuration excludes, its block does
  excludes-number : (p q : ℕ) → Excludes c p q → ExcludesNumber blocks p q
  excludes-number p q excludes =
      let low = slice_get_within c.periods p excludes.0 excludes.1 in
      let is = are.each p (place_of p) excludes.0 (numbered p low) excludes.1 in
      (place_of p, numbered p low, subst (λ (ks : List ℕ). Contains ks q) is.excludes (Contains-map (λ (id : PeriodId). id.0) excludes.0.excludes (record { 0 = q }) excludes.2))

  pub no-loop : HasNoPeriodLoop blocks → HasNoLoop (Excludes c)
  no-loop none steps p chain =
      let low = slice_get_within c.periods p chain.1.0 chain.1.1 in
      none (place_of p) (p, numbered p low, (steps, Chain-map (Excludes c) (ExcludesNumber blocks) excludes-number (suc steps) p p chain))

pub periods-fit : PeriodsFit
periods-fit blocks c are = fit blocks c are

pub no-loop-left : NoLoopIsLeft
no-loop-left blocks c are none = no-loop blocks c are none
