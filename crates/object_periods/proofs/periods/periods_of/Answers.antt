use Rattle.std.proofs.Common.{◌≡◌, ◌<◌, ◌∙◌, List, Some, ap, arith, get_or, length, subst, sym, ℕ}
use Rattle.std.specs.Prelude.{slice_get}
use Rattle.std.proofs.lemmas.Option.{slice_get-get_or}
use Rattle.object_groups.specs.claims.Objects.{objects_in}
use Rattle.object_groups.specs.Objects.{ObjectsOf}
use Rattle.object_reader.specs.declared.block.Block.{Block}
use Rattle.object_reader.specs.declared.block.BlockKind.TheVariants.{TimePeriod}
use Rattle.object_inheritance.specs.LineSearch.{AreMarks}
use Rattle.object_periods.specs.claims.Periods.{IsPeriodOf}
use Rattle.object_periods.proofs.PeriodLemmas.{periods-more}
use Rattle.object_periods.proofs.periods.periods_of.Goals as goal

pub loop-number-preserved : goal.loop-number-preserved
loop-number-preserved c =
    let blocks = c.args.templates.now in
    let places = objects_in blocks TimePeriod in
    let i = c.loop-number.number in
    let listed : c.places-place-items.result.now ≡ places = c.places-place-items.ensures.places ∙ ap (λ (o : ObjectsOf). objects_in o.blocks o.kind) c.requires in
    let long = ap (λ (ps : List ℕ). length ps) listed in
    let within : i < length places = omega (arith, long, c.loop-number-test.true) in
    let place = get_or c.places-place-items.result.now i 0 in
    let here : slice_get places i ≡ Some place = slice_get-get_or places i 0 within ∙ ap (λ (ps : List ℕ). Some (get_or ps i 0)) (sym listed) in
    record {
      periods = periods-more blocks i place c.loop-number.periods.items c.push.new.self.items c.in_ok-period.period here
          (subst (λ (bs : List Block). IsPeriodOf bs place c.in_ok-period.period) c.in_ok-week.ensures c.in_ok-period.ensures.period)
          c.in_ok-push.ensures.items c.loop-number.invariant.periods;
      marks = subst (λ (bs : List Block). AreMarks bs c.period_at.new.marks) c.in_ok-week.ensures c.in_ok-period.ensures.marks;
    }

pub period_at-requires-clause-marks : goal.period_at-requires-clause-marks
period_at-requires-clause-marks c = subst (λ (bs : List Block). AreMarks bs c.loop-number.marks) (sym c.in_ok-week.ensures) c.loop-number.invariant.marks
