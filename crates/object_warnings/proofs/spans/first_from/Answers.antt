use Rattle.std.proofs.Common.{◌≡◌, Bool, false, List, ap, arith, not, refl, sym, true, ◌∙◌}
use Rattle.object_warnings.specs.Hours.{gap_by, row_at}
use Rattle.object_warnings.proofs.HourLemmas.{as-unwanted, as-wanted, minutes-more}
use Rattle.object_warnings.proofs.spans.first_from.Goals as goal

pub returns-then-is_as_wanted-clause-found : goal.returns-then-is_as_wanted-clause-found
returns-then-is_as_wanted-clause-found c within =
    let gap = λ (flags : List Bool). gap_by flags c.args.period c.args.hours.now in
    sym (ap gap c.row.ensures) ∙ sym c.is_gap-gap.ensures ∙ as-wanted c.is_gap-gap.result c.args.wanted true c.if-is_as_wanted.ensures refl

pub loop-minute-preserved : goal.loop-minute-preserved
loop-minute-preserved c =
    let gap = λ (flags : List Bool). gap_by flags c.args.period c.args.hours.now in
    let here : gap (row_at c.args.all.now c.loop-minute.minute) ≡ not c.args.wanted = sym (ap gap c.row.ensures) ∙ sym c.is_gap-gap.ensures
    ∙ as-unwanted c.is_gap-gap.result c.args.wanted false c.if-is_as_wanted.ensures refl in
    record {
      low = omega (arith, c.loop-minute.invariant.low, c.until-minute.ensures.later);
      high = c.until-minute.ensures.within;
      others = minutes-more gap c.args.all.now c.args.from c.loop-minute.minute c.until-minute.result (not c.args.wanted) c.loop-minute.invariant.others here c.until-minute.ensures;
    }
