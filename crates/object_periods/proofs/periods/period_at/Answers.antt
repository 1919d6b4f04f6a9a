use Rattle.std.proofs.Common.{◌∙◌, List, ap, map, subst, sym}
use Rattle.due_model.specs.declared.config.PeriodId.{PeriodId}
use Rattle.object_inheritance.specs.LineSearch.{AreMarks}
use Rattle.object_periods.specs.claims.Periods.{AreDatedOf}
use Rattle.object_reader.specs.declared.block.Block.{Block}
use Rattle.object_periods.proofs.PeriodLemmas.{excludes-are, name-is}
use Rattle.object_periods.proofs.periods.period_at.Goals as goal

pub returns-clause-period : goal.returns-clause-period
returns-clause-period c = record {
  name = c.in_ok-name.ensures ∙ c.name.ensures ∙ name-is c.args.week.now c.args.names.now c.args.number c.args.place c.requires.names c.requires.place;
  days = c.in_ok-at.ensures;
  dated = subst (λ (bs : List Block). AreDatedOf bs c.args.place c.in_ok-dated_at.field-0) c.requires.templates c.in_ok-dated_at.ensures.dated;
  excludes = ap (λ (ids : List PeriodId). map (λ id. id.0) ids) c.new-2.ensures ∙ c.in_ok-ids.ensures ∙ c.as_slice.ensures.value
      ∙ excludes-are c.args.week.now c.args.names.now c.args.excludes.now c.args.place c.in_ok-numbers.numbers.items c.requires.names c.requires.excludes c.in_ok-numbers.ensures;
}

pub dated_at-requires : goal.dated_at-requires
dated_at-requires c = subst (λ (bs : List Block). AreMarks bs c.args.marks.now) (sym c.requires.templates) c.requires.marks

pub returns-clause-marks : goal.returns-clause-marks
returns-clause-marks c = subst (λ (bs : List Block). AreMarks bs c.dated_at.new.marks) c.requires.templates c.in_ok-dated_at.ensures.marks
