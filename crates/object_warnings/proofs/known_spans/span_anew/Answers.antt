use Rattle.std.proofs.Common.{List, Option, subst}
use Rattle.due_model.specs.declared.config.PeriodId.{PeriodId}
use Rattle.object_warnings.specs.Hours.{IsFirst, gap_by, row_at}
use Rattle.object_warnings.proofs.known_spans.span_anew.Goals as goal

pub returns-clause-known : goal.returns-clause-known
returns-clause-known c =
    c.put.ensures c.args.all.now
    (subst (λ (hours : List (Option PeriodId)). IsFirst (λ minute. gap_by (row_at c.args.all.now minute) c.args.period hours) c.first_gap-span.result) c.as_slice.ensures.value c.first_gap-span.ensures)
    c.requires
