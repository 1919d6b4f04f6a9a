use Rattle.std.proofs.Common.{List, Option, subst, sym}
use Rattle.std.specs.Prelude.{IfSome}
use Rattle.due_model.specs.declared.config.PeriodId.{PeriodId}
use Rattle.object_warnings.specs.Hours.{AreKnown, IsFirst, gap_by, row_at}
use Rattle.object_warnings.specs.declared.hours.Span.{Span}
use Rattle.object_warnings.proofs.known_spans.span_of.Goals as goal

pub returns-in-Some-clause-first : goal.returns-in-Some-clause-first
returns-in-Some-clause-first c =
    subst (λ (hours : List (Option PeriodId)). IsFirst (λ minute. gap_by (row_at c.args.all.now minute) c.args.period hours) c.in-Some.span) c.as_slice-3.ensures.value
    (subst (λ (found : Option (Option Span)). IfSome found (IsFirst (λ minute. gap_by (row_at c.args.all.now minute) c.args.period c.as_slice-3.result.now))) c.in-Some.is
    (c.found.ensures c.args.all.now (subst (AreKnown c.args.all.now) (sym c.as_slice-2.ensures.value) c.requires)))
