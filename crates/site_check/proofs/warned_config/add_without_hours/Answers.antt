use Rattle.std.proofs.Common.{◌+◌, List, Option, ap, length, sym, ◌∙◌}
use Rattle.std.specs.Prelude.{count_by, is_some}
use Rattle.object_warnings.specs.declared.hours.Span.{Span}
use Rattle.site_check.proofs.CountLemmas.{hours-more, hours-none}
use Rattle.site_check.proofs.warned_config.add_without_hours.Goals as goal

pub returns-then-is_left_out : goal.returns-then-is_left_out
returns-then-is_left_out c =
    hours-none c.args.form c.args.config.now c.in_ok-spans.spans.items (length c.args.warned.now.items) (sym c.if-is_left_out.ensures) c.in_ok-spans.ensures

pub returns : goal.returns
returns c =
    hours-more c.args.form c.args.config.now c.in_ok-spans.spans.items (length c.args.warned.now.items) _ (sym c.if-is_left_out.ensures) c.in_ok-spans.ensures
    (c.in_ok-add_gaps.ensures ∙ ap (λ (spans : List (Option Span)). length c.args.warned.now.items + count_by is_some spans) c.as_slice.ensures.value)
