use Rattle.std.proofs.Common.{◌∙◌, ap, not}
use Rattle.std.specs.Prelude.{◌&&◌}
use Rattle.std.proofs.lemmas.Result.{IfOk-weaker}
use Rattle.time_period.specs.Days.{holds_any, in_ranges}
use Rattle.time_period.proofs.made_day.day_of.Goals as goal

pub returns : goal.returns
returns c = IfOk-weaker c.without.result _ _ (λ day is. record {
  is_day = is.is_day;
  alike = λ k in_day. is.alike k in_day
      ∙ ap (λ ranges. in_ranges ranges k && not (holds_any c.args.excludes.now c.args.done.now c.args.weekday k)) c.as_slice.ensures.value
      ∙ ap (λ b. b && not (holds_any c.args.excludes.now c.args.done.now c.args.weekday k)) (c.in_ok-sorted.ensures.alike k in_day);
}) c.without.ensures
