use Rattle.std.proofs.Common.{[], ◌∙◌}
use Rattle.object_warnings.proofs.HourLemmas.{seven}
use Rattle.object_warnings.proofs.week.plain.Goals as goal

pub returns : goal.returns
returns c =
    let same = seven c.args.period.now.days [] c.in_ok-day_at.field-0 c.in_ok-day_at-2.field-0 c.in_ok-day_at-3.field-0 c.in_ok-day_at-4.field-0 c.in_ok-day_at-5.field-0 c.in_ok-day_at-6.field-0 c.in_ok-day_at-7.field-0
    c.requires c.in_ok-day_at.ensures c.in_ok-day_at-2.ensures c.in_ok-day_at-3.ensures c.in_ok-day_at-4.ensures c.in_ok-day_at-5.ensures c.in_ok-day_at-6.ensures c.in_ok-day_at-7.ensures in
    λ i. record { name = (c.in_ok-new.ensures ∙ c.as_slice.ensures) i; days = same i; dated = (c.new-3.ensures ∙ c.new-2.ensures.items) i; excludes = c.in_ok-numbers_of.ensures i }
