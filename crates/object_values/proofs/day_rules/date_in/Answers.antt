use Rattle.std.proofs.Common.{◌∙◌, ap}
use Rattle.object_values.specs.claims.DayRules.{part_in, year_in}
use Rattle.object_values.proofs.DayRuleLemmas.{date-parts}
use Rattle.object_values.proofs.day_rules.date_in.Goals as goal

pub returns : goal.returns
returns c =
    date-parts c.args.text.now c.after-rest.result.now c.year_in-year.result c.part_in-month.result c.part_in-day.result
    c.after-rest.ensures
    (c.year_in-year.ensures ∙ ap year_in c.before-first.ensures)
    (c.part_in-month.ensures ∙ ap (part_in 12) c.before-second.ensures)
    (c.part_in-day.ensures ∙ ap (part_in 31) c.after-last.ensures)
    c.date_of.result c.date_of.ensures
