use Rattle.std.proofs.Common.{refl, ◌∙◌}
use Rattle.day_rules.specs.Dates.{shown}
use Rattle.day_rules.proofs.DateLaws.{fits_is}
use Rattle.day_rules.proofs.calendar_time.CalendarTime.is_named_by.Goals as goal

pub returns : goal.returns
returns c = c.fits.ensures ∙ fits_is c.args.self.date (shown c.args.self) refl c.args.self.weekday c.args.self.of_date c.args.rule
