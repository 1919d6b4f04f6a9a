use Rattle.std.proofs.Common.{length}
use Rattle.site_check.specs.Warnings.{of_never, of_periods, of_unknown_zone}
use Rattle.site_check.proofs.CountLemmas.{two-more}
use Rattle.site_check.proofs.warned_config.add_of_periods.Goals as goal

pub returns : goal.returns
unfolding of_periods
returns c =
    two-more (length c.args.warned.now.items) (length c.add_without_zone.new.warned.items) (length c.add_never.new.warned.items)
    (of_unknown_zone c.args.form c.args.config.now) (of_never c.args.form c.args.config.now)
    c.in_ok-add_without_zone.ensures c.in_ok-add_never.ensures
