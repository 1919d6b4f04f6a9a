use Rattle.std.proofs.Common.{length, rules}
use Rattle.site_check.proofs.CountLemmas.{config-counted}
use Rattle.site_check.proofs.warned_config.warned_of_config.Goals as goal

pub returns : goal.returns
returns c =
    config-counted c.args.form c.args.templates.now _ c.args.config.now (length c.new-warned.result.items) (length c.add_of_blocks.new.warned.items)
    (length c.add_of_templates.new.warned.items) (length c.add_unused.new.warned.items) (length c.add_of_objects.new.warned.items) (length c.add_without_hours.new.warned.items)
    (length c.add_of_periods.new.warned.items) (search rules) (search rules) c.in_ok-add_of_blocks.ensures c.in_ok-add_of_templates.ensures c.in_ok-add_unused.ensures
    c.in_ok-add_of_objects.ensures c.in_ok-add_without_hours.ensures c.in_ok-add_of_periods.ensures
