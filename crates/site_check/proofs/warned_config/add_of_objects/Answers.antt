use Rattle.std.proofs.Common.{length}
use Rattle.site_check.specs.Warnings.{of_dead, of_objects, of_silent, of_without_problems}
use Rattle.site_check.proofs.CountLemmas.{three-more}
use Rattle.site_check.proofs.warned_config.add_of_objects.Goals as goal

pub returns : goal.returns
unfolding of_objects
returns c =
    three-more (length c.args.warned.now.items) (length c.add_silent.new.warned.items) (length c.add_without_problems.new.warned.items) (length c.add_dead.new.warned.items)
    (of_silent c.args.form c.args.config.now) (of_without_problems c.args.form c.args.config.now) (of_dead c.args.form c.args.config.now)
    c.in_ok-add_silent.ensures c.in_ok-add_without_problems.ensures c.in_ok-add_dead.ensures
