use Rattle.std.proofs.Common.{length}
use Rattle.site_check.specs.Warnings.{of_blocks, of_overridden, of_passed_over, of_unknown}
use Rattle.site_check.proofs.CountLemmas.{three-more}
use Rattle.site_check.proofs.warned.add_of_blocks.Goals as goal

pub returns : goal.returns
unfolding of_blocks
returns c =
    three-more (length c.args.warned.now.items) (length c.add_unknown.new.warned.items) (length c.add_passed_over.new.warned.items) (length c.add_overridden.new.warned.items)
    (of_unknown c.args.form c.args.blocks.now) (of_passed_over c.args.form c.args.blocks.now) (of_overridden c.args.form c.args.blocks.now)
    c.in_ok-add_unknown.ensures c.in_ok-add_passed_over.ensures c.in_ok-add_overridden.ensures
