use Rattle.std.proofs.Common.{length, rules}
use Rattle.site_check.proofs.CountLemmas.{faulty-counted}
use Rattle.site_check.proofs.warned_forms.warned_of_blocks.Goals as goal

pub returns : goal.returns
returns c =
    faulty-counted c.args.form c.args.blocks.now (length c.new-warned.result.items) (length c.add_of_blocks.new.warned.items) (length c.add_if_free.new.warned.items)
    (search rules) c.in_ok-add_of_blocks.ensures c.in_ok-add_if_free.ensures
