use Rattle.std.proofs.Common.{rules}
use Rattle.object_warnings.proofs.ToldLemmas.{any-from-none}
use Rattle.object_warnings.proofs.told_hours.hours_of.Goals as goal

pub returns : goal.returns
returns c holds = any-from-none holds _ _ _ (search rules) (c.in_ok-add_all.ensures holds)
