use Rattle.std.proofs.Common.{List, subst}
use Rattle.object_reader.specs.declared.block.Block.{Block}
use Rattle.object_resolve.specs.Limits.{AreCounted}
use Rattle.object_resolve.proofs.limits.check_limits.Goals as goal

pub check_counted-requires-clause-counted : goal.check_counted-requires-clause-counted
check_counted-requires-clause-counted c = subst (λ (bs : List Block). AreCounted bs c.in-Ok.hosts) c.requires.services_are (record {
  hosts_are = c.in-Ok.ensures.lists;
  few = c.in-Ok.ensures.few;
  within = c.in-Ok.ensures.keeps;
  nowhere = c.in-Ok.ensures.none;
})
