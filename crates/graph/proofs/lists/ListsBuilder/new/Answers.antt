use Rattle.std.proofs.Common.{rules}
use Rattle.graph.proofs.lists.ListsBuilder.new.Goals as goal

pub returns : goal.returns
returns g c = search rules
