use Rattle.std.proofs.Common.{rules}
use Rattle.object_dependencies.proofs.pairs.DependencyPairs.count.Goals as goal

pub returns : goal.returns
returns c = search rules
