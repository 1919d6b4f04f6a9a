use Rattle.std.proofs.Common.{rules}
use Rattle.dependency.proofs.search.Search.new.Goals as goal

pub returns : goal.returns
returns c = search rules
