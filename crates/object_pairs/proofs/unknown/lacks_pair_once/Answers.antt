use Rattle.std.proofs.Common.{rules}
use Rattle.object_pairs.proofs.unknown.lacks_pair_once.Goals as goal

pub returns-then-is_marked-clause-lacks : goal.returns-then-is_marked-clause-lacks
returns-then-is_marked-clause-lacks c = search rules
