use Rattle.std.proofs.Common.{rules}
use Rattle.object_pairs.proofs.wanted.want_once.Goals as goal

pub returns-then-is_marked-clause-all : goal.returns-then-is_marked-clause-all
returns-then-is_marked-clause-all c = search rules
