use Rattle.std.proofs.Common.{rules}
use Rattle.object_names.proofs.unknown.names_unknown.Goals as goal

pub returns-then-not-is_marked-clause-unknown : goal.returns-then-not-is_marked-clause-unknown
returns-then-not-is_marked-clause-unknown c = search rules

pub returns-clause-unknown : goal.returns-clause-unknown
returns-clause-unknown c = search rules
