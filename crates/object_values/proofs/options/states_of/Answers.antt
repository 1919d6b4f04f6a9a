use Rattle.std.proofs.Common.{rules}
use Rattle.object_values.proofs.options.states_of.Goals as goal

pub returns-in-OfHosts : goal.returns-in-OfHosts
returns-in-OfHosts c = search rules
