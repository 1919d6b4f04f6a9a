use Rattle.std.proofs.Common.{rules}
use Rattle.graph.proofs.lists.some_values.Goals as goal

pub returns-in_ok-vec-in-Some : goal.returns-in_ok-vec-in-Some
returns-in_ok-vec-in-Some g c = search rules
