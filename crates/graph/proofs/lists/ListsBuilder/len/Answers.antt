use Rattle.std.proofs.Common.{arith}
use Rattle.graph.proofs.PushedLemmas.{length-lists}
use Rattle.graph.proofs.lists.ListsBuilder.len.Goals as goal

pub returns : goal.returns
returns g c = rw (← c.self.view_is) (omega (arith, c.self.inside.counts.ok.0, length-lists c.self.inside.counts.len c.self.inside.pushed.items, length-lists))
