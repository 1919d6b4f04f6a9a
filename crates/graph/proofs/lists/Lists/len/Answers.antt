use Rattle.std.proofs.Common.{arith}
use Rattle.graph.proofs.PartLemmas.{length-parts}
use Rattle.graph.proofs.lists.Lists.len.Goals as goal

pub returns : goal.returns
returns g c = rw (← c.self.view_is) (omega (arith, length-parts c.self.inside.starts.items c.self.inside.values.items _ c.self.invariant, c.self.inside.starts.ok.0))
