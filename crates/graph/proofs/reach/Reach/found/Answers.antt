use Rattle.std.proofs.Common.{◌<◌, ℕ, take, ap, subst}
use Rattle.std.specs.Prelude.{All}
use Rattle.graph.specs.Reach.{Found}
use Rattle.graph.proofs.ReachLemmas.{IsMarked-all}
use Rattle.graph.proofs.reach.Reach.found.Goals as goal

pub returns-clause-within : goal.returns-clause-within
returns-clause-within c =
    let s = c.self.inside in
    rw c.deref.ensures.value (subst (λ (nodes : ℕ). All (λ q. q < nodes) (take s.count s.queue.items)) (ap (λ (found : Found). found.nodes) c.self.view_is) (IsMarked-all s.marks.items s.stamp (take s.count s.queue.items) c.self.invariant.marked))
