use Rattle.std.proofs.Common.{◌+◌}
use Rattle.graph_rules.specs.Rules.{edge}
use Rattle.graph_rules.proofs.LinkLemmas.{pushed-more}
use Rattle.graph_rules.proofs.edges.push_moved.Goals as goal

pub loop-one-preserved : goal.loop-one-preserved
loop-one-preserved c =
    pushed-more (λ one. edge (c.args.from + one.from) (c.args.to + one.to)) c.args.more.now c.loop-one.one-index (edge 0 0) c.args.edges.now.items c.loop-one.edges.items
    c.push.new.self.items c.loop-one-test.true c.loop-one.invariant c.in_ok-push.ensures.items
