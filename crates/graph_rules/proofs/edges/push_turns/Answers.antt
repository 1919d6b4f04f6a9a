use Rattle.std.proofs.Common.{◌+◌}
use Rattle.graph_rules.specs.Rules.{edge}
use Rattle.graph_rules.proofs.LinkLemmas.{pushed-more}
use Rattle.graph_rules.proofs.edges.push_turns.Goals as goal

pub loop-own-preserved : goal.loop-own-preserved
loop-own-preserved c =
    pushed-more (λ own. edge (c.args.from + own) (c.args.to + own)) c.args.nodes.now c.loop-own.own-index 0 c.args.edges.now.items c.loop-own.edges.items
    c.push.new.self.items c.loop-own-test.true c.loop-own.invariant c.in_ok-push.ensures.items
