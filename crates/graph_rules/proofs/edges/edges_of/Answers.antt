use Rattle.std.proofs.Common.{refl}
use Rattle.graph_rules.proofs.LinkLemmas.{edges-made}
use Rattle.graph_rules.proofs.edges.edges_of.Goals as goal

pub returns : goal.returns
returns c =
    edges-made c.args.rules.now _ _ _ _ _ c.as_slice.ensures.value c.as_slice-2.ensures.value c.as_slice-3.ensures.value c.as_slice-4.ensures.value c.as_slice-5.ensures.value
    _ refl _ _ _ _ _ _ c.in_ok-edges.ensures.items
    c.in_ok-push_moved.ensures c.in_ok-push_moved-2.ensures c.in_ok-push_turns.ensures c.in_ok-push_back.ensures c.in_ok-push_back-2.ensures
