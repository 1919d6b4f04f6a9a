use Rattle.std.proofs.Common.{arith}
use Rattle.object_groups.proofs.ListLemmas.{lists-lead}
use Rattle.object_groups.specs.SharedLaws.{shared-same}
use Rattle.object_groups.proofs.lists.push_lists.Goals as goal

pub kinds_of-requires : goal.kinds_of-requires
kinds_of-requires c = shared-same _ _ c.in_ok-shared.shared.lists.items c.as_slice-lists.result.now c.as_slice-lists.ensures.value c.in_ok-shared.ensures.shared

pub push_inner-requires-clause-shared : goal.push_inner-requires-clause-shared
push_inner-requires-clause-shared c = shared-same _ _ c.in_ok-shared.shared.lists.items c.as_slice-lists.result.now c.as_slice-lists.ensures.value c.in_ok-shared.ensures.shared

pub returns-clause-edges : goal.returns-clause-edges
returns-clause-edges c =
    lists-lead c.args.names.now _ _ c.args.places.now c.in_ok-shared.shared.parts.items c.in_ok-shared.shared.lists.items c.args.nodes c.in_ok-shared.ensures c.requires.names c.requires.all
    c.args.edges.now.items c.push_tops.new.edges.items c.push_inner.new.edges.items c.as_slice-lists.result.now c.saturating_add-next.result c.requires.lists c.requires.within
    c.as_slice-lists.ensures.value c.in_ok-push_tops.ensures.edges c.in_ok-push_inner.ensures.edges (omega (arith, c.saturating_add-next.ensures, c.if-next.false))
