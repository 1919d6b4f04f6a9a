use Rattle.std.proofs.Common.{arith}
use Rattle.object_groups.specs.SharedLaws.{shared-same}
use Rattle.object_service_groups.proofs.MemberLemmas.{lists-lead}
use Rattle.object_service_groups.proofs.members.push_members.Goals as goal

pub lefts_of-requires : goal.lefts_of-requires
lefts_of-requires c = shared-same _ _ c.in_ok-shared.shared.lists.items c.as_slice-lists.result.now c.as_slice-lists.ensures.value c.in_ok-shared.ensures.shared

pub push_inner-requires-clause-shared : goal.push_inner-requires-clause-shared
push_inner-requires-clause-shared c = shared-same _ _ c.in_ok-shared.shared.lists.items c.as_slice-lists.result.now c.as_slice-lists.ensures.value c.in_ok-shared.ensures.shared

pub returns : goal.returns
returns c =
    lists-lead c.args.hosts.now c.args.services.now _ _ c.args.places.now c.in_ok-shared.shared.parts.items c.in_ok-shared.shared.lists.items c.args.count c.in_ok-shared.ensures c.requires.services
    c.args.edges.now.items c.push_tops.new.edges.items c.push_inner.new.edges.items c.as_slice-lists.result.now c.args.first c.saturating_add-next.result c.requires.groups c.requires.within
    c.as_slice-lists.ensures.value c.in_ok-push_tops.ensures c.in_ok-push_inner.ensures (omega (arith, c.saturating_add-next.ensures, c.if-next.false))
