use Rattle.std.proofs.Common.{Bor, List, None, ap, ◌∙◌, ℕ}
use Rattle.object_groups.specs.declared.shared.SharedList.{SharedList}
use Rattle.object_service_groups.specs.Pairs.{left_over}
use Rattle.object_service_groups.proofs.MemberLemmas.{lefts-before, lefts-on}
use Rattle.object_service_groups.proofs.members.lefts_of.Goals as goal
use Rattle.object_values.specs.Values.{texts}

pub left_before-before-requires : goal.left_before-before-requires
left_before-before-requires c =
    let none : SharedList = record { place = 0; before = None } in
    lefts-before _ _ c.args.lists.now c.requires c.loop-list.list-index none c.loop-list.lefts.items c.as_slice.result.now
    c.loop-list-test.true c.loop-list.invariant c.as_slice.ensures.value

pub loop-list-preserved : goal.loop-list-preserved
loop-list-preserved c =
    let none : SharedList = record { place = 0; before = None } in
    lefts-on _ _ c.args.lists.now c.requires c.loop-list.list-index none c.loop-list.lefts.items c.push.new.self.items c.as_slice.result.now _ _ _ _
    c.loop-list-test.true c.loop-list.invariant c.as_slice.ensures.value c.left_before-before.ensures c.in_ok-own.ensures c.in_ok-entries.ensures
    (c.left_over.ensures ∙ ap (λ (entries : List (Bor (List ℕ))). left_over (texts entries)) c.as_slice-in-loop-list.ensures.value) c.in_ok-push.ensures.items
