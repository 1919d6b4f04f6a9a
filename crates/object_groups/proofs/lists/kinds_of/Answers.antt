use Rattle.std.proofs.Common.{None, ap, ◌∙◌}
use Rattle.object_groups.specs.declared.shared.SharedList.{SharedList}
use Rattle.object_values.specs.Values.{texts}
use Rattle.object_groups.proofs.ListLemmas.{kinds-before, kinds-on}
use Rattle.object_groups.proofs.lists.kinds_of.Goals as goal

pub kind_before-before-requires : goal.kind_before-before-requires
kind_before-before-requires c =
    let none : SharedList = record { place = 0; before = None } in
    kinds-before c.args.values.now.blocks c.args.values.now.directive c.args.lists.now c.requires c.loop-list.list-index none c.loop-list.kinds.items c.as_slice.result.now
    c.loop-list-test.true c.loop-list.invariant c.as_slice.ensures.value

pub loop-list-preserved : goal.loop-list-preserved
loop-list-preserved c =
    let none : SharedList = record { place = 0; before = None } in
    kinds-on c.args.values.now.blocks c.args.values.now.directive c.args.lists.now c.requires c.loop-list.list-index none c.loop-list.kinds.items c.push.new.self.items c.as_slice.result.now _ _ _
    c.loop-list-test.true c.loop-list.invariant c.as_slice.ensures.value c.kind_before-before.ensures c.joined_kind.ensures
    (ap texts c.as_slice-in-loop-list.ensures.value ∙ c.in_ok-entries.ensures) c.in_ok-push.ensures.items
