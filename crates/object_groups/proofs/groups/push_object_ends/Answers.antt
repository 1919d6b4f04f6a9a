use Rattle.std.proofs.Common.{◌≡◌, ◌+◌, arith}
use Rattle.object_groups.specs.Nodes.{all_objects}
use Rattle.object_groups.proofs.GroupLemmas.{object-end-more}
use Rattle.object_groups.proofs.groups.push_object_ends.Goals as goal

pub loop-object-preserved : goal.loop-object-preserved
loop-object-preserved c =
    let same : c.len.result + c.len-2.result ≡ all_objects c.args.objects.now c.args.groups.now = omega (arith, c.len.ensures, c.len-2.ensures) in
    object-end-more (c.len.result + c.len-2.result) (all_objects c.args.objects.now c.args.groups.now) c.loop-object.object c.args.edges.now.items c.loop-object.edges.items _ same
    c.loop-object.invariant c.in_ok-push.ensures.items
