use Rattle.object_groups.proofs.GroupLemmas.{ends-more}
use Rattle.object_groups.proofs.groups.push_group_ends.Goals as goal

pub loop-group-preserved : goal.loop-group-preserved
loop-group-preserved c =
    ends-more c.args.objects.now c.args.groups.now c.len-first.result c.len.result c.loop-group.group c.args.edges.now.items c.loop-group.edges.items c.push.new.self.items _
    c.len-first.ensures c.len.ensures c.loop-group.invariant c.in_ok-push.ensures.items c.in_ok-push-2.ensures.items
