use Rattle.object_names.specs.claims.Named.{block_kind}
use Rattle.object_names.specs.declared.named.NamedKind.{NamedKind}
use Rattle.object_groups.specs.Objects.{ObjectsOf}
use Rattle.site_check.specs.Faults.{doubled_in}
use Rattle.site_check.proofs.ListLemmas.{groups-more}
use Rattle.std.proofs.Common.{◌∙◌, ◌++◌, ap}
use Rattle.site_check.proofs.names.push_doubled_among.Goals as goal

pub loop-kind-preserved : goal.loop-kind-preserved
loop-kind-preserved c =
    groups-more (λ (kind : NamedKind). doubled_in c.args.objects.now (block_kind kind)) c.args.kinds.now c.loop-kind.kind-index _ c.args.found.now.items c.loop-kind.found.items _
    c.loop-kind-test.true c.loop-kind.invariant
    (c.in_ok-push_doubled_in.ensures ∙ ap (λ (o : ObjectsOf). c.loop-kind.found.items ++ doubled_in o.blocks o.kind) c.objects.ensures)
