use Rattle.std.proofs.Common.{List, ap, ◌∙◌}
use Rattle.std.proofs.lemmas.Result.{IfOk-weaker}
use Rattle.object_groups.specs.claims.Objects.{objects_in}
use Rattle.object_groups.specs.Objects.{ObjectsOf}
use Rattle.object_reader.specs.declared.block.Block.{Block}
use Rattle.object_reader.specs.declared.block.BlockKind.TheVariants.{Host, Service}
use Rattle.value_places.proofs.OriginLemmas.{origins-same}
use Rattle.value_places.proofs.origins.origins_with.Goals as goal

pub returns : goal.returns
returns c =
    let hosts = c.places-at.ensures.places ∙ ap (λ (o : ObjectsOf). objects_in o.blocks o.kind) c.in_ok-hosts.ensures in
    let services = c.places-places.ensures.places ∙ ap (λ (o : ObjectsOf). objects_in o.blocks o.kind) c.objects.ensures ∙ ap (λ (blocks : List Block). objects_in blocks Service) c.requires in
    IfOk-weaker c.origins_in.result _ _
    (λ origins are. origins-same c.places-at.result.now (objects_in c.args.templates.now Host) c.places-places.result.now (objects_in c.args.templates.now Service) c.args.lists.now origins.items hosts services are)
    c.origins_in.ensures
