use Rattle.std.proofs.Common.{◌∙◌, List, ap}
use Rattle.std.proofs.lemmas.Result.{IfOk-weaker}
use Rattle.object_groups.specs.claims.Groups.{object_kind}
use Rattle.object_groups.specs.Groups.{GroupsOf}
use Rattle.object_groups.specs.claims.Objects.{names_in, objects_in}
use Rattle.object_groups.specs.Objects.{ObjectsOf}
use Rattle.object_reader.specs.declared.block.Block.{Block}
use Rattle.object_reader.specs.declared.block.BlockKind.TheVariants.{Host}
use Rattle.object_pairs.proofs.UnknownLemmas.{column_of, of-blocks}
use Rattle.object_pairs.proofs.unknown.first_unknown_member.Goals as goal

pub returns-clause-first : goal.returns-clause-first
returns-clause-first c =
    let blocks = c.args.templates.now in
    let hosts_are = ap (λ (g : GroupsOf). names_in g.blocks (object_kind g.kind)) c.requires.hosts ∙ ap (λ (bs : List Block). names_in bs Host) c.requires.services in
    IfOk-weaker c.first_lacking.result _ _
    (λ first is. of-blocks blocks c.args.services.now c.in_ok-groups.groups c.names.result.now c.names-2.result.now c.in_ok-values.values c.places.result.now
    c.in_ok-wanted.wanted.keys c.in_ok-found.found.keys first
    c.requires.services c.in_ok-groups.ensures
    (c.names.ensures.names ∙ ap (λ (o : ObjectsOf). names_in o.blocks o.kind) c.objects.ensures ∙ hosts_are)
    (c.names-2.ensures.names ∙ ap (λ (o : ObjectsOf). names_in o.blocks o.kind) c.objects-2.ensures
    ∙ ap (λ (g : GroupsOf). names_in g.blocks (object_kind g.kind)) c.in_ok-found.ensures.same ∙ hosts_are)
    (c.in_ok-values.ensures ∙ ap (column_of blocks) c.as_bytes.ensures.value)
    (c.places.ensures.places ∙ ap (λ (o : ObjectsOf). objects_in o.blocks o.kind) c.in_ok-groups.ensures)
    c.in_ok-found.ensures.found c.in_ok-wanted.ensures is)
    c.first_lacking.ensures
