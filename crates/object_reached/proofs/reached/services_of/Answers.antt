use Rattle.std.proofs.Common.{◌≡◌, ◌+◌, ◌<◌, ◌^◌, ◌∙◌, List, ap, length, subst, sym, ℕ}
use Rattle.std.specs.Prelude.{All}
use Rattle.object_groups.specs.claims.Groups.{object_kind}
use Rattle.object_groups.specs.Groups.{GroupsOf}
use Rattle.object_groups.specs.claims.Objects.{names_in, objects_in}
use Rattle.object_groups.specs.Objects.{ObjectsOf}
use Rattle.object_reader.specs.declared.block.BlockKind.TheVariants.{Host, Service}
use Rattle.object_services.specs.claims.Numbers.{pairs_of}
use Rattle.object_reached.proofs.ReachedLemmas.{hosts-below}
use Rattle.object_reached.proofs.reached.services_of.Goals as goal

pub new-requires : goal.new-requires
new-requires c =
    let count : c.len.result ≡ length (names_in c.args.services.now Host) =
    c.len.ensures ∙ ap (λ (names : List (List ℕ)). length names) c.names.ensures.names ∙ ap (λ (o : ObjectsOf). length (names_in o.blocks o.kind)) c.objects-2.ensures
    ∙ ap (λ (g : GroupsOf). length (names_in g.blocks (object_kind g.kind))) c.requires.hosts in
    subst (λ (n : ℕ). All (All (λ host. host < n)) c.args.lists.now) (sym count)
    (hosts-below c.listed_are_objects.ensures c.args.services.now (objects_in c.args.services.now Service) c.args.lists.now c.requires.lists)

pub returns-clause-services : goal.returns-clause-services
returns-clause-services c = c.in_ok-made.ensures.services
    ∙ ap (λ (names : List (List ℕ)). pairs_of names c.args.lists.now) (c.names-names.ensures.names ∙ ap (λ (o : ObjectsOf). names_in o.blocks o.kind) c.objects.ensures)

pub returns-clause-few : goal.returns-clause-few
returns-clause-few c =
    let count : c.len.result ≡ length (names_in c.args.services.now Host) =
    c.len.ensures ∙ ap (λ (names : List (List ℕ)). length names) c.names.ensures.names ∙ ap (λ (o : ObjectsOf). length (names_in o.blocks o.kind)) c.objects-2.ensures
    ∙ ap (λ (g : GroupsOf). length (names_in g.blocks (object_kind g.kind))) c.requires.hosts in
    subst (λ (n : ℕ). n + length c.in_ok-made.made < 2 ^ 32) count c.in_ok-made.ensures.few
