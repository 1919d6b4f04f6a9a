use Rattle.std.proofs.Common.{◌≡◌, ◌+◌, ◌∙◌, [], List, ap, length, refl, subst, sym, ℕ}
use Rattle.object_groups.specs.declared.groups.GroupKind.TheVariants.{HostGroups}
use Rattle.object_groups.specs.claims.Groups.{object_kind}
use Rattle.object_groups.specs.Groups.{GroupsOf}
use Rattle.object_groups.specs.claims.Objects.{names_in}
use Rattle.object_groups.specs.Objects.{ObjectsOf}
use Rattle.object_reached.specs.Alike.{HaveLists}
use Rattle.object_reached.specs.claims.Listed.{IsDescribed}
use Rattle.object_listing.specs.Listing.{Adds}
use Rattle.object_reader.specs.declared.block.Block.{Block}
use Rattle.object_dependency_loops.specs.Base.{host_count}
use Rattle.object_dependency_loops.proofs.DescribedLemmas.{block-added, block-found, block-is_found, services-few}
use Rattle.object_dependency_loops.proofs.described.push_block.Goals as goal

pub returns-in-Some-clause-added : goal.returns-in-Some-clause-added
returns-in-Some-clause-added c =
    block-found c.args.blocks.now c.args.listing.now.directives c.args.place c.args.node c.args.edges.now.items c.args.links.now.items c.in_ok-others.others c.requires.linked c.requires.place
    (subst (λ (bs : List Block). HaveLists bs c.args.listing.now.directives c.args.place c.in_ok-others.others) c.requires.listing c.in_ok-others.ensures.lists) c.args.nodes.now.entries c.requires.found c.in-Some.old.now c.push.new.self.items (sym c.in-Some.ensures.value) c.in_ok-push.ensures.items

pub described_at-requires : goal.described_at-requires
described_at-requires c = c.requires.hosts ∙ ap (λ (bs : List Block). record { blocks = bs; kind = HostGroups }) (sym c.requires.listing)

pub push_services-requires : goal.push_services-requires
push_services-requires c =
    let hosts : c.len-first.result ≡ host_count c.args.blocks.now =
    c.len-first.ensures ∙ ap (λ (names : List (List ℕ)). length names) c.names.ensures.names ∙ ap (λ (o : ObjectsOf). length (names_in o.blocks o.kind)) c.objects.ensures
    ∙ ap (λ (g : GroupsOf). length (names_in g.blocks (object_kind g.kind))) (c.in_ok-services.ensures.same ∙ c.requires.hosts) in
    services-few c.args.blocks.now c.args.listing.now.directives c.args.place c.len-first.result c.in_ok-services.services.items c.as_slice.result.now c.services.result.now hosts c.services.ensures.services
    (subst (λ (bs : List Block). Adds (IsDescribed bs c.services.result.now c.args.listing.now.directives c.args.place) [] c.in_ok-services.services.items) c.requires.listing c.in_ok-services.ensures.described)
    c.as_slice.ensures.value c.services.ensures.few

pub returns-clause-found : goal.returns-clause-found
returns-clause-found c =
    let hosts : c.len-first.result ≡ host_count c.args.blocks.now =
    c.len-first.ensures ∙ ap (λ (names : List (List ℕ)). length names) c.names.ensures.names ∙ ap (λ (o : ObjectsOf). length (names_in o.blocks o.kind)) c.objects.ensures
    ∙ ap (λ (g : GroupsOf). length (names_in g.blocks (object_kind g.kind))) (c.in_ok-services.ensures.same ∙ c.requires.hosts) in
    block-is_found c.args.blocks.now c.args.listing.now.directives c.args.place c.args.node c.args.edges.now.items c.args.links.now.items c.in_ok-others.others c.requires.linked c.requires.place
    (subst (λ (bs : List Block). HaveLists bs c.args.listing.now.directives c.args.place c.in_ok-others.others) c.requires.listing c.in_ok-others.ensures.lists) c.args.nodes.now.entries c.requires.found (c.args.node + 1) c.len-first.result c.push_services.new.edges.items c.push-2.new.self.items
    c.in_ok-services.services.items c.as_slice.result.now c.services.result.now refl hosts c.services.ensures.services
    (subst (λ (bs : List Block). Adds (IsDescribed bs c.services.result.now c.args.listing.now.directives c.args.place) [] c.in_ok-services.services.items) c.requires.listing c.in_ok-services.ensures.described)
    c.as_slice.ensures.value c.in_ok-push_services.ensures c.in_ok-push-2.ensures.items c.insert.new.self.entries c.in_ok-insert.ensures.updates.0

pub returns-clause-added : goal.returns-clause-added
returns-clause-added c =
    let hosts : c.len-first.result ≡ host_count c.args.blocks.now =
    c.len-first.ensures ∙ ap (λ (names : List (List ℕ)). length names) c.names.ensures.names ∙ ap (λ (o : ObjectsOf). length (names_in o.blocks o.kind)) c.objects.ensures
    ∙ ap (λ (g : GroupsOf). length (names_in g.blocks (object_kind g.kind))) (c.in_ok-services.ensures.same ∙ c.requires.hosts) in
    block-added c.args.blocks.now c.args.listing.now.directives c.args.place c.args.node c.args.edges.now.items c.args.links.now.items c.in_ok-others.others c.requires.linked c.requires.place
    (subst (λ (bs : List Block). HaveLists bs c.args.listing.now.directives c.args.place c.in_ok-others.others) c.requires.listing c.in_ok-others.ensures.lists) c.args.nodes.now.entries c.requires.found (c.args.node + 1) c.len-first.result c.push_services.new.edges.items c.push-2.new.self.items
    c.in_ok-services.services.items c.as_slice.result.now c.services.result.now refl hosts c.services.ensures.services
    (subst (λ (bs : List Block). Adds (IsDescribed bs c.services.result.now c.args.listing.now.directives c.args.place) [] c.in_ok-services.services.items) c.requires.listing c.in_ok-services.ensures.described)
    c.as_slice.ensures.value c.in_ok-push_services.ensures c.in_ok-push-2.ensures.items
