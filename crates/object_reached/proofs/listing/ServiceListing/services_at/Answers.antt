use Rattle.std.proofs.Common.{◌≡◌, ◌∙◌, List, ap, subst, ℕ}
use Rattle.std.specs.Prelude.{Contains}
use Rattle.object_reached.specs.Listed.{AddsMembers, ServiceListingOf}
use Rattle.object_groups.specs.claims.Names.{numbers_of}
use Rattle.object_groups.specs.claims.Objects.{list_at, names_in}
use Rattle.object_groups.specs.Objects.{ObjectsOf}
use Rattle.object_inheritance.specs.Columns.{Column}
use Rattle.object_reader.specs.declared.block.Block.{Block}
use Rattle.object_reader.specs.declared.block.BlockKind.TheVariants.{ServiceGroup}
use Rattle.object_values.specs.Values.{texts}
use Rattle.object_reached.proofs.ListedLemmas.{those-are}
use Rattle.object_reached.proofs.listing.ServiceListing.services_at.Goals as goal

pub returns-clause-services : goal.returns-clause-services
returns-clause-services c =
    let place = c.args.place in
    let groups : c.self.inside.groups ≡ record { blocks = c.args.self.now.blocks; directive = c.args.self.now.directives.groups } =
    c.self.invariant.groups_are ∙ ap (λ (v : ServiceListingOf). record { blocks = v.blocks; directive = v.directives.groups }) c.self.view_is in
    let names = c.names.ensures.names ∙ ap (λ (o : ObjectsOf). names_in o.blocks o.kind) c.groups.ensures ∙ ap (λ (bs : List Block). names_in bs ServiceGroup) c.requires.groups in
    let named = ap texts c.as_slice.ensures.value ∙ c.in_ok-named.ensures ∙ ap (λ (column : Column). list_at column.blocks column.directive place) groups in
    those-are c.args.self.now.blocks c.args.services.now c.args.self.now.directives place
    c.in_ok-found.found.items c.as_slice-2.result.now c.push_groups.new.numbers.items c.put_in_order.new.numbers.items
    c.in_ok-found.ensures.described
    (c.as_slice-2.ensures.value ∙ c.in_ok-grouped.ensures ∙ ap (λ (ns : List (List ℕ)). numbers_of ns (texts c.as_slice.result.now)) names
    ∙ ap (λ (entries : List (List ℕ)). numbers_of (names_in c.args.self.now.blocks ServiceGroup) entries) named)
    (subst (λ (bs : List Block). AddsMembers bs (Contains c.as_slice-2.result.now) c.in_ok-found.found.items c.push_groups.new.numbers.items) c.requires.groups c.in_ok-push_groups.ensures.added)
    c.in_ok-put_in_order.ensures.rising c.in_ok-put_in_order.ensures.same
