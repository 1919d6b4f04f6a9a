use Rattle.std.proofs.Common.{◌≡◌, ◌∙◌, List, ap, subst, sym, ℕ}
use Rattle.object_reached.specs.claims.Listed.{of_hosts}
use Rattle.object_reached.specs.Listed.{ServiceListingOf}
use Rattle.object_groups.specs.claims.Objects.{list_at}
use Rattle.object_inheritance.specs.Columns.{Column}
use Rattle.object_listing.specs.claims.Listing.{AreThose, IsListed}
use Rattle.object_listing.specs.Listing.{ListingOf}
use Rattle.object_reached.proofs.ListedLemmas.{described-are}
use Rattle.object_reached.proofs.listing.ServiceListing.described_at.Goals as goal

pub objects_at-requires : goal.objects_at-requires
objects_at-requires c = c.requires ∙ sym (ap (λ (l : ListingOf). record { blocks = l.blocks; kind = l.directives.kind })
    (c.self.invariant.hosts_are ∙ ap (λ (v : ServiceListingOf). record { blocks = v.blocks; directives = of_hosts v.directives }) c.self.view_is))

pub returns-clause-described : goal.returns-clause-described
returns-clause-described c =
    let place = c.args.place in
    let hosts : c.self.inside.hosts ≡ record { blocks = c.args.self.now.blocks; directives = of_hosts c.args.self.now.directives } =
    c.self.invariant.hosts_are ∙ ap (λ (v : ServiceListingOf). record { blocks = v.blocks; directives = of_hosts v.directives }) c.self.view_is in
    let descriptions : c.self.inside.descriptions ≡ record { blocks = c.args.self.now.blocks; directive = c.args.self.now.directives.descriptions } =
    c.self.invariant.descriptions_are ∙ ap (λ (v : ServiceListingOf). record { blocks = v.blocks; directive = v.directives.descriptions }) c.self.view_is in
    described-are c.args.self.now.blocks c.args.services.now c.args.self.now.directives place c.as_slice.result.now c.in_ok-descriptions.descriptions
    c.new-found.result.items c.push_hosts.new.found.items
    (subst (λ (listed : List ℕ). AreThose (IsListed c.args.self.now.blocks (of_hosts c.args.self.now.directives) place) listed) (sym c.as_slice.ensures.value)
    (subst (λ (l : ListingOf). AreThose (IsListed l.blocks l.directives place) c.in_ok-listed.listed.items) hosts c.in_ok-listed.ensures.objects))
    (c.in_ok-descriptions.ensures ∙ c.in_ok-entries.ensures ∙ ap (λ (column : Column). list_at column.blocks column.directive place) descriptions)
    c.new-found.ensures.items
    c.in_ok-push_hosts.ensures
