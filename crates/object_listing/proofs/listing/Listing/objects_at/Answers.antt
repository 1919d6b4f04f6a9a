use Rattle.std.proofs.Common.{◌∙◌, List, ap, subst, ℕ}
use Rattle.object_groups.specs.claims.Groups.{grouping}
use Rattle.object_groups.specs.Groups.{GroupsOf}
use Rattle.object_groups.specs.claims.Members.{IsMember}
use Rattle.object_listing.specs.Listing.{Adds, ListingOf}
use Rattle.object_listing.proofs.ListedLemmas.{all-within, entries-are, group_names-are, listed-are, object_names-are, OfSome, those-are}
use Rattle.object_listing.proofs.listing.Listing.objects_at.Goals as goal
use Rattle.object_values.specs.Values.{texts}

pub returns-clause-objects : goal.returns-clause-objects
returns-clause-objects c =
    let blocks = c.args.self.now.blocks in
    let listing = c.args.self.now.directives in
    let found = c.in_ok-found.found.items in
    let reached = c.in_ok-reached.reached.items in
    let same = ap (λ (l : ListingOf). l.blocks) c.self.view_is in
    those-are blocks listing c.args.place found reached c.push_groups.new.numbers.items c.put_in_order.new.numbers.items
    (listed-are _ _ _ _ found
    (object_names-are blocks listing.kind c.args.groups.now _ _ c.requires c.objects.ensures c.names.ensures.names)
    (ap texts c.as_slice.ensures.value ∙ entries-are blocks c.self.inside.blocks.now c.self.inside.object_directive.now listing.objects c.args.place c.self.inside.objects _ c.self.invariant.objects_are
    same (ap (λ (l : ListingOf). l.directives.objects) c.self.view_is) c.in_ok-named.ensures)
    c.in_ok-found.ensures)
    (listed-are _ _ _ _ reached
    (group_names-are blocks listing.kind c.args.groups.now _ _ c.requires c.groups.ensures c.names-2.ensures.names)
    (ap texts c.as_slice-2.ensures.value ∙ entries-are blocks c.self.inside.blocks.now c.self.inside.group_directive.now listing.groups c.args.place c.self.inside.groups _ c.self.invariant.groups_are
    same (ap (λ (l : ListingOf). l.directives.groups) c.self.view_is) c.in_ok-grouped.ensures)
    c.in_ok-reached.ensures)
    (subst (λ (groups : List ℕ). Adds (OfSome (IsMember (grouping blocks listing.kind)) groups) found c.push_groups.new.numbers.items) c.as_slice-3.ensures.value
    (subst (λ (g : GroupsOf). Adds (OfSome (IsMember (grouping g.blocks g.kind)) c.as_slice-3.result.now) found c.push_groups.new.numbers.items) c.requires c.in_ok-push_groups.ensures.added))
    c.in_ok-put_in_order.ensures.rising c.in_ok-put_in_order.ensures.same

pub returns-clause-within : goal.returns-clause-within
returns-clause-within c = all-within c.args.self.now.blocks c.args.self.now.directives c.args.place c.put_in_order.new.numbers.items (returns-clause-objects c)
