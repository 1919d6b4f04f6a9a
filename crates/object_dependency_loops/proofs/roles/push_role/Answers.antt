use Rattle.std.proofs.Common.{◌∙◌, ap, length, subst, sym, ℕ}
use Rattle.object_listing.specs.claims.Listing.{IsListed}
use Rattle.object_reached.specs.claims.Listed.{of_hosts}
use Rattle.object_reached.specs.Listed.{ServiceListingOf}
use Rattle.object_reached.specs.claims.Roles.{directives_of, host_kind, service_kind}
use Rattle.object_dependency_loops.specs.Described.{Describes, Gathers}
use Rattle.object_dependency_loops.specs.Speech.{AddsSpeech, AreLinked}
use Rattle.object_dependency_loops.proofs.BaseLemmas.{base-over}
use Rattle.object_dependency_loops.proofs.RoleLemmas.{base-linked, places-within, role-over, role-speaks}
use Rattle.object_dependency_loops.proofs.SpeechLemmas.{still-linked}
use Rattle.object_dependency_loops.proofs.roles.push_role.Goals as goal

pub push_hosts-requires-clause-places : goal.push_hosts-requires-clause-places
push_hosts-requires-clause-places c = places-within c.args.blocks.now.blocks (host_kind c.args.reached.now.role) c.args.host_places.now c.requires.host_places

pub push_hosts-requires-clause-linked : goal.push_hosts-requires-clause-linked
push_hosts-requires-clause-linked c =
    let b = c.args.blocks.now in
    base-linked b c.args.firsts c.args.node c.args.edges.now.items c.new-links.result.items c.requires.base c.new-links.ensures.items

pub push_grouped-requires-clause-places : goal.push_grouped-requires-clause-places
push_grouped-requires-clause-places c = places-within c.args.blocks.now.blocks (service_kind c.args.reached.now.role) c.args.service_places.now c.requires.service_places

pub push_grouped-requires-clause-base : goal.push_grouped-requires-clause-base
push_grouped-requires-clause-base c = base-over c.args.blocks.now c.args.firsts c.args.node c.in_ok-next.next c.args.edges.now.items c.push_hosts.new.edges.items c.requires.base c.in_ok-next.ensures.over

pub push_grouped-requires-clause-linked : goal.push_grouped-requires-clause-linked
push_grouped-requires-clause-linked c =
    let b = c.args.blocks.now in
    let role = c.args.reached.now.role in
    still-linked (length b.blocks) c.args.firsts.objects c.args.node c.in_ok-next.next c.args.edges.now.items c.push_hosts.new.edges.items c.new-links.result.items c.push_hosts.new.links.items c.args.host_places.now
    (IsListed b.blocks (of_hosts (directives_of role))) (base-linked b c.args.firsts c.args.node c.args.edges.now.items c.new-links.result.items c.requires.base c.new-links.ensures.items) c.in_ok-next.ensures

pub push_described-requires-clause-listing : goal.push_described-requires-clause-listing
push_described-requires-clause-listing c = ap (λ (v : ServiceListingOf). v.blocks) c.listing-listing.ensures ∙ c.requires.reached

pub push_described-requires-clause-places : goal.push_described-requires-clause-places
push_described-requires-clause-places c = places-within c.args.blocks.now.blocks (service_kind c.args.reached.now.role) c.args.service_places.now c.requires.service_places

pub push_described-requires-clause-linked : goal.push_described-requires-clause-linked
push_described-requires-clause-linked c =
    let b = c.args.blocks.now in
    let role = c.args.reached.now.role in
    let linked =
    still-linked (length b.blocks) c.args.firsts.objects c.args.node c.in_ok-next.next c.args.edges.now.items c.push_hosts.new.edges.items c.new-links.result.items c.push_hosts.new.links.items c.args.host_places.now
    (IsListed b.blocks (of_hosts (directives_of role))) (base-linked b c.args.firsts c.args.node c.args.edges.now.items c.new-links.result.items c.requires.base c.new-links.ensures.items) c.in_ok-next.ensures in
    subst (λ (n : ℕ). AreLinked (length b.blocks) n c.in_ok-next-2.next c.push_grouped.new.edges.items c.push_grouped.new.links.items) c.requires.base.objects_are
    (still-linked (length b.blocks) c.args.firsts.objects c.in_ok-next.next c.in_ok-next-2.next c.push_hosts.new.edges.items c.push_grouped.new.edges.items c.push_hosts.new.links.items c.push_grouped.new.links.items
    c.args.service_places.now (Gathers b (directives_of role)) linked c.in_ok-next-2.ensures)

pub returns-clause-over : goal.returns-clause-over
returns-clause-over c =
    let b = c.args.blocks.now in
    let role = c.args.reached.now.role in
    let by_names : AddsSpeech (length b.blocks) c.args.firsts.objects c.in_ok-next-2.next c.in_ok-next-3.next c.push_grouped.new.edges.items c.push_described.new.edges.items c.push_grouped.new.links.items
    c.push_described.new.links.items c.args.service_places.now (Describes b (directives_of role)) =
    subst (λ (v : ServiceListingOf). AddsSpeech (length b.blocks) c.args.firsts.objects c.in_ok-next-2.next c.in_ok-next-3.next c.push_grouped.new.edges.items c.push_described.new.edges.items c.push_grouped.new.links.items
    c.push_described.new.links.items c.args.service_places.now (Describes b v.directives)) c.listing-listing.ensures
    (subst (λ (n : ℕ). AddsSpeech (length b.blocks) n c.in_ok-next-2.next c.in_ok-next-3.next c.push_grouped.new.edges.items c.push_described.new.edges.items c.push_grouped.new.links.items
    c.push_described.new.links.items c.args.service_places.now (Describes b c.listing-listing.result.now.directives)) (sym c.requires.base.objects_are) c.in_ok-next-3.ensures.added) in
    role-over b role c.args.firsts.objects c.args.node c.in_ok-next.next c.in_ok-next-2.next c.in_ok-next-3.next c.args.edges.now.items c.push_hosts.new.edges.items c.push_grouped.new.edges.items
    c.push_described.new.edges.items c.new-links.result.items c.push_hosts.new.links.items c.push_grouped.new.links.items c.push_described.new.links.items c.args.host_places.now c.args.service_places.now
    c.new-links.ensures.items c.requires.host_places c.requires.service_places c.in_ok-next.ensures c.in_ok-next-2.ensures by_names

pub returns-clause-base : goal.returns-clause-base
returns-clause-base c =
    let b = c.args.blocks.now in
    let role = c.args.reached.now.role in
    let by_names : AddsSpeech (length b.blocks) c.args.firsts.objects c.in_ok-next-2.next c.in_ok-next-3.next c.push_grouped.new.edges.items c.push_described.new.edges.items c.push_grouped.new.links.items
    c.push_described.new.links.items c.args.service_places.now (Describes b (directives_of role)) =
    subst (λ (v : ServiceListingOf). AddsSpeech (length b.blocks) c.args.firsts.objects c.in_ok-next-2.next c.in_ok-next-3.next c.push_grouped.new.edges.items c.push_described.new.edges.items c.push_grouped.new.links.items
    c.push_described.new.links.items c.args.service_places.now (Describes b v.directives)) c.listing-listing.ensures
    (subst (λ (n : ℕ). AddsSpeech (length b.blocks) n c.in_ok-next-2.next c.in_ok-next-3.next c.push_grouped.new.edges.items c.push_described.new.edges.items c.push_grouped.new.links.items
    c.push_described.new.links.items c.args.service_places.now (Describes b c.listing-listing.result.now.directives)) (sym c.requires.base.objects_are) c.in_ok-next-3.ensures.added) in
    base-over b c.args.firsts c.args.node c.in_ok-next-3.next c.args.edges.now.items c.push_described.new.edges.items c.requires.base
    (role-over b role c.args.firsts.objects c.args.node c.in_ok-next.next c.in_ok-next-2.next c.in_ok-next-3.next c.args.edges.now.items c.push_hosts.new.edges.items c.push_grouped.new.edges.items
    c.push_described.new.edges.items c.new-links.result.items c.push_hosts.new.links.items c.push_grouped.new.links.items c.push_described.new.links.items c.args.host_places.now c.args.service_places.now
    c.new-links.ensures.items c.requires.host_places c.requires.service_places c.in_ok-next.ensures c.in_ok-next-2.ensures by_names)

pub returns-clause-linked : goal.returns-clause-linked
returns-clause-linked c = c.in_ok-next-3.ensures.added.linked

pub returns-clause-speak : goal.returns-clause-speak
returns-clause-speak c =
    let b = c.args.blocks.now in
    let role = c.args.reached.now.role in
    let by_names : AddsSpeech (length b.blocks) c.args.firsts.objects c.in_ok-next-2.next c.in_ok-next-3.next c.push_grouped.new.edges.items c.push_described.new.edges.items c.push_grouped.new.links.items
    c.push_described.new.links.items c.args.service_places.now (Describes b (directives_of role)) =
    subst (λ (v : ServiceListingOf). AddsSpeech (length b.blocks) c.args.firsts.objects c.in_ok-next-2.next c.in_ok-next-3.next c.push_grouped.new.edges.items c.push_described.new.edges.items c.push_grouped.new.links.items
    c.push_described.new.links.items c.args.service_places.now (Describes b v.directives)) c.listing-listing.ensures
    (subst (λ (n : ℕ). AddsSpeech (length b.blocks) n c.in_ok-next-2.next c.in_ok-next-3.next c.push_grouped.new.edges.items c.push_described.new.edges.items c.push_grouped.new.links.items
    c.push_described.new.links.items c.args.service_places.now (Describes b c.listing-listing.result.now.directives)) (sym c.requires.base.objects_are) c.in_ok-next-3.ensures.added) in
    role-speaks b role c.args.firsts.objects c.args.node c.in_ok-next.next c.in_ok-next-2.next c.in_ok-next-3.next c.args.edges.now.items c.push_hosts.new.edges.items c.push_grouped.new.edges.items
    c.push_described.new.edges.items c.new-links.result.items c.push_hosts.new.links.items c.push_grouped.new.links.items c.push_described.new.links.items c.args.host_places.now c.args.service_places.now
    c.new-links.ensures.items c.requires.host_places c.requires.service_places c.in_ok-next.ensures c.in_ok-next-2.ensures by_names
