use Rattle.std.proofs.Common.{◌∙◌, ap, map, sym}
use Rattle.std.proofs.lemmas.Result.{IfOk-weaker}
use Rattle.object_groups.specs.Groups.{GroupsOf}
use Rattle.object_listing.specs.claims.Listing.{Directives}
use Rattle.object_listing.proofs.ContactLemmas.{contacts-are, contacts-few}
use Rattle.object_listing.proofs.contacts.contacts_of.Goals as goal

pub objects_at-requires : goal.objects_at-requires
objects_at-requires c =
    let groups : Directives → GroupsOf = λ d. record { blocks = c.args.listing.now.blocks; kind = d.kind } in
    c.requires.sources.groups_are ∙ ap groups (sym c.requires.sources.directives_are)

pub contact_ids-requires : goal.contact_ids-requires
contact_ids-requires c =
    contacts-few c.args.listing.now c.args.groups.now c.in_ok-numbers.numbers.items c.as_slice.result.now c.requires.sources c.as_slice.ensures.value c.in_ok-numbers.ensures.within

pub returns-clause-contacts : goal.returns-clause-contacts
returns-clause-contacts c = IfOk-weaker c.contact_ids.result _ _
    (λ contacts are. contacts-are c.args.listing.now c.args.groups.now c.args.place c.in_ok-numbers.numbers.items (map (λ contact. contact.0) contacts.items) c.requires.sources
    (are ∙ c.as_slice.ensures.value) c.in_ok-numbers.ensures.objects)
    c.contact_ids.ensures
