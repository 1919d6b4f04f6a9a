use Rattle.std.proofs.Common.{ap}
use Rattle.object_contacts.proofs.ContactLemmas.{contacts-all, contacts-more, name-is}
use Rattle.object_contacts.proofs.contacts.contacts_of.Goals as goal
use Rattle.object_groups.specs.Objects.{ObjectsOf}

pub contact_at-requires-clause-name : goal.contact_at-requires-clause-name
contact_at-requires-clause-name c =
    name-is c.args.templates.now c.args.commands.now.blocks c.args.contacts.now c.names-names.result.now c.places-place-items.result.now c.loop-number.number c.name-name.result.now
    c.requires.contacts (ap (λ (o : ObjectsOf). o.blocks) c.requires.commands) c.names-names.ensures.names c.places-place-items.ensures.places c.loop-number-test.true c.name-name.ensures

pub loop-number-preserved : goal.loop-number-preserved
loop-number-preserved c =
    contacts-more c.args.daemons c.args.templates.now c.args.commands.now.blocks c.args.lanes.now c.args.contacts.now c.places-place-items.result.now c.loop-number.number c.loop-number.made.items _ c.in_ok-contact.contact
    c.requires.contacts (ap (λ (o : ObjectsOf). o.blocks) c.requires.commands) c.places-place-items.ensures.places c.loop-number-test.true c.in_ok-push.ensures.items
    c.loop-number.invariant c.in_ok-contact.ensures

pub returns : goal.returns
returns c =
    contacts-all c.args.daemons c.args.templates.now c.args.lanes.now c.args.contacts.now c.places-place-items.result.now c.loop-number.number c.loop-number.made.items
    c.requires.contacts c.places-place-items.ensures.places c.loop-number-test.false c.loop-number.invariant
