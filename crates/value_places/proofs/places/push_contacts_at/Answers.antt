use Rattle.std.proofs.Common.{refl, take, take_all}
use Rattle.value_places.specs.Places.{file_of}
use Rattle.value_places.proofs.AddLemmas.{adds-none, contact-more, contacts-all}
use Rattle.value_places.proofs.places.push_contacts_at.Goals as goal

pub loop-place-init : goal.loop-place-init
loop-place-init c = adds-none (file_of c.args.source) c.args.blocks.now _

pub loop-place-preserved : goal.loop-place-preserved
loop-place-preserved c =
    contact-more (file_of c.args.source) c.args.blocks.now c.args.rights.now.service c.args.rights.now.service c.args.places.now c.loop-place.place-index 0 _ _ _ c.loop-place-test.true refl
    c.loop-place.invariant c.in_ok-push_contact.ensures

pub returns : goal.returns
returns c =
    contacts-all (file_of c.args.source) c.args.blocks.now c.args.rights.now.service (take c.loop-place.place-index c.args.places.now) c.args.places.now _ _
    (take_all c.loop-place.place-index c.args.places.now c.loop-place-test.false) c.loop-place.invariant
