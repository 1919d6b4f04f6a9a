use Rattle.std.proofs.Common.{arith, sym}
use Rattle.std.specs.List.{list_any}
use Rattle.object_warnings.specs.Hours.{has_hours}
use Rattle.object_warnings.proofs.ToldLemmas.{any-of-all, any-of-more, or-none}
use Rattle.object_warnings.proofs.told_hours.add_contacts.Goals as goal

pub loop-contact-init : goal.loop-contact-init
loop-contact-init c holds = sym (or-none (list_any holds c.args.hours.now.items))

pub loop-contact-preserved : goal.loop-contact-preserved
loop-contact-preserved c holds =
    any-of-more (has_hours c.args.config.now holds c.args.object.now) c.args.contacts.now c.loop-contact.contact-index _ _ _ _ c.loop-contact-test.true
    (c.loop-contact.invariant holds) (c.in_ok-add_contact.ensures holds)

pub returns : goal.returns
returns c holds =
    any-of-all (has_hours c.args.config.now holds c.args.object.now) c.args.contacts.now c.loop-contact.contact-index _ _ (omega (arith, c.loop-contact-test.false)) (c.loop-contact.invariant holds)
