use Rattle.std.proofs.Common.{rules, List, Bool, ap, subst, sym}
use Rattle.object_escalations.specs.Entries.{AskForAll}
use Rattle.object_listing.specs.Contacts.{AskedContacts}
use Rattle.object_resolve.proofs.AskedLemmas.{escalations-asked}
use Rattle.object_resolve.proofs.EntryLemmas.{objects-few, spoken-long, spoken-within}
use Rattle.object_resolve.proofs.config.escalations_in.Goals as goal

pub escalations_of-requires-clause-within : goal.escalations_of-requires-clause-within
escalations_of-requires-clause-within c =
    spoken-within c.escalated_are_objects.ensures c.args.templates.now c.args.counts.now.hosts c.args.counts.now.escalated c.args.objects.now c.as_slice.result.now c.as_slice.ensures
    c.requires.objects c.requires.counts.spoken_are

pub escalations_of-requires-clause-contacts : goal.escalations_of-requires-clause-contacts
escalations_of-requires-clause-contacts c = ap (λ (t : AskedContacts). t.blocks) c.requires.contacts

pub escalations_of-requires-clause-asked : goal.escalations_of-requires-clause-asked
escalations_of-requires-clause-asked c =
    subst (λ (asked : List Bool). AskForAll c.args.counts.now.escalated asked) (sym (ap (λ (t : AskedContacts). t.asked) c.requires.contacts))
    (escalations-asked c.args.templates.now c.args.counts.now.hosts c.args.counts.now.escalated c.requires.counts.spoken_are)

pub escalations_of-requires-clause-long : goal.escalations_of-requires-clause-long
escalations_of-requires-clause-long c = spoken-long c.args.templates.now c.args.counts.now.hosts c.args.counts.now.escalated c.requires.counts.spoken_are

pub escalations_of-requires-clause-few : goal.escalations_of-requires-clause-few
escalations_of-requires-clause-few c =
    objects-few c.args.templates.now c.args.counts.now.hosts c.args.objects.now c.as_slice.result.now c.as_slice.ensures c.requires.objects c.requires.counts.few

pub escalations_of-requires-clause-periods : goal.escalations_of-requires-clause-periods
escalations_of-requires-clause-periods c = record {
  names = search rules;
  few = search rules;
}
