use Rattle.std.proofs.Common.{List, Bool, ap, subst, sym}
use Rattle.due_model.specs.claims.Limits.{max_periods}
use Rattle.object_listing.specs.Contacts.{AskedContacts}
use Rattle.object_reader.specs.declared.block.BlockKind.TheVariants.{TimePeriod}
use Rattle.object_resolve.proofs.AskedLemmas.{hosts-asked, services-asked}
use Rattle.object_resolve.proofs.PlaceLemmas.{few-names}
use Rattle.object_resolve.proofs.config.objects_in.Goals as goal
use Rattle.object_settings.specs.Settings.{AskForHosts, AskForServices}

pub objects_of-requires-clause-contacts : goal.objects_of-requires-clause-contacts
objects_of-requires-clause-contacts c = ap (λ (t : AskedContacts). t.blocks) c.requires.contacts

pub objects_of-requires-clause-asked_hosts : goal.objects_of-requires-clause-asked_hosts
objects_of-requires-clause-asked_hosts c =
    subst (λ (asked : List Bool). AskForHosts c.args.templates.now asked) (sym (ap (λ (t : AskedContacts). t.asked) c.requires.contacts))
    (hosts-asked c.args.templates.now c.args.counts.now.hosts c.args.counts.now.escalated)

pub objects_of-requires-clause-asked_services : goal.objects_of-requires-clause-asked_services
objects_of-requires-clause-asked_services c =
    subst (λ (asked : List Bool). AskForServices c.args.templates.now c.args.counts.now.hosts asked) (sym (ap (λ (t : AskedContacts). t.asked) c.requires.contacts))
    (services-asked c.args.templates.now c.args.counts.now.hosts c.args.counts.now.escalated c.requires.counts.hosts_are)

pub objects_of-requires-clause-few_periods : goal.objects_of-requires-clause-few_periods
objects_of-requires-clause-few_periods c = few-names c.args.templates.now TimePeriod max_periods c.requires.few.periods
