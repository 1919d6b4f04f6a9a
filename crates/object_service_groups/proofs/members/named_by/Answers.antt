use Rattle.std.proofs.Common.{◌*◌, ◌/◌, ◌∙◌, length, take}
use Rattle.object_service_groups.proofs.ElementLemmas.{all-places}
use Rattle.object_service_groups.proofs.MemberLemmas.{named-entries}
use Rattle.object_service_groups.proofs.members.named_by.Goals as goal
use Rattle.object_values.specs.Values.{texts}

pub returns-clause-named : goal.returns-clause-named
returns-clause-named c = c.in_ok-named.ensures ∙ named-entries c.args.hosts.now c.args.services.now c.args.entries.now

pub returns-clause-within : goal.returns-clause-within
returns-clause-within c =
    all-places c.args.hosts.now c.args.services.now (texts (take (length c.args.entries.now / 2 * 2) c.args.entries.now)) c.in_ok-named.named.items c.in_ok-named.ensures
