use Rattle.std.proofs.Common.{◌∙◌, ap}
use Rattle.object_services.specs.Numbers.{pairs_in}
use Rattle.object_reached.proofs.ServiceLemmas.{keys-within}
use Rattle.object_reached.proofs.services.HostServices.new.Goals as goal

pub graph_of-requires : goal.graph_of-requires
graph_of-requires c = record { hosts = keys-within c.args.descriptions.now c.args.lists.now c.args.hosts c.as_slice.result.now c.requires (ap pairs_in c.as_slice.ensures.value ∙ c.in_ok-pairs.ensures) }
