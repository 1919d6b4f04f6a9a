use Rattle.object_services.proofs.LimitLaws.{one-passes, within-nowhere}
use Rattle.object_services.proofs.laws.one_place_passes.Goals as goal

pub returns-clause-one : goal.returns-clause-one
returns-clause-one c = one-passes

pub returns-clause-within : goal.returns-clause-within
returns-clause-within c = within-nowhere
