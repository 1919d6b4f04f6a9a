use Rattle.object_escalations.proofs.LawLemmas.{one-passes, within-nowhere}
use Rattle.object_escalations.proofs.laws.one_block_passes.Goals as goal

pub returns-clause-one : goal.returns-clause-one
returns-clause-one c = one-passes

pub returns-clause-within : goal.returns-clause-within
returns-clause-within c = within-nowhere
