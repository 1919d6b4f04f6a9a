use Rattle.world_steps.proofs.RecordLaws.{records_after}
use Rattle.world_steps.proofs.laws.records_stay.Goals as goal

pub returns : goal.returns
returns c = records_after
