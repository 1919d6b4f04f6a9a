use Rattle.std.proofs.Common.{refl}
use Rattle.acceptance_inputs.proofs.events.at.Goals as goal

pub returns : goal.returns
returns c = refl
