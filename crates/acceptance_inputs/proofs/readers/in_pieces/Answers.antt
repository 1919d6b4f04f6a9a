use Rattle.std.proofs.Common.{refl}
use Rattle.acceptance_inputs.proofs.readers.in_pieces.Goals as goal

pub returns-clause-size : goal.returns-clause-size
returns-clause-size c = refl
