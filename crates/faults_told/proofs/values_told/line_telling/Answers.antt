use Rattle.std.proofs.Common.{refl}
use Rattle.faults_told.proofs.values_told.line_telling.Goals as goal

pub returns : goal.returns
returns c = record { fault = c.row_fault.ensures; held = refl; used = refl; beside = refl }
