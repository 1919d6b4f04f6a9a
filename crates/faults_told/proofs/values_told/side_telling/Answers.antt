use Rattle.std.proofs.Common.{refl}
use Rattle.faults_told.proofs.values_told.side_telling.Goals as goal

pub returns : goal.returns
returns c = λ side. record { fault = refl; held = refl; used = refl; beside = refl }
