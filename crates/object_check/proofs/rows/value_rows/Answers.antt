use Rattle.std.proofs.Common.{refl}
use Rattle.object_check.proofs.rows.value_rows.Goals as goal

pub returns : goal.returns
returns c = refl
