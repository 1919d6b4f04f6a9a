use Rattle.engine.proofs.AlikeLaws.{alike}
use Rattle.engine.proofs.alike.runs_are_alike.Goals as goal

pub returns : goal.returns
returns c = alike
