use Rattle.std.proofs.Common.{rules, refl}
use Rattle.engine.proofs.RunEndLaws.{none_told_ran}
use Rattle.engine.proofs.source_run.nothing.Goals as goal

pub returns-clause-run : goal.returns-clause-run
returns-clause-run g c = λ config zone posted events logs none. none_told_ran g.L.DeciderLog.tells g.L.DeciderLog.failed config zone posted events _ _ _ logs _ none (search rules) (search rules) (search rules) refl
