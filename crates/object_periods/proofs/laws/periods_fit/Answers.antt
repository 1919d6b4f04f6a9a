use Rattle.object_periods.proofs.LawLemmas.{periods-fit}
use Rattle.object_periods.proofs.laws.periods_fit.Goals as goal

pub returns : goal.returns
returns c = periods-fit
