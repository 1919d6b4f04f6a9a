use Rattle.due_laws.proofs.NextMoments.{next_least}
use Rattle.due_laws.proofs.periods.find_the_least.Goals as goal

pub returns : goal.returns
returns x c zone period t = next_least c zone period t
