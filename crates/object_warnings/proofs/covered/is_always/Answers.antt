use Rattle.object_warnings.proofs.CoveredLemmas.{always-held}
use Rattle.object_warnings.proofs.covered.is_always.Goals as goal

pub returns-in-None : goal.returns-in-None
returns-in-None c is minute within = always-held _ c.args.period minute (c.in-None.ensures.untold minute within)
