use Rattle.decider.specs.claims.Fits.{kept}
use Rattle.decider.proofs.FitLaws.{fits_with_log}
use Rattle.decider.proofs.decider.Decider.clear_log.Goals as goal

pub returns-clause-fits : goal.returns-clause-fits
returns-clause-fits c = λ past fits. fits_with_log (kept c.args.self.now) c.clear.new.self.lines past fits
