use Rattle.decider.specs.claims.Fits.{core_kept}
use Rattle.decider.proofs.FitLaws.{countable}
use Rattle.decider.proofs.event_decider.EventDecider.commit.Goals as goal

pub count-requires : goal.count-requires
count-requires c = record { named = countable (core_kept c.args.self.now) c.args.event c.requires.fits.0 c.requires.fits.1 c.requires.proper }
