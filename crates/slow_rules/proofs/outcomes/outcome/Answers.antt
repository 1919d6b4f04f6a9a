use Rattle.std.proofs.Common.{arith}
use Rattle.slow_rules.proofs.SlowLemmas.{now_moment_in_range}
use Rattle.slow_rules.proofs.outcomes.outcome.Goals as goal

pub judged-requires-clause-moment : goal.judged-requires-clause-moment
judged-requires-clause-moment c =
    omega (arith, c.moment_at-moment.ensures, now_moment_in_range c.args.subject.now.config.now c.args.event.now c.args.past.now c.requires.now c.requires.past)
