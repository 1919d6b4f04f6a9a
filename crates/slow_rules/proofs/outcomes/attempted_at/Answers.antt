use Rattle.std.proofs.Common.{arith}
use Rattle.slow_rules.proofs.SlowLemmas.{past_delayed_in_range}
use Rattle.slow_rules.proofs.outcomes.attempted_at.Goals as goal

pub ready-requires-clause-began : goal.ready-requires-clause-began
ready-requires-clause-began c =
    omega (arith, c.delayed-began.ensures, past_delayed_in_range c.args.subject.now.config.now c.args.subject.now.id.0 c.args.past.now c.requires.past)
