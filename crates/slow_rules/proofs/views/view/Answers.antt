use Rattle.std.proofs.Common.{arith}
use Rattle.slow_rules.proofs.SlowLemmas.{now_delayed_in_range}
use Rattle.slow_rules.proofs.views.view.Goals as goal

pub returns-clause-began : goal.returns-clause-began
returns-clause-began c =
    omega (arith, c.delayed_at.ensures, now_delayed_in_range c.args.subject.now.config.now c.args.subject.now.id.0 c.args.event.now c.args.past.now c.requires.now c.requires.past)
