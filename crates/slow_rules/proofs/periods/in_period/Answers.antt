use Rattle.std.proofs.Common.{Bool, List, ap, ◌∙◌}
use Rattle.slow_rules.specs.Rounds.{is_open}
use Rattle.slow_rules.proofs.RoundLemmas.{open_at}
use Rattle.slow_rules.proofs.periods.in_period.Goals as goal

pub returns : goal.returns
returns c =
    c.is_open.ensures ∙ ap (λ (xs : List Bool). is_open xs c.args.period) c.as_slice.ensures.value
    ∙ open_at c.args.config.now c.args.zone.now c.args.t c.in_ok-flags.flags.items c.in_ok-flags.ensures c.args.period
