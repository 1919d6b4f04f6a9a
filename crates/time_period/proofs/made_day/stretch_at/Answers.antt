use Rattle.time_period.specs.Days.{holds_any, in_ranges}
use Rattle.time_period.proofs.made_day.stretch_at.Goals as goal

pub returns : goal.returns
returns c =
    c.without.ensures (in_ranges c.args.own.now) (λ k. holds_any c.args.excludes.now c.args.done.now c.args.weekday k) c.args.second c.stretch_in.ensures c.excluded.ensures
