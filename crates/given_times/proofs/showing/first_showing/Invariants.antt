use Rattle.std.proofs.Common.{◌≡◌, ◌+◌, ◌-◌}
use Rattle.jiff_fmt.specs.Temporal.{date_parts, time_parts}
use Rattle.given_times.specs.Given.{shown_by}
use Rattle.given_times.proofs.Unseen.{IsUnseen}
use Rattle.given_times.proofs.showing.first_showing.Given as goal

abbrev pub invariant-loop-from : goal.invariant-loop-from
invariant-loop-from l = (l.clock ≡ l.fn.zone)
    × IsUnseen l.fn.zone (shown_by (date_parts l.fn.shown.date, time_parts l.fn.shown.time)) l.from

abbrev pub decreases-loop-from : goal.decreases-loop-from
decreases-loop-from l = 32503679999 + 1 - l.from
