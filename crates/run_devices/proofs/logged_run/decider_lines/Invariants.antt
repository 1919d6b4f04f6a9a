use Rattle.std.proofs.Common.{◌≡◌, length}
use Rattle.run_devices.proofs.logged_run.decider_lines.Given as goal

abbrev pub invariant-loop-decider : goal.invariant-loop-decider
invariant-loop-decider l = length l.logs.items ≡ l._decider
