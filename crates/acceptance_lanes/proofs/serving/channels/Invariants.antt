use Rattle.std.proofs.Common.{◌≡◌, length}
use Rattle.acceptance_lanes.proofs.serving.channels.Given as goal

abbrev pub invariant-loop-device : goal.invariant-loop-device
invariant-loop-device l = length l.channels.items ≡ l.device-index
