use Rattle.std.proofs.Common.{◌≡◌, length, map, take}
use Rattle.engine.proofs.lanes.counts_of.Given as goal

abbrev pub invariant-loop-of_lane : goal.invariant-loop-of_lane
invariant-loop-of_lane g l = l.counts.items ≡ map (λ of_lane. length of_lane.items) (take l.of_lane-index l.channels)
