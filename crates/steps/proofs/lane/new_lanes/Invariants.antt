use Rattle.std.proofs.Common.{◌≡◌, ◌++◌, drop, map}
use Rattle.steps.specs.claims.Lanes.{lane_state, new_lane}
use Rattle.steps.proofs.lane.new_lanes.Given as goal

abbrev pub invariant-loop-channels : goal.invariant-loop-channels
invariant-loop-channels l =
    map lane_state l.made.items ++ map new_lane (drop l.channels-index l.served) ≡ map new_lane l.served
