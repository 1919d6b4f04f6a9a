use Rattle.std.proofs.Common.{◌++◌, flat_map}
use Rattle.std.specs.List.{range_with_len}
use Rattle.written.specs.claims.Written.{Leaves}
use Rattle.world_steps.specs.claims.Views.{world_setup, world_state}
use Rattle.trace.specs.LaneLines.{lane_lines}
use Rattle.trace.proofs.lanes.write_lanes.Given as goal

abbrev pub invariant-loop-lane : goal.invariant-loop-lane
invariant-loop-lane g l =
    Leaves (g.W.Write.contents l.fn.writer) (g.W.Write.contents l.writer)
    (l.fn.lines ++ flat_map (lane_lines (world_setup l.run.world) (world_state l.run.world)) (range_with_len 0 l.lane)) l.lines
