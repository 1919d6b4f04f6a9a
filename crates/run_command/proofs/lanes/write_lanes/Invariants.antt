use Rattle.std.proofs.Common.{◌++◌, flat_map, take}
use Rattle.written.specs.claims.Written.{Leaves}
use Rattle.run_command.specs.claims.Report.{lane_lines}
use Rattle.run_command.proofs.lanes.write_lanes.Given as goal

abbrev pub invariant-loop-lane : goal.invariant-loop-lane
invariant-loop-lane g l =
    Leaves (g.W.Write.contents l.fn.writer) (g.W.Write.contents l.writer) (l.fn.lines ++ flat_map (lane_lines l.config) (take l.lane-index l.lanes)) l.lines
