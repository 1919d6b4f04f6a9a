use Rattle.std.proofs.Common.{◌++◌, flat_map}
use Rattle.std.specs.List.{range_with_len}
use Rattle.written.specs.claims.Written.{Leaves}
use Rattle.world_steps.specs.claims.Views.{world_setup, world_state}
use Rattle.trace.specs.LaneLines.{held_text}
use Rattle.trace.proofs.lanes.write_lane.Given as goal

abbrev pub invariant-loop-object : goal.invariant-loop-object
invariant-loop-object g l =
    Leaves (g.W.Write.contents l.fn.writer) (g.W.Write.contents l.writer)
    (l.fn.lines ++ flat_map (held_text (world_setup l.run.world) (world_state l.run.world) l.lane.0) (range_with_len 0 l.object)) l.lines
