use Rattle.std.proofs.Common.{◌++◌, flat_map, take}
use Rattle.written.specs.claims.Written.{Leaves}
use Rattle.command_output.specs.claims.RunLine.{undelivered_line}
use Rattle.run_command.proofs.lanes.write_undelivered.Given as goal

abbrev pub invariant-loop-notice : goal.invariant-loop-notice
invariant-loop-notice g l =
    Leaves (g.W.Write.contents l.fn.writer) (g.W.Write.contents l.writer) (l.fn.lines ++ flat_map (undelivered_line l.config l.lane.0) (take l.notice-index l.undelivered)) l.lines
