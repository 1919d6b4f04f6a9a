use Rattle.std.proofs.Common.{◌++◌, flat_map, take}
use Rattle.written.specs.claims.Written.{Leaves}
use Rattle.command_output.specs.claims.RunLine.{taken_line}
use Rattle.run_command.specs.claims.Report.{letters_text}
use Rattle.run_command.proofs.lanes.write_records.Given as goal

abbrev pub invariant-loop-number : goal.invariant-loop-number
invariant-loop-number g l =
    Leaves (g.W.Write.contents l.fn.writer) (g.W.Write.contents l.writer) (l.fn.lines ++ flat_map (letters_text (taken_line l.config l.lane.lane.0)) (take l.number l.lane.records)) l.lines
