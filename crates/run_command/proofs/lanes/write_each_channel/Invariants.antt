use Rattle.std.proofs.Common.{[], ◌++◌, flat_map, length, slice_index_or, take}
use Rattle.std.specs.List.{range_with_len}
use Rattle.written.specs.claims.Written.{Leaves}
use Rattle.command_output.specs.claims.RunLine.{channel_line}
use Rattle.run_command.proofs.lanes.write_each_channel.Given as goal

abbrev pub invariant-loop-number : goal.invariant-loop-number
invariant-loop-number g l =
    Leaves (g.W.Write.contents l.fn.writer) (g.W.Write.contents l.writer)
    (l.fn.lines ++ flat_map (λ n. channel_line l.config l.lane.lane.0 n (length (slice_index_or l.lane.records n []))) (take l.number (range_with_len 0 (length l.lane.records)))) l.lines
