use Rattle.std.proofs.Common.{◌++◌, flat_map, take}
use Rattle.written.specs.claims.Written.{Leaves}
use Rattle.command_output.specs.claims.ReportLine.{refused_line}
use Rattle.run_command.proofs.feed_lines.write_refused.Given as goal

abbrev pub invariant-loop-refusal : goal.invariant-loop-refusal
invariant-loop-refusal g l =
    Leaves (g.W.Write.contents l.fn.writer) (g.W.Write.contents l.writer) (l.fn.lines ++ flat_map (λ r. refused_line r.line r.fault) (take l.refusal-index l.refused)) l.lines
