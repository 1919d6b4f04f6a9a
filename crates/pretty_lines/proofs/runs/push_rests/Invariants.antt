use Rattle.std.proofs.Common.{◌≡◌, ◌++◌, drop}
use Rattle.pretty_lines.specs.Runs.{all_rest}
use Rattle.pretty_lines.proofs.runs.push_rests.Given as goal

abbrev pub invariant-loop-run : goal.invariant-loop-run
invariant-loop-run l =
    l.text.items ++ all_rest l.config l.clock l.look (drop l.run-index l.runs) ≡ l.fn.text.items ++ all_rest l.config l.clock l.look l.runs
