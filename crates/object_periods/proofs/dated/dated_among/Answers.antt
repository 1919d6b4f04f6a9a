use Rattle.std.proofs.Common.{[]}
use Rattle.object_inheritance.specs.declared.dated_lines.Line.{Line}
use Rattle.object_periods.proofs.DatedLemmas.{dated-more}
use Rattle.object_periods.proofs.dated.dated_among.Goals as goal

pub loop-line-preserved : goal.loop-line-preserved
loop-line-preserved c =
    dated-more c.args.lines.now c.loop-line.line-index nothing c.loop-line.dated.items c.push_dated.new.dated.items c.loop-line-test.true c.loop-line.invariant c.in_ok-push_dated.ensures
  where
    nothing : Line
    nothing = record { name = record { ref_ptr = (0, 0); now = [] }; text = record { ref_ptr = (0, 0); now = [] } }
