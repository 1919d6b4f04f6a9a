use Rattle.std.proofs.Common.{rules}
use Rattle.object_check.specs.Rows.{said_by}
use Rattle.object_warnings.specs.Unused.{named_by}
use Rattle.object_warnings.proofs.UnusedLemmas.{rows-more}
use Rattle.object_warnings.proofs.unused.push_named.Goals as goal

pub loop-row-preserved : goal.loop-row-preserved
loop-row-preserved c =
    rows-more (named_by c.args.kind c.args.block.now) said_by c.args.rows.now c.loop-row.row-index _ c.args.names.now.items c.loop-row.names.items
    c.extend_from_slice.new.self.items c.in_ok-more.more.items c.loop-row-test.true c.loop-row.invariant (search rules) c.in_ok-more.ensures
