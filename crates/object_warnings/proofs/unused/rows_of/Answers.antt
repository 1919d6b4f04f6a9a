use Rattle.std.proofs.Common.{map}
use Rattle.object_check.specs.Rows.{said_by}
use Rattle.object_warnings.proofs.UnusedLemmas.{row-more}
use Rattle.object_warnings.proofs.unused.rows_of.Goals as goal

pub loop-row-preserved : goal.loop-row-preserved
loop-row-preserved c block =
    row-more c.args.kind block said_by c.args.all.now c.loop-row.row-index _ (map said_by c.loop-row.rows.items) _ c.is_row_of-asked.result c.loop-row-test.true
    (c.loop-row.invariant block) c.is_row_of-asked.ensures c.in_ok-push_row.ensures
