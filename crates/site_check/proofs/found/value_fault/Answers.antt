use Rattle.site_check.proofs.FaultLemmas.{row-said, row-unsaid}
use Rattle.site_check.proofs.found.value_fault.Goals as goal

pub returns-then-row-rows : goal.returns-then-row-rows
returns-then-row-rows c = row-said c.value_rows-rows.result.now c.args.row _ c.fault_by.result c.value_rows-rows.ensures c.if-row-rows.true c.fault_by.ensures

pub returns-else-row-rows : goal.returns-else-row-rows
returns-else-row-rows c = row-unsaid c.value_rows-rows.result.now c.args.row c.value_rows-rows.ensures c.if-row-rows.false
