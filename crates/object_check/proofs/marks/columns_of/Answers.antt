use Rattle.std.proofs.Common.{◌≡◌, [], Bool, List, map, rules, subst}
use Rattle.object_check.specs.Marks.{AreColumns}
use Rattle.object_check.proofs.MarkLemmas.{columns-step, no-columns}
use Rattle.object_check.proofs.marks.columns_of.Goals as goal

pub loop-row-init : goal.loop-row-init
loop-row-init c =
    let none : [] ≡ map (λ column. column.items) c.in_ok-columns.columns.items = search rules in
    subst (λ (columns : List (List Bool)). AreColumns c.args.templates.now [] columns) none (no-columns c.args.templates.now)

pub loop-row-preserved : goal.loop-row-preserved
loop-row-preserved c =
    columns-step c.args.templates.now c.args.rows.now c.loop-row.row-index _ (λ column. column.items) c.loop-row.columns.items c.push.new.self.items c.without_none.result
    c.in_ok-column.column.items c.loop-row-test.true c.loop-row.invariant (search rules) c.without_none.ensures c.in_ok-column.ensures
