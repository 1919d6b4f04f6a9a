use Rattle.std.proofs.Common.{◌∙◌, Bool, List, ap, map}
use Rattle.object_check.specs.Misfits.{is_marked, is_marked_in}
use Rattle.object_check.proofs.MisfitLemmas.{marked-in, push-more}
use Rattle.object_check.proofs.misfits.push_misfits.Goals as goal

pub loop-row-preserved : goal.loop-row-preserved
loop-row-preserved c =
    push-more (λ row at. is_marked_in (map (λ column. column.items) c.args.columns.now) row at) c.loop-row.row c.args.place c.args.found.now.items c.loop-row.found.items
    c.push_row.new.found.items c.is_marked.result c.loop-row.invariant c.in_ok-push_row.ensures
    (c.is_marked.ensures ∙ ap (λ (column : List Bool). is_marked column c.args.place) c.as_slice.ensures.value
    ∙ marked-in (λ column. column.items) c.args.columns.now c.loop-row.row c.args.place c.index-columns-row.result c.loop-row-test.true c.index-columns-row.is)
