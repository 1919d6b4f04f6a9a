use Rattle.std.proofs.Common.{◌∙◌, ap, length, List, sym}
use Rattle.std.proofs.lemmas.Result.{IfOk-weaker}
use Rattle.object_check.proofs.MarkLemmas.{by-columns}
use Rattle.object_reader.specs.declared.block.Block.{Block}
use Rattle.object_check.proofs.marks.misfits_by.Goals as goal

pub returns : goal.returns
returns c =
    let long = ap (λ (list : List Block). length list) c.blocks-2.ensures.value in
    IfOk-weaker c.misfits_in.result _ _
    (λ found is. is ∙ by-columns c.args.templates.now c.args.rows.now (λ column. column.items) c.in_ok-columns.columns.items c.as_slice.result.now _
    c.in_ok-columns.ensures c.as_slice.ensures.value (sym long))
    c.misfits_in.ensures
