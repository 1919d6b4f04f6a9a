use Rattle.std.proofs.Common.{◌≡◌, length, map}
use Rattle.std.proofs.lemmas.Result.{IfOk-weaker}
use Rattle.object_check.proofs.AnsweredLemmas.{answered}
use Rattle.object_check.proofs.MarkLemmas.{of-rows}
use Rattle.object_check.specs.Answered.{AreAnswered}
use Rattle.object_check.specs.Marks.{breaks_row, value_misfits}
use Rattle.object_check.specs.Misfits.{misfits_in}
use Rattle.object_check.specs.Rows.{value_rows, said_by}
use Rattle.object_check.proofs.marks.value_misfits.Goals as goal

pub returns-clause-all : goal.returns-clause-all
returns-clause-all c =
    let blocks = c.args.templates.now in
    let rows = c.value_rows.result.now in
    IfOk-weaker c.misfits_by.result (λ found. found.items ≡ misfits_in (breaks_row blocks (map said_by rows)) (length rows) (length blocks)) (λ found. found.items ≡ value_misfits blocks)
    (λ found is. of-rows blocks rows value_rows found.items c.value_rows.ensures is) c.misfits_by.ensures

pub returns-clause-answered : goal.returns-clause-answered
returns-clause-answered c =
    let blocks = c.args.templates.now in
    let rows = c.value_rows.result.now in
    IfOk-weaker c.misfits_by.result (λ found. found.items ≡ misfits_in (breaks_row blocks (map said_by rows)) (length rows) (length blocks)) (λ found. AreAnswered blocks found.items)
    (λ found is. answered blocks found.items (of-rows blocks rows value_rows found.items c.value_rows.ensures is)) c.misfits_by.ensures
