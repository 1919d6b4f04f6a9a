use Rattle.std.proofs.Common.{◌≡◌, length, map}
use Rattle.std.proofs.lemmas.Result.{IfOk-weaker}
use Rattle.object_check.proofs.AnsweredLemmas.{answered-names}
use Rattle.object_check.proofs.MarkLemmas.{of-rows}
use Rattle.object_check.specs.Answered.{AreAnsweredNames}
use Rattle.object_check.specs.Marks.{breaks_row, name_misfits}
use Rattle.object_check.specs.Misfits.{misfits_in}
use Rattle.object_check.specs.Rows.{name_rows, said_by}
use Rattle.object_check.proofs.marks.name_misfits.Goals as goal

pub returns-clause-all : goal.returns-clause-all
returns-clause-all c =
    let blocks = c.args.templates.now in
    let rows = c.name_rows.result.now in
    IfOk-weaker c.misfits_by.result (λ found. found.items ≡ misfits_in (breaks_row blocks (map said_by rows)) (length rows) (length blocks)) (λ found. found.items ≡ name_misfits blocks)
    (λ found is. of-rows blocks rows name_rows found.items c.name_rows.ensures is) c.misfits_by.ensures

pub returns-clause-answered : goal.returns-clause-answered
returns-clause-answered c =
    let blocks = c.args.templates.now in
    let rows = c.name_rows.result.now in
    IfOk-weaker c.misfits_by.result (λ found. found.items ≡ misfits_in (breaks_row blocks (map said_by rows)) (length rows) (length blocks)) (λ found. AreAnsweredNames blocks found.items)
    (λ found is. answered-names blocks found.items (of-rows blocks rows name_rows found.items c.name_rows.ensures is)) c.misfits_by.ensures
