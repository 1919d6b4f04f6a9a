use Rattle.object_warnings.proofs.HourLemmas.{rows-same}
use Rattle.object_warnings.proofs.week.goes_on.Goals as goal

pub returns : goal.returns
returns c is =
    rows-same (λ row. row.items) c.args.rows.now c.args.minute c.args.next c.index-rows-minute.result c.index-rows-next.result c.as_slice.result.now c.as_slice-2.result.now
    c.requires.minute c.requires.next c.index-rows-minute.is c.index-rows-next.is c.as_slice.ensures.value c.as_slice-2.ensures.value (c.are_same.ensures is)
