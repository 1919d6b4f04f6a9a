use Rattle.std.proofs.Common.{◌≡◌, ◌++◌}
use Rattle.night_picture.specs.Rows.{first_rows}
use Rattle.night_picture.proofs.rows.push_rows.Given as goal

abbrev pub invariant-loop-place : goal.invariant-loop-place
invariant-loop-place l =
    l.text.items ≡ l.fn.text.items ++ first_rows l.config l.clock l.span l.drawn.changes.now l.drawn.marks.now l.shown l.place
