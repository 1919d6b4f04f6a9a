use Rattle.std.proofs.Common.{◌≡◌, ◌++◌, drop, flat_map}
use Rattle.night_picture.specs.Rows.{mark_in}
use Rattle.night_picture.proofs.rows.push_marks.Given as goal

abbrev pub invariant-loop-mark : goal.invariant-loop-mark
invariant-loop-mark l =
    l.text.items ++ flat_map (mark_in l.config l.clock l.span l.y l.object.0) (drop l.mark-index l.marks)
    ≡ l.fn.text.items ++ flat_map (mark_in l.config l.clock l.span l.y l.object.0) l.marks
