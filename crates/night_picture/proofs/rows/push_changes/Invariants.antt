use Rattle.std.proofs.Common.{◌≡◌, ◌++◌, drop, flat_map}
use Rattle.night_picture.specs.Rows.{change_in}
use Rattle.night_picture.proofs.rows.push_changes.Given as goal

abbrev pub invariant-loop-change : goal.invariant-loop-change
invariant-loop-change l =
    l.text.items ++ flat_map (change_in l.span l.y l.object.0) (drop l.change-index l.changes)
    ≡ l.fn.text.items ++ flat_map (change_in l.span l.y l.object.0) l.changes
