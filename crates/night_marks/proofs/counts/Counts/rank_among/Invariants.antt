use Rattle.std.proofs.Common.{◌≡◌, ◌≤◌}
use Rattle.night_marks.specs.Counts.{rank_among}
use Rattle.night_marks.proofs.counts.Counts.rank_among.Given as goal

abbrev pub invariant-loop-number : goal.invariant-loop-number
invariant-loop-number l = (l.busier ≡ rank_among l.self l.object.0 l.number) × (l.busier ≤ l.number)
