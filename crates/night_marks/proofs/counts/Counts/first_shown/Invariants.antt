use Rattle.std.proofs.Common.{◌≡◌}
use Rattle.night_marks.specs.Counts.{first_shown}
use Rattle.night_marks.proofs.counts.Counts.first_shown.Given as goal

abbrev pub invariant-loop-number : goal.invariant-loop-number
invariant-loop-number l = l.objects.items ≡ first_shown l.self l.number
