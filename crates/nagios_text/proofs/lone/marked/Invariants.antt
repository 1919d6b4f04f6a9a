use Rattle.std.proofs.Common.{◌≡◌, ◌++◌, length}
use Rattle.nagios_text.specs.claims.Lone.{lines_in, lines_said, marked, with_between}
use Rattle.nagios_text.proofs.lone.marked.Given as goal

-- The lines so far, and those of the rest.
abbrev pub invariant-loop-made : goal.invariant-loop-made
invariant-loop-made l = l.made.items ++ with_between 10 (lines_said l.is_rest (lines_in l.rest)) ≡ marked l.text

abbrev pub decreases-loop-made : goal.decreases-loop-made
decreases-loop-made l = length l.rest
