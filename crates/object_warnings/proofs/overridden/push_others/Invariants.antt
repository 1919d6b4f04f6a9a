use Rattle.std.proofs.Common.{◌≡◌, ◌++◌}
use Rattle.object_warnings.specs.Overridden.{is_other_at}
use Rattle.object_warnings.proofs.LineLemmas.{lines_of}
use Rattle.object_warnings.proofs.overridden.push_others.Given as goal

-- The lines so far.
abbrev pub invariant-loop-number : goal.invariant-loop-number
invariant-loop-number l = l.found.items ≡ l.fn.found.items ++ lines_of (is_other_at l.blocks) l.number l.place
