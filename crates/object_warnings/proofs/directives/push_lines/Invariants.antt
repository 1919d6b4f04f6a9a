use Rattle.std.proofs.Common.{◌≡◌, ◌++◌}
use Rattle.object_warnings.specs.Directives.{passes_at}
use Rattle.object_warnings.proofs.LineLemmas.{lines_of}
use Rattle.object_warnings.proofs.directives.push_lines.Given as goal

-- The lines so far.
abbrev pub invariant-loop-number : goal.invariant-loop-number
invariant-loop-number l = l.found.items ≡ l.fn.found.items ++ lines_of (passes_at l.test l.blocks) l.number l.place
