use Rattle.std.proofs.Common.{◌≡◌}
use Rattle.object_warnings.specs.Directives.{lines_below, passes_at}
use Rattle.object_warnings.proofs.directives.lines_where.Given as goal

-- The lines of the blocks so far.
abbrev pub invariant-loop-place : goal.invariant-loop-place
invariant-loop-place l = l.found.items ≡ lines_below (passes_at l.test l.blocks) l.blocks l.place
