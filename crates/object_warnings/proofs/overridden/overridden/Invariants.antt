use Rattle.std.proofs.Common.{◌≡◌}
use Rattle.object_warnings.specs.Directives.{lines_below}
use Rattle.object_warnings.specs.Overridden.{is_other_at}
use Rattle.object_warnings.proofs.overridden.overridden.Given as goal

-- The lines of the blocks so far.
abbrev pub invariant-loop-place : goal.invariant-loop-place
invariant-loop-place l = l.found.items ≡ lines_below (is_other_at l.blocks) l.blocks l.place
