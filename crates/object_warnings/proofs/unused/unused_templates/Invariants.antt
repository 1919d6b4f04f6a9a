use Rattle.std.proofs.Common.{◌≡◌}
use Rattle.object_warnings.specs.Numbers.{numbers_where}
use Rattle.object_warnings.specs.Unused.{is_unused_template}
use Rattle.object_warnings.proofs.unused.unused_templates.Given as goal

-- Those so far.
abbrev pub invariant-loop-place : goal.invariant-loop-place
invariant-loop-place l = l.found.items ≡ numbers_where (is_unused_template l.blocks l.kind) l.place
