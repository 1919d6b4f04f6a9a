use Rattle.std.proofs.Common.{◌≡◌, ◌+◌, length, take}
use Rattle.std.specs.Prelude.{sum_by}
use Rattle.site_check.specs.Warnings.{unused_of}
use Rattle.site_check.proofs.warned_config.add_unused_objects.Given as goal

-- Those of the types so far.
abbrev pub invariant-loop-kind : goal.invariant-loop-kind
invariant-loop-kind l = length l.warned.items ≡ length l.fn.warned.items + sum_by (unused_of l.templates) (take l.kind-index l.kinds)
