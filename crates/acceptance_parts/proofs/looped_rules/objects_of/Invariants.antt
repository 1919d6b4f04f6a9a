use Rattle.std.specs.Prelude.{◌<◌, All}
use Rattle.acceptance_parts.proofs.looped_rules.objects_of.Given as goal

abbrev pub invariant-loop-node : goal.invariant-loop-node
invariant-loop-node l = All (λ node. node < l.count) l.objects.items
