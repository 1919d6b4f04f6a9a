use Rattle.std.proofs.Common.{◌≡◌, map, take}
use Rattle.object_values.specs.Values.{texts}
use Rattle.object_warnings.proofs.overridden.names_of.Given as goal

-- The names so far.
abbrev pub invariant-loop-directive : goal.invariant-loop-directive
invariant-loop-directive l = texts l.names.items ≡ map (λ directive. directive.name) (take l.directive-index l.directives)
