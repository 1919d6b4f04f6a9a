use Rattle.std.proofs.Common.{◌≡◌, map, take}
use Rattle.object_values.specs.Values.{texts}
use Rattle.site_check.specs.Warnings.{line_name}
use Rattle.site_check.proofs.warned.names_of.Given as goal

-- The names so far.
abbrev pub invariant-loop-line : goal.invariant-loop-line
invariant-loop-line l = texts l.names.items ≡ map (line_name l.blocks) (take l.line-index l.lines)
