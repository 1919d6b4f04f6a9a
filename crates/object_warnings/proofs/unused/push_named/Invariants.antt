use Rattle.std.proofs.Common.{◌≡◌, ◌++◌, map, take}
use Rattle.std.specs.List.{flat_map}
use Rattle.object_check.specs.Rows.{said_by}
use Rattle.object_values.specs.Values.{texts}
use Rattle.object_warnings.specs.Unused.{named_by}
use Rattle.object_warnings.proofs.unused.push_named.Given as goal

-- The names so far.
abbrev pub invariant-loop-row : goal.invariant-loop-row
invariant-loop-row l = texts l.names.items ≡ texts l.fn.names.items ++ flat_map (named_by l.kind l.block) (map said_by (take l.row-index l.rows))
