use Rattle.std.proofs.Common.{◌≡◌, take}
use Rattle.std.specs.List.{flat_map}
use Rattle.object_values.specs.Values.{texts}
use Rattle.object_warnings.specs.Unused.{named_in}
use Rattle.object_warnings.proofs.unused.named_by_rows.Given as goal

-- The names of the blocks so far.
abbrev pub invariant-loop-block : goal.invariant-loop-block
invariant-loop-block l = texts l.names.items ≡ flat_map (named_in l.kind) (take l.block-index l.blocks)
