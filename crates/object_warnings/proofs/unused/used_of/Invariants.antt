use Rattle.std.proofs.Common.{◌≡◌, take}
use Rattle.std.specs.List.{flat_map}
use Rattle.object_values.specs.Values.{texts}
use Rattle.object_warnings.specs.Unused.{used_in}
use Rattle.object_warnings.proofs.unused.used_of.Given as goal

-- The names of the blocks so far.
abbrev pub invariant-loop-block : goal.invariant-loop-block
invariant-loop-block l = texts l.names.items ≡ flat_map (used_in l.kind) (take l.block-index l.blocks)
