use Rattle.std.proofs.Common.{◌≡◌, map, take}
use Rattle.object_faults.specs.claims.Faults.{is_registered}
use Rattle.object_check.proofs.marks.registered_blocks.Given as goal

-- The marks of the blocks so far.
abbrev pub invariant-loop-block : goal.invariant-loop-block
invariant-loop-block l = l.registered.items ≡ map is_registered (take l.block-index l.blocks)
