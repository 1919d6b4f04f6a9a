use Rattle.std.proofs.Common.{◌≡◌, map, take}
use Rattle.object_names.specs.claims.Unknown.{is_registered}
use Rattle.object_names.proofs.unknown.registered_blocks.Given as goal

-- The marks of the blocks so far.
abbrev pub invariant-loop-block : goal.invariant-loop-block
invariant-loop-block l = l.registered.items ≡ map is_registered (take l.block-index l.blocks)
