use Rattle.std.proofs.Common.{◌≡◌, map, take}
use Rattle.nagios_text.specs.claims.Blocks.{plain_block}
use Rattle.nagios_text.proofs.blocks.plain_blocks.Given as goal

-- What the blocks are taken for that had their turn.
abbrev pub invariant-loop-block : goal.invariant-loop-block
invariant-loop-block l = l.plain.items ≡ map plain_block (take l.block-index l.blocks)
