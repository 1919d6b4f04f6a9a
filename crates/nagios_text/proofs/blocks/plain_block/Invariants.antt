use Rattle.std.proofs.Common.{◌≡◌, flat_map, take}
use Rattle.nagios_text.specs.claims.Blocks.{plain_directive}
use Rattle.nagios_text.proofs.blocks.plain_block.Given as goal

-- What the directives mean that had their turn.
abbrev pub invariant-loop-directive : goal.invariant-loop-directive
invariant-loop-directive l = l.directives.items ≡ flat_map (plain_directive l.block.kind) (take l.directive-index l.given)
