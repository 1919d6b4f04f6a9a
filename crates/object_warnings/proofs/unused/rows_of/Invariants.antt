use Rattle.std.proofs.Common.{◌≡◌, map, take}
use Rattle.std.specs.List.{flat_map}
use Rattle.object_check.specs.Rows.{said_by}
use Rattle.object_reader.specs.declared.block.Block.{Block}
use Rattle.object_warnings.specs.Unused.{named_by}
use Rattle.object_warnings.proofs.unused.rows_of.Given as goal

-- The rows so far.
abbrev pub invariant-loop-row : goal.invariant-loop-row
invariant-loop-row l = (block : Block) → flat_map (named_by l.kind block) (map said_by l.rows.items) ≡ flat_map (named_by l.kind block) (map said_by (take l.row-index l.all))
