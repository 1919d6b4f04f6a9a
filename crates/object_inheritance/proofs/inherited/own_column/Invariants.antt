use Rattle.std.proofs.Common.{◌≡◌, List, None, get_or, length, take, ℕ}
use Rattle.object_reader.specs.declared.block.Block.{Block}
use Rattle.object_inheritance.specs.Columns.{IsOwn}
use Rattle.object_inheritance.specs.Givers.{last_at}
use Rattle.object_inheritance.proofs.inherited.own_column.Given as goal

-- The column has the texts so far.
abbrev pub invariant-loop-own : goal.invariant-loop-own
invariant-loop-own l = record {
  long : length l.column.items ≡ l.count;
  each : (blocks : List Block) (place : ℕ) → IsOwn blocks place (last_at blocks (take l.own-index l.texts) place) (get_or l.column.items place None);
}
