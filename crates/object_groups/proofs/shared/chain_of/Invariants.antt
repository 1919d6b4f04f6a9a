use Rattle.std.proofs.Common.{[], List, length, reverse, suc, ℕ}
use Rattle.std.specs.Prelude.{None, Option, Some, unwrap_or}
use Rattle.object_groups.specs.Shared.{IsChain}
use Rattle.object_inheritance.specs.Columns.{given_from}
use Rattle.object_inheritance.specs.claims.Inherited.{given, list_given}
use Rattle.object_reader.specs.declared.block.Block.{Block}
use Rattle.object_groups.proofs.shared.chain_of.Given as goal

-- The blocks so far, and the list that is next.
abbrev pub invariant-loop-next : goal.invariant-loop-next
invariant-loop-next l = IsChain l.values.blocks l.values.directive (reverse l.places.items) l.fn.place (unwrap_or (list_given (given_from l.values.blocks l.values.directive l.next)) [])

-- What is given to the next block gets less.
abbrev left : List Block → List ℕ → Option ℕ → ℕ
left blocks directive None = 0
left blocks directive (Some place) = suc (length (given blocks directive place))

abbrev pub decreases-loop-next : goal.decreases-loop-next
decreases-loop-next l = left l.values.blocks l.values.directive l.next
