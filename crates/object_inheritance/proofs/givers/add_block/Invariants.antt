use Rattle.std.proofs.Common.{◌≡◌, List, None, Some, cond, eqb, take, ℕ}
use Rattle.std.specs.Prelude.{slice_get}
use Rattle.std.specs.Option.{option_or}
use Rattle.object_reader.specs.declared.block.Block.{Block}
use Rattle.object_inheritance.specs.Givers.{own_in}
use Rattle.object_values.specs.claims.Values.{value_in}
use Rattle.object_inheritance.proofs.givers.add_block.Given as goal

-- What the directives so far give has been added.
abbrev pub invariant-loop-number : goal.invariant-loop-number
invariant-loop-number l = (blocks : List Block) → slice_get blocks l.place ≡ Some l.block → (name : List ℕ) (q : ℕ) → own_in blocks l.by_name.entries name q
    ≡ option_or (cond (eqb l.place q) (value_in (take l.number l.directives) name) None) (own_in blocks l.initial.by_name.entries name q)
