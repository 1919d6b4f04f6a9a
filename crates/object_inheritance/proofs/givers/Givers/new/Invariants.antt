use Rattle.std.proofs.Common.{◌≡◌, List, take, ℕ}
use Rattle.object_inheritance.specs.Givers.{own_in}
use Rattle.object_inheritance.specs.claims.Inherited.{own}
use Rattle.object_inheritance.proofs.givers.Givers.new.Given as goal

-- What the blocks so far give has been added.
abbrev pub invariant-loop-place : goal.invariant-loop-place
invariant-loop-place l = (name : List ℕ) (q : ℕ) → own_in l.blocks l.by_name.entries name q ≡ own (take l.place l.blocks) name q
