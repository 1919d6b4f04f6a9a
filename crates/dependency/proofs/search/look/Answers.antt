use Rattle.dependency.proofs.WalkLemmas.{Gains-none}
use Rattle.dependency.proofs.search.look.Goals as goal
use Rattle.dependency.proofs.search.look.Goals.{then-entry, else-entry}

pub returns-clause-gains : goal.returns-clause-gains
returns-clause-gains c = elim c.if-entry.branch [
  | then-entry w ↦ rw (w.if-entry.true, w.reach-is, ← w.from.ensures) w.find.ensures.gains
  | else-entry w ↦ rw (w.if-entry.false, w.reach-is) (Gains-none c.args.reach.now.found)
]
