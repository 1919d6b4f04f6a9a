use Rattle.std.proofs.Common.{◌≡◌, take}
use Rattle.delivery_worker.specs.claims.Picked.{join_lists}
use Rattle.engine.proofs.run_end.LaneEnd.taken.Given as goal

abbrev pub invariant-loop-number : goal.invariant-loop-number
invariant-loop-number l = l.all.items ≡ join_lists (take l.number l.self.records)
