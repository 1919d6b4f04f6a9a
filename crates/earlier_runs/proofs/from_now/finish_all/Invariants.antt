use Rattle.std.proofs.Common.{◌<◌}
use Rattle.due_model.specs.declared.config.LaneId.{LaneId}
use Rattle.earlier_runs.proofs.from_now.finish_all.Given as goal

-- those of the lanes so far took their place
abbrev pub invariant-loop-number : goal.invariant-loop-number
invariant-loop-number g l = (lane : LaneId) → lane.0 < l.number → g.F.Journals.replaced l.journals l.config lane
