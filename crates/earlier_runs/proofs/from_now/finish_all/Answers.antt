use Rattle.due_model.specs.declared.config.LaneId.{LaneId}
use Rattle.earlier_runs.proofs.LeftLaws.{below_more, below_none}
use Rattle.earlier_runs.proofs.from_now.finish_all.Goals as goal

pub loop-number-init : goal.loop-number-init
loop-number-init g c = below_none (λ (lane : LaneId). g.F.Journals.replaced c.args.journals.now c.args.config.now lane)

pub loop-number-preserved : goal.loop-number-preserved
loop-number-preserved g c =
    below_more (λ (lane : LaneId). g.F.Journals.replaced c.args.journals.now c.args.config.now lane) c.loop-number.number c.loop-number.invariant c.in_ok-finish_anew.ensures
