use Rattle.std.proofs.Common.{◌≡◌, ◌∙◌, ◌∷◌, ◌++◌, List, [], ap, length, sym}
use Rattle.std.specs.Prelude.{slice_get}
use Rattle.std.specs.Arc.{arc_value}
use Rattle.due_model.specs.declared.config.LaneId.{LaneId}
use Rattle.earlier_runs.specs.declared.left.LaneState.{LaneState}
use Rattle.earlier_runs.specs.State.{IsLeft}
use Rattle.earlier_runs.proofs.LeftLaws.{each_more, longer, none_there}
use Rattle.earlier_runs.proofs.state.states_of.Goals as goal

pub loop-number-init : goal.loop-number-init
loop-number-init g c =
    let items : c.new-states.result.items ≡ [] = c.new-states.ensures.items in (
      ap length items,
      λ lane state at. absurd (none_there lane.0 state (ap (λ (xs : List LaneState). slice_get xs lane.0) (sym items) ∙ at)),
    )

pub loop-number-preserved : goal.loop-number-preserved
loop-number-preserved g c =
    let items : c.push.new.self.items ≡ c.loop-number.states.items ++ c.in_ok-state.state ∷ [] = c.in_ok-push.ensures.items in (
      longer c.loop-number.states.items c.push.new.self.items c.in_ok-state.state c.loop-number.number c.loop-number.invariant.0 items,
      each_more (λ (lane : LaneId) (state : LaneState). IsLeft (g.F.Journals.says c.args.journals.now (arc_value c.args.config.now) lane)
          (g.F.Journals.goes_on c.args.journals.now (arc_value c.args.config.now) lane) g.J.Journal.wrote c.args.drops_doubt state)
          c.loop-number.states.items c.push.new.self.items c.in_ok-state.state c.loop-number.number c.loop-number.invariant.0 items c.loop-number.invariant.1 c.in_ok-state.ensures,
    )
