use Rattle.std.proofs.Common.{◌≡◌, Some, length}
use Rattle.std.specs.Prelude.{slice_get}
use Rattle.std.specs.Arc.{arc_value}
use Rattle.due_model.specs.declared.config.LaneId.{LaneId}
use Rattle.earlier_runs.specs.declared.left.LaneState.{LaneState}
use Rattle.earlier_runs.specs.State.{IsLeft}
use Rattle.earlier_runs.proofs.state.states_of.Given as goal

-- one for each lane so far, by its journals
abbrev pub invariant-loop-number : goal.invariant-loop-number
invariant-loop-number g l =
    (length l.states.items ≡ l.number)
    × ((lane : LaneId) (state : LaneState) → slice_get l.states.items lane.0 ≡ Some state
    → IsLeft (g.F.Journals.says l.journals (arc_value l.config) lane) (g.F.Journals.goes_on l.journals (arc_value l.config) lane) g.J.Journal.wrote l.drops_doubt state)
