use Rattle.std.proofs.Common.{◌≡◌, ℕ, ◌<◌, slice_get, Some}
use Rattle.due_model.specs.declared.config.Period.{Period}
use Rattle.acceptance_inputs.specs.Ladder.{IsStep}
use Rattle.acceptance_inputs.proofs.accepted.are_periods_in_order.Given as goal

abbrev pub invariant-loop-place : goal.invariant-loop-place
invariant-loop-place l = (place : ℕ) (period : Period) → place < l.place → slice_get l.periods place ≡ Some period → IsStep place period
