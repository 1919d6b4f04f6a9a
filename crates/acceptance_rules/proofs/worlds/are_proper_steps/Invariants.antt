use Rattle.std.proofs.Common.{All, take}
use Rattle.world_steps.specs.claims.Steps.{IsProperStep}
use Rattle.acceptance_rules.proofs.worlds.are_proper_steps.Given as goal

abbrev pub invariant-loop-step : goal.invariant-loop-step
invariant-loop-step l = All (IsProperStep l.config) (take l.step-index l.steps)
