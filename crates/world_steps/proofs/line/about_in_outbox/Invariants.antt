use Rattle.std.proofs.Common.{◌≡◌, take}
use Rattle.decider.specs.claims.Outbox.{waiting_at}
use Rattle.steps.specs.claims.Lanes.{about}
use Rattle.world_steps.proofs.line.about_in_outbox.Given as goal

abbrev pub invariant-loop-place : goal.invariant-loop-place
invariant-loop-place l = l.found.items ≡ about l.object.0 (take l.place (waiting_at l.outbox l.lane.0))
