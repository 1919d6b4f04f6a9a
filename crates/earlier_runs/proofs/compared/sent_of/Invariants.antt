use Rattle.std.proofs.Common.{◌≡◌, map, take}
use Rattle.earlier_runs.proofs.compared.sent_of.Given as goal

-- so much was sent of the first lanes
abbrev pub invariant-loop-state : goal.invariant-loop-state
invariant-loop-state l = l.sent.items ≡ map (λ state. state.sent) (take l.state-index l.states)
