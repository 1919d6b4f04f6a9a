use Rattle.std.proofs.Common.{◌≡◌, ◌∷◌, map, reverse}
use Rattle.std.specs.List.{range_with_len}
use Rattle.due_model.specs.claims.Readings.{hard}
use Rattle.slow_rules.proofs.views.states.Given as goal

abbrev pub invariant-loop-number : goal.invariant-loop-number
invariant-loop-number l = l.states.items ≡ map (λ o. hard o (l.event ∷ reverse l.past)) (range_with_len 0 l.number)
