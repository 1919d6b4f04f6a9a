use Rattle.std.proofs.Common.{ℕ, ◌<◌}
use Rattle.notice_text.specs.claims.Texts.{lane_text}
use Rattle.earlier_runs.specs.Strays.{IsNameOf}
use Rattle.earlier_runs.proofs.strays.is_stray.Given as goal

-- it is of none of the lanes so far
abbrev pub invariant-loop-number : goal.invariant-loop-number
invariant-loop-number l = (lane : ℕ) → lane < l.number → IsNameOf (lane_text l.config lane) l.name → ⊥
