use Rattle.std.proofs.Common.{◌≢◌, ℕ, ◌<◌}
use Rattle.notice_text.specs.claims.Texts.{lane_text}
use Rattle.trace.proofs.step_line.find_lane.Given as goal

-- No lane so far has the name.
abbrev pub invariant-loop-number : goal.invariant-loop-number
invariant-loop-number l = (k : ℕ) → k < l.number → lane_text l.config k ≢ l.name
