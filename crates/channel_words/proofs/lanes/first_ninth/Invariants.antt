use Rattle.std.proofs.Common.{ℕ, ◌<◌}
use Rattle.channel_words.specs.Lanes.{earlier_of, names_of}
use Rattle.channel_words.proofs.lanes.first_ninth.Given as goal

-- no name so far stands a ninth time
abbrev pub invariant-loop-place : goal.invariant-loop-place
invariant-loop-place l = (k : ℕ) → k < l.place → earlier_of (names_of l.words) k < 8
