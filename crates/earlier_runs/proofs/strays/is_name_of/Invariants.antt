use Rattle.std.proofs.Common.{◌≡◌, ℕ, ◌<◌}
use Rattle.journal_folder.specs.FileName.{file_name}
use Rattle.earlier_runs.proofs.strays.is_name_of.Given as goal

-- it is of none of the channels so far
abbrev pub invariant-loop-number : goal.invariant-loop-number
invariant-loop-number l = (k : ℕ) → k < l.number → file_name l.lane k ≡ l.name → ⊥
