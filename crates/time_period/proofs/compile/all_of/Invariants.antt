use Rattle.std.proofs.Common.{◌≡◌, ℕ, ◌<◌, length}
use Rattle.std.specs.Prelude.{slice_index_or}
use Rattle.std.specs.Arc.{arc_value}
use Rattle.due_model.specs.declared.config.Config.{Config}
use Rattle.time_period.specs.claims.Days.{IsCompiled, never}
use Rattle.time_period.specs.Days.{IsTable}
use Rattle.time_period.proofs.compile.all_of.Given as goal

-- The periods so far.
abbrev pub invariant-loop-number : goal.invariant-loop-number
invariant-loop-number l = record {
  as_many : length l.all.items ≡ l.number;
  compiled : (c : Config) → IsTable c (arc_value l.shared) → (p : ℕ) → p < l.number → IsCompiled c (record { 0 = p }) (slice_index_or l.all.items p never);
}
