use Rattle.std.proofs.Common.{◌≡◌, ℕ, ◌||◌, length, take}
use Rattle.slow_rules.specs.Flags.{flag_at}
use Rattle.slow_rules.specs.Rounds.{object_flag}
use Rattle.slow_rules.proofs.dependencies.add_entries.Given as goal

abbrev pub invariant-loop-entry : goal.invariant-loop-entry
invariant-loop-entry l = record {
  as_many : length l.flags ≡ length l.initial.flags;
  each : (o : ℕ) → flag_at l.flags o ≡ (flag_at l.initial.flags o || object_flag l.daemons l.periods l.states l.before (take l.entry-index l.entries) o);
}
