use Rattle.std.proofs.Common.{◌≡◌, length}
use Rattle.due_model.specs.claims.Limits.{max_periods}
use Rattle.time_period.specs.Flags.{flag_at}
use Rattle.time_period.proofs.NeedsLemmas.{HasSwept}
use Rattle.time_period.proofs.needs.reached.Given as goal

abbrev pub invariant-loop-place : goal.invariant-loop-place
invariant-loop-place l = record {
  long : length l.flags ≡ max_periods;
  swept : HasSwept l.table l.order l.number l.place-index (flag_at l.flags) l.needs.items;
}
