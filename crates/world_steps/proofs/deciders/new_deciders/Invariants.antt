use Rattle.std.proofs.Common.{◌≡◌, ℕ, [], Some, length, map, replicate, slice_get}
use Rattle.world_steps.specs.declared.deciders.KeptDecider.{KeptDecider}
use Rattle.world_steps.specs.claims.Worlds.{setup_for}
use Rattle.world_steps.specs.Worlds.{new_decider}
use Rattle.world_steps.specs.claims.Fits.{decider_state, DeciderFits}
use Rattle.world_steps.proofs.deciders.new_deciders.Given as goal

abbrev pub invariant-loop-decider : goal.invariant-loop-decider
invariant-loop-decider l = record {
  states : map decider_state l.made.items ≡ replicate l.decider (new_decider (length l.config.lanes));
  fits : (d : ℕ) (x : KeptDecider) → slice_get l.made.items d ≡ Some x
      → DeciderFits (setup_for l.config l.zone l.settings) [] d x;
}
