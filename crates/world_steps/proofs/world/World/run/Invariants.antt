use Rattle.std.proofs.Common.{◌≡◌, take}
use Rattle.world_steps.specs.claims.Runs.{LeadsTo, ReplacedTakeNothing, ShutTakesNothing}
use Rattle.world_steps.specs.claims.Views.{world_state, world_setup}
use Rattle.world_steps.proofs.world.World.run.Given as goal

abbrev pub invariant-loop-index : goal.invariant-loop-index
invariant-loop-index l = record {
  leads : LeadsTo (world_setup l.fn.self) (world_state l.fn.self) (take l.index l.steps) (world_state l.self);
  setup : world_setup l.self ≡ world_setup l.fn.self;
  shut : ShutTakesNothing (world_state l.fn.self) (world_state l.self);
  replaced : ReplacedTakeNothing (world_state l.fn.self) (world_state l.self);
}
