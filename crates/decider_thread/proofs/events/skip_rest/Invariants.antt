use Rattle.std.proofs.Common.{◌≡◌, ◌++◌, List}
use Rattle.due_model.specs.declared.event.Event.{Event}
use Rattle.rtrb.specs.Ring.{SameConsumer, received}
use Rattle.decider_thread.specs.Decided.{heard}
use Rattle.decider_thread.proofs.events.skip_rest.Given as goal

abbrev pub invariant-loop : goal.invariant-loop
invariant-loop g l =
    SameConsumer l.fn.ring l.ring
    × ((past : List Event) → received l.fn.ring ≡ heard past → (newer : List Event) × (received l.ring ≡ heard (newer ++ past)))
