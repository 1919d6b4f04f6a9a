use Rattle.std.proofs.Common.{◌≡◌, ◌++◌}
use Rattle.messages.specs.Message.{lane_entries}
use Rattle.messages.proofs.contact.add_on_lanes.Given as goal

abbrev pub invariant-loop-lane : goal.invariant-loop-lane
invariant-loop-lane l = l.entries.items ≡ l.fn.entries.items ++ lane_entries l.message l.contact.0 l.rights l.lane
