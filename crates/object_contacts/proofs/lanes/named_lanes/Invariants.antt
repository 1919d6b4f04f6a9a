use Rattle.std.proofs.Common.{◌≡◌, [], map, slice_index_or, take}
use Rattle.object_contacts.proofs.lanes.named_lanes.Given as goal

-- The names of the lanes so far.
abbrev pub invariant-loop-command : goal.invariant-loop-command
invariant-loop-command l = map (λ lane. lane.name) l.made.items ≡ map (λ command. slice_index_or l.commands command []) (take l.command-index l.lanes)
