use Rattle.std.proofs.Common.{◌≡◌}
use Rattle.object_resolve.specs.Asked.{asked_below, service_number}
use Rattle.object_resolve.proofs.asked.asked_of.Given as goal

-- The flags of the blocks so far, and how many of these are service blocks.
abbrev pub invariant-loop-place : goal.invariant-loop-place
invariant-loop-place l = record {
  flags : l.asked.items ≡ asked_below l.blocks l.hosts l.escalated l.place;
  counted : l.services ≡ service_number l.blocks l.place;
}
