use Rattle.std.proofs.Common.{◌≡◌, take, true}
use Rattle.object_groups.specs.claims.First.{IsFirst}
use Rattle.object_unknown_services.specs.Unknown.{is_before, LacksAmong}
use Rattle.object_unknown_services.proofs.unknown.first_lacking.Given as goal

-- The groups stay, and the lowest of the places so far.
abbrev pub invariant-loop-place : goal.invariant-loop-place
invariant-loop-place l = record {
  same : l.hosts ≡ l.initial.hosts;
  lowest : IsFirst (λ at. (is_before l.first at ≡ true) × LacksAmong l.naming.blocks l.naming.role l.stamps l.stamp (take l.place-index l.places) at) l.lowest;
}
