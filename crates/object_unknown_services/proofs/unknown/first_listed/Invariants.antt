use Rattle.std.proofs.Common.{◌≡◌, take, true}
use Rattle.object_groups.specs.claims.First.{IsFirst}
use Rattle.object_unknown_services.specs.Unknown.{is_before, LacksIn}
use Rattle.object_unknown_services.proofs.unknown.first_listed.Given as goal

-- The groups stay, and the lowest of the places in the lists so far.
abbrev pub invariant-loop-number : goal.invariant-loop-number
invariant-loop-number l = record {
  same : l.hosts ≡ l.initial.hosts;
  lowest : IsFirst (λ at. (is_before l.first at ≡ true) × LacksIn l.naming.blocks l.naming.role l.stamps l.stamp l.lists (take l.number-index l.numbers) at) l.lowest;
}
