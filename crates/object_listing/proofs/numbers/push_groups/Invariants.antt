use Rattle.std.proofs.Common.{◌≡◌, take}
use Rattle.object_groups.specs.claims.Groups.{grouping}
use Rattle.object_groups.specs.claims.Members.{IsMember}
use Rattle.object_listing.specs.Listing.{Adds}
use Rattle.object_listing.proofs.ListedLemmas.{OfSome}
use Rattle.object_listing.proofs.numbers.push_groups.Given as goal

-- The groups stay, and the members of those so far are added.
abbrev pub invariant-loop-group : goal.invariant-loop-group
invariant-loop-group l = record {
  same : l.groups ≡ l.initial.groups;
  added : Adds (OfSome (IsMember (grouping l.initial.groups.blocks l.initial.groups.kind)) (take l.group-index l.listed)) l.initial.numbers.items l.numbers.items;
}
