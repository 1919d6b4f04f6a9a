use Rattle.std.proofs.Common.{◌≡◌, take}
use Rattle.std.specs.Prelude.{Contains}
use Rattle.object_reached.specs.Listed.{AddsMembers}
use Rattle.object_reached.proofs.numbers.push_groups.Given as goal

-- The groups stay, and the members of those so far are added.
abbrev pub invariant-loop-group : goal.invariant-loop-group
invariant-loop-group l = record {
  same : l.groups ≡ l.initial.groups;
  added : AddsMembers l.initial.groups (Contains (take l.group-index l.listed)) l.initial.numbers.items l.numbers.items;
}
