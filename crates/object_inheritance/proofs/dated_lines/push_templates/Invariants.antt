use Rattle.std.proofs.Common.{◌≡◌, ◌≤◌, ◌++◌, drop, length, map, reverse}
use Rattle.object_inheritance.specs.declared.dated_lines.Turn.TheVariants.{Enter}
use Rattle.object_inheritance.proofs.dated_lines.push_templates.Given as goal

-- The templates from there on.
abbrev pub invariant-loop-left : goal.invariant-loop-left
invariant-loop-left l = record {
  low : l.left ≤ length l.used;
  turns : reverse l.turns.items ≡ map Enter (drop l.left l.used) ++ reverse l.initial.turns.items;
}

abbrev pub decreases-loop-left : goal.decreases-loop-left
decreases-loop-left l = l.left
